-- What the code of a chain goes by: the answers, and what the loop over the pieces keeps.
use Rattle.std.proofs.Common.{◌≡◌, ℕ, ◌+◌, ◌≤◌, ◌<◌, true, false, not, List, ◌++◌, length, get_or, take, drop, sym, ap, ap₂, ◌∙◌, arith, drop_of_length-le, length-append, eqb-true, le-ltb, lt-ltb, ltb-true, ltb-false, Ok, Err}
use borrow.Author.Tests.{not-true, not-false}
use Rattle.verdicts.specs.declared.Verdict.TheVariants.{Place}
use Rattle.verdicts.proofs.Tests.{by_cases, and-true}
use Rattle.sums.specs.Partials.{partial_of, nothing, joined, longest, too_long}
use Rattle.sums.specs.declared.Partial.{Partial}
use Rattle.sums.proofs.Folds.{fold_small}
use Rattle.sums.proofs.Joins.{join-strings, join-assoc, empty-partial, nothing-before, nothing-after}
use Rattle.sums.proofs.Rests.{two-more}
use Rattle.chain.specs.Chain.{fits, pieced, chain_of}
use Rattle.chain.specs.Sizes.{sizes, taken}
use Rattle.chain.proofs.Lists.{fits-end, fits-piece, pieced-length}

-- ---- the answers
module _ (buffer pieces : List ℕ) where
  pub chain-good : fits (length buffer) pieces ≡ true → length (pieced buffer pieces) ≤ longest
      → chain_of buffer pieces ≡ Ok (partial_of (pieced buffer pieces))
  unfolding chain_of
  chain-good e h = rw (e, le-ltb longest (length (pieced buffer pieces)) h)

  pub chain-place : fits (length buffer) pieces ≡ false → chain_of buffer pieces ≡ Err Place
  unfolding chain_of
  chain-place e = rw e

  pub chain-long : fits (length buffer) pieces ≡ true → longest < length (pieced buffer pieces) → chain_of buffer pieces ≡ Err Place
  unfolding chain_of
  chain-long e h = rw (e, lt-ltb longest (length (pieced buffer pieces)) h)

  -- by what the test of the list says
  chain-taken : taken (length buffer) pieces ≡ true → (fits (length buffer) pieces ≡ true) × (length (pieced buffer pieces) ≤ longest)
  unfolding taken
  chain-taken e =
      let b = and-true (fits (length buffer) pieces) (not (too_long (sizes pieces))) e in
      (b.0, omega (arith, pieced-length buffer pieces b.0, ltb-false longest (sizes pieces) (not-true _ b.1)))

  pub chain-done : taken (length buffer) pieces ≡ true → chain_of buffer pieces ≡ Ok (partial_of (pieced buffer pieces))
  chain-done e = let t = chain-taken e in chain-good t.0 t.1

  pub chain-refused : taken (length buffer) pieces ≡ false → chain_of buffer pieces ≡ Err Place
  unfolding taken
  chain-refused e =
      by_cases (fits (length buffer) pieces)
      (λ t. let n : not (too_long (sizes pieces)) ≡ false = rw t at e in
      chain-long t (omega (arith, pieced-length buffer pieces t, ltb-true longest (sizes pieces) (not-false _ n))))
      chain-place

-- ---- what the loop over the pieces keeps: the sum so far, joined with that of what is left, is the sum of the whole
pub record Along (buffer pieces : List ℕ) (sum : Partial) (i : ℕ) : Type 0 where
  pub within : i ≤ length pieces
  pub rest-fits : fits (length buffer) (drop i pieces) ≡ true
  pub whole : joined sum (partial_of (pieced buffer (drop i pieces))) ≡ partial_of (pieced buffer pieces)
  pub small : sum.fold.0 ≤ 65535
  pub short : length (pieced buffer pieces) ≤ longest

module _ {buffer pieces : List ℕ} where
  pub along-start : taken (length buffer) pieces ≡ true → Along buffer pieces nothing 0
  along-start e =
      let t = chain-taken buffer pieces e in
      record { within = omega arith; rest-fits = t.0; whole = nothing-before (pieced buffer pieces); small = omega arith; short = t.1 }

  -- the next piece, and that its length still stays within the range
  module _ {sum : Partial} {i offset size : ℕ} (h : i + 1 < length pieces) (l : Along buffer pieces sum i)
      (o : offset ≡ get_or pieces i 0) (n : size ≡ get_or pieces (i + 1) 0) where
    along-rest : pieced buffer (drop i pieces) ≡ take size (drop offset buffer) ++ pieced buffer (drop (i + 2) pieces)
    unfolding pieced
    along-rest =
        ap (pieced buffer) (two-more pieces i h)
        ∙ ap₂ (λ o n. take n (drop o buffer) ++ pieced buffer (drop (i + 2) pieces)) (sym o) (sym n)

    pub along-short : sum.length + length (take size (drop offset buffer)) ≤ longest
    along-short =
        let w : sum.length + length (pieced buffer (drop i pieces)) ≡ length (pieced buffer pieces) = ap (λ s. s.length) l.whole in
        omega (arith, w, l.short, ap length along-rest, length-append (take size (drop offset buffer)) (pieced buffer (drop (i + 2) pieces)))

    pub along-piece : {next : Partial} → next ≡ joined sum (partial_of (take size (drop offset buffer))) → Along buffer pieces next (i + 2)
    along-piece e =
        let piece = take size (drop offset buffer) in
        let rest = pieced buffer (drop (i + 2) pieces) in
        record {
          within = omega arith;
          rest-fits = (fits-piece (length buffer) pieces i h l.rest-fits).1;
          whole =
              ap (λ s. joined s (partial_of rest)) e
              ∙ sym (join-assoc sum (partial_of piece) (partial_of rest))
              ∙ ap (joined sum) (join-strings piece rest)
              ∙ ap (λ xs. joined sum (partial_of xs)) (sym along-rest)
              ∙ l.whole;
          small = rw e (fold_small _);
          short = l.short;
        }

  pub along-end : {sum : Partial} {i : ℕ} → length pieces ≤ i + 1 → Along buffer pieces sum i → sum ≡ partial_of (pieced buffer pieces)
  unfolding pieced
  along-end {sum} {i} h l =
      let n : length pieces ≤ i = omega (arith, eqb-true i (length pieces) (sym (fits-end (length buffer) pieces i l.within h) ∙ l.rest-fits)) in
      sym (nothing-after sum l.small)
      ∙ ap (joined sum) (sym empty-partial)
      ∙ ap (λ xs. joined sum (partial_of (pieced buffer xs))) (sym (drop_of_length-le pieces n))
      ∙ l.whole
