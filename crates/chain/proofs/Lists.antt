-- Laws of lists of pieces: which fit, and what the loop that tests one keeps.
use Rattle.std.proofs.Common.{◌≡◌, ℕ, ◌+◌, ◌*◌, ◌/◌, ◌≤◌, ◌<◌, true, false, leb, eqb, List, [], ◌∷◌, length, get_or, take, drop, refl, sym, ap, ◌∙◌, arith, drop_of_length-le, length-append, length-take, length-drop, le-leb, leb-true, eqb-true, le-ltb, lt-ltb, eq-eqb, ne_eqb, ◌%◌}
use Rattle.std.specs.Simd.{first_chunks}
use mathlib.Core.Bool.{and-true as and_yes, and-false}
use borrow.Author.Tests.{lt-leb, eqb-false}
use Rattle.verdicts.proofs.Tests.{by_cases, and-true}
use Rattle.sums.specs.Partials.{longest}
use Rattle.std.proofs.lemmas.List.{drop_more}
use Rattle.sums.proofs.Rests.{two-more, chunk-at}
use Rattle.chain.specs.Chain.{fits, pieced}
use Rattle.chain.specs.Sizes.{sizes, taken}

-- the j-th piece of a list: its offset and its length
pub piece-at : (xs : List ℕ) (cs : List (List ℕ)) (j : ℕ) → cs ≡ first_chunks 2 (length xs / 2) xs → j < length xs / 2
    → (get_or (get_or cs j []) 0 0 ≡ get_or xs (2 * j) 0) × (get_or (get_or cs j []) 1 0 ≡ get_or xs (2 * j + 1) 0)
piece-at xs cs j e h =
    let p = ap (λ ys. get_or ys j []) e ∙ chunk-at 2 (length xs / 2) j xs h ∙ ap (take 2) (two-more xs (2 * j) (omega arith)) in
    (ap (λ q. get_or q 0 0) p, ap (λ q. get_or q 1 0) p)

-- ---- the test of a list, piece by piece
module _ (end : ℕ) (xs : List ℕ) (i : ℕ) where
  fits-past : i + 1 < length xs → end < get_or xs i 0 + get_or xs (i + 1) 0 → fits end (drop i xs) ≡ false
  unfolding fits
  fits-past h k = rw (two-more xs i h, lt-leb (get_or xs i 0 + get_or xs (i + 1) 0) end k)

  fits_next : i + 1 < length xs → get_or xs i 0 + get_or xs (i + 1) 0 ≤ end → fits end (drop i xs) ≡ fits end (drop (i + 2) xs)
  unfolding fits
  fits_next h k = rw (two-more xs i h, le-leb (get_or xs i 0 + get_or xs (i + 1) 0) end k)

  pub fits-end : i ≤ length xs → length xs ≤ i + 1 → fits end (drop i xs) ≡ eqb i (length xs)
  unfolding fits
  fits-end h k =
      by_cases (eqb i (length xs))
      (λ e. let n : length xs ≤ i = omega (arith, eqb-true i (length xs) e) in rw (drop_of_length-le xs n) (sym e))
      (λ e. let n : ¬ (i ≡ length xs) = eqb-false i (length xs) e in
      rw (drop_more xs i 0 (omega arith), drop_of_length-le xs k) (sym e))

  pub fits-piece : i + 1 < length xs → fits end (drop i xs) ≡ true → (get_or xs i 0 + get_or xs (i + 1) 0 ≤ end) × (fits end (drop (i + 2) xs) ≡ true)
  unfolding fits
  fits-piece h e =
      let n = get_or xs i 0 + get_or xs (i + 1) 0 in
      let b = and-true (leb n end) (fits end (drop (i + 2) xs)) (ap (fits end) (sym (two-more xs i h)) ∙ e) in
      (leb-true n end b.0, b.1)

sizes-next : (xs : List ℕ) (i : ℕ) → i + 1 < length xs → sizes (drop i xs) ≡ get_or xs (i + 1) 0 + sizes (drop (i + 2) xs)
unfolding sizes
sizes-next xs i h = rw (two-more xs i h)

sizes-few : (xs : List ℕ) → length xs ≤ 1 → sizes xs ≡ 0
unfolding sizes
sizes-few [] h = refl
sizes-few (x ∷ []) h = refl
sizes-few (x ∷ y ∷ xs) h = absurd (omega arith)

-- ---- what the loop over the list keeps: what is left fits where the list does, and room is what the range leaves for it
pub record Tested (end : ℕ) (xs : List ℕ) (room i : ℕ) : Type 0 where
  pub within : i ≤ length xs
  pub rest-fits : fits end (drop i xs) ≡ fits end xs
  pub rest-room : room + sizes xs ≡ longest + sizes (drop i xs)

pub tested-start : (end : ℕ) (xs : List ℕ) → Tested end xs longest 0
tested-start end xs = record { within = omega arith; rest-fits = refl; rest-room = refl }

module _ {end : ℕ} {xs : List ℕ} {room i : ℕ} (l : Tested end xs room i) where
  module _ (h : i + 1 < length xs) where
    pub tested-piece : (next : ℕ) → get_or xs i 0 + get_or xs (i + 1) 0 ≤ end → next + get_or xs (i + 1) 0 ≡ room → Tested end xs next (i + 2)
    tested-piece next k e =
        record {
          within = omega arith;
          rest-fits = sym (fits_next end xs i h k) ∙ l.rest-fits;
          rest-room = omega (arith, l.rest-room, sizes-next xs i h);
        }

    pub tested-past : end < get_or xs i 0 + get_or xs (i + 1) 0 → false ≡ taken end xs
    unfolding taken
    tested-past k = rw (sym l.rest-fits, fits-past end xs i h k)

    pub tested-long : room < get_or xs (i + 1) 0 → false ≡ taken end xs
    unfolding taken
    tested-long k =
        rw (lt-ltb longest (sizes xs) (omega (arith, l.rest-room, sizes-next xs i h))) (sym (and-false (fits end xs)))

  pub tested-end : length xs ≤ i + 1 → eqb i (length xs) ≡ taken end xs
  unfolding taken
  tested-end h =
      rw (le-ltb longest (sizes xs) (omega (arith, l.rest-room, sizes-few (drop i xs) (omega (arith, length-drop i xs)))))
      (sym (fits-end end xs i l.within h) ∙ l.rest-fits ∙ sym (and_yes (fits end xs)))

  -- the same where i is even: then the list's length says it
  pub tested-even : i % 2 ≡ 0 → length xs ≤ i + 1 → eqb (length xs % 2) 0 ≡ taken end xs
  tested-even p h = even ∙ tested-end h
    where
      w : i ≤ length xs
      w = l.within

      even : eqb (length xs % 2) 0 ≡ eqb i (length xs)
      even =
          by_cases (eqb i (length xs))
          (λ e. let n = eqb-true i (length xs) e in eq-eqb (length xs % 2) 0 (omega (arith, w)) ∙ sym e)
          (λ e. let n : ¬ (i ≡ length xs) = eqb-false i (length xs) e in ne_eqb (length xs % 2) 0 (λ z. omega (arith, w)) ∙ sym e)

-- ---- of a list that fits, the lengths together are the joined length
pub pieced-length : (buffer xs : List ℕ) → fits (length buffer) xs ≡ true → length (pieced buffer xs) ≡ sizes xs
unfolding fits pieced sizes
pieced-length buffer [] e = refl
pieced-length buffer (offset ∷ []) e = refl
pieced-length buffer (offset ∷ size ∷ rest) e =
    let b = and-true (leb (offset + size) (length buffer)) (fits (length buffer) rest) e in
    let n = leb-true (offset + size) (length buffer) b.0 in
    omega (
      arith,
      length-append (take size (drop offset buffer)) (pieced buffer rest),
      length-take size (drop offset buffer),
      length-drop offset buffer,
      pieced-length buffer rest b.1,
    )
