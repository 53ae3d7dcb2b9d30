-- The walk as a whole: it ends after at most eight headers, inside the payload, and what it answers is what ends a chain of them.
use mathlib.Core.Path.{◌≡◌, refl, sym, ap}
use mathlib.Core.Logic.{⊎_elim}
use Prim.Native.Nat.{ℕ, ◌+◌, ◌*◌, ◌≤◌}
use native.Mathlib.Omega.{arith}
use mathlib.Core.List.{List}
use mathlib.Core.Bool.{true, false, true≢false}
use borrow.Author.Tests.{eqb-true}
use Rattle.verdicts.specs.Numbers.{number_of}
use Rattle.verdicts.specs.Rules.{IsClear}
use Rattle.verdicts.specs.declared.Verdict.{Verdict}
use Rattle.verdicts.specs.declared.Verdict.TheVariants.{Shape, Fragment, Uncovered}
use Rattle.wire.specs.Bytes.{byte_at, word_at}
use Rattle.wire.specs.Outer.{four, header_end}
use Rattle.wire.specs.Walk.{Way, refused, reached, walk_of, ends, refusals, walk_rules, protocol_in, start_in}
use Rattle.wire.specs.Chain.{Other, Chain, Closes, refuses, arrives, WalksTo}
use Rattle.wire.specs.Inner.{protocol_of, start_of}
use Rattle.wire.proofs.Chains.{walk-by-ends, ends-walk-by, chain-order, chain-within}
use Rattle.wire.proofs.Facts.{walk-six}
use Rattle.wire.proofs.Held.{Three, Ruled, walk-ruled}

module _ (p : List ℕ) (f : four p ≡ false) where
  -- whatever the bytes say, a chain of at most eight headers leads to the end of the walk
  pub walk_ends : WalksTo p (walk_of p)
  walk_ends = rw (walk-six p f) (walk-by-ends p (40 + word_at p 4) 8 (byte_at p 6) 40)

  -- and what ends such a chain is the walk's answer
  pub ends-walk : {answer : Way} → WalksTo p answer → walk_of p ≡ answer
  ends-walk e = rw (walk-six p f) (ends-walk-by p (40 + word_at p 4) e)

  -- so it passes no more headers than have room in the payload, 8 bytes for each, and none at or behind its end
  pub walk-bounded : (walk_ends.count ≤ 8) × (40 + 8 * walk_ends.count ≤ walk_ends.place) × (walk_ends.place ≤ 40 + word_at p 4)
  walk-bounded =
      let w = walk_ends in
      (omega (arith, w.few), chain-order w.chain, chain-within w.chain (omega arith))

  -- ---- a message that is reached
  arrived : {left l place k start : ℕ} {answer : Way} → Closes p (40 + word_at p 4) left l place answer → answer ≡ reached k start → Other l × (l ≡ k) × (place ≡ start)
  arrived (refuses r) e = let z : ◌≡◌ {A = ℕ} 0 1 = cc in absurd (omega arith)
  arrived (arrives o) e = (o, (cc), (cc))

  pub record Arrives (k start : ℕ) : Type 0 where
    pub count : ℕ
    pub chain : Chain p (40 + word_at p 4) count (byte_at p 6) 40 k start
    pub other : Other k

  pub walk-arrives : {k start : ℕ} → walk_of p ≡ reached k start → Arrives k start
  walk-arrives e =
      let w = walk_ends in
      let a = arrived w.closes e in
      rw (← a.1, ← a.2) (record { count = w.count; chain = w.chain; other = a.0 })

-- ---- a refusal that it ends in
by_names : (u v x y : Verdict) → u ≡ x → v ≡ y → (number_of x ≡ number_of y → x ≡ y) → number_of u ≡ number_of v → u ≡ v
by_names u v x y i j h e = rw (i, j) (h (rw (i, j) at e))

same : (u v : Verdict) → Three u → Three v → number_of u ≡ number_of v → u ≡ v
same u v a b e =
    ⊎_elim
    (λ i. ⊎_elim
    (λ j. by_names u v Fragment Fragment i j (λ z. refl) e)
    (⊎_elim (λ j. by_names u v Fragment Uncovered i j (λ z. absurd (omega arith)) e) (λ j. by_names u v Fragment Shape i j (λ z. absurd (omega arith)) e)) b)
    (⊎_elim
    (λ i. ⊎_elim
    (λ j. by_names u v Uncovered Fragment i j (λ z. absurd (omega arith)) e)
    (⊎_elim (λ j. by_names u v Uncovered Uncovered i j (λ z. refl) e) (λ j. by_names u v Uncovered Shape i j (λ z. absurd (omega arith)) e)) b)
    (λ i. ⊎_elim
    (λ j. by_names u v Shape Fragment i j (λ z. absurd (omega arith)) e)
    (⊎_elim (λ j. by_names u v Shape Uncovered i j (λ z. absurd (omega arith)) e) (λ j. by_names u v Shape Shape i j (λ z. refl) e)) b))
    a

ends-in : (w : Way) → Ruled w → (v : Verdict) → Three v → ends w v ≡ true → w ≡ refused v
ends-in (refused u) r v t e = ap refused (same u v r t (eqb-true (number_of u) (number_of v) e))
ends-in (reached n at) r v t e = absurd (true≢false (sym e))

pub walk-ends-in : (p : List ℕ) (v : Verdict) → Three v → ends (walk_of p) v ≡ true → walk_of p ≡ refused v
walk-ends-in p v t e = ends-in (walk_of p) (walk-ruled p) v t e

-- ---- and where it ends in none
clear-way : (header : ℕ) (w : Way) → Ruled w → IsClear (refusals w) → w ≡ reached (protocol_in w) (start_in header w)
clear-way header (refused v) r c = absurd (true≢false (⊎_elim (λ e. rw e at c.0) (⊎_elim (λ e. rw e at c.1.0) (λ e. rw e at c.1.1.0)) r))
clear-way header (reached n at) r c = refl

pub clear-reached : (p : List ℕ) → IsClear (walk_rules p) → walk_of p ≡ reached (protocol_of p) (start_of p)
unfolding walk_rules protocol_of start_of
clear-reached p c = clear-way (header_end p) (walk_of p) (walk-ruled p) c
