-- Each answer of the stretch edit's own rules.
use Prim.Native.Nat.{ℕ, ◌+◌, ◌-◌, ◌<◌, ◌≤◌}
use mathlib.Core.Path.{◌≡◌, ◌∙◌, sym, ap}
use mathlib.Core.Bool.{Bool, true, false, ◌&&◌, ◌||◌}
use mathlib.Core.List.{List}
use lib.ListN.{length}
use lib.Dec.{eqb}
use borrow.Author.Tests.{lt-ltb, le-ltb, eq-eqb, ne_eqb}
use Rattle.verdicts.specs.declared.Verdict.{Verdict}
use Rattle.verdicts.specs.declared.Verdict.TheVariants.{Good, Place, Blank}
use Rattle.verdicts.proofs.Tests.{by_cases, and-true}
use Rattle.wire.specs.Bytes.{put}
use Rattle.wire.specs.Inner.{protocol_of, body_of, end_of, start_of}
use Rattle.kept.specs.Update.{message_after}
use Rattle.kept.specs.Edits.{blank}
use Rattle.edit.specs.Rest.{stretch_in}

module _ (p : List ℕ) (place : ℕ) (new : List ℕ) where
  pub too_long : end_of p - body_of p < place + length new → ◌≡◌ {A = Verdict × List ℕ} (Place, p) (stretch_in p place new)
  too_long h = simp lt-ltb

  module _ (fits : place + length new ≤ end_of p - body_of p) where
    pub empty-kept : length new ≡ 0 → ◌≡◌ {A = Verdict × List ℕ} (Good, p) (stretch_in p place new)
    empty-kept e =
        by_cases (eqb (protocol_of p) 1)
        (λ t. simp (le-ltb, t, eq-eqb (length new) 0 e))
        (λ t. simp (le-ltb, t, eq-eqb (length new) 0 e))

    -- with the body's place and the answer of `blanks` in hand
    module _ (some : length new ≡ 0 → ⊥) (b : ℕ) (is : b ≡ body_of p) where
      abbrev empties : ℕ → Bool
      empties x = eqb (protocol_of p) 1 && (blank p p || blank p (put p (x + place) new))

      told : (r : Bool) → r ≡ empties b → empties (body_of p) ≡ r
      told r e = sym (e ∙ ap empties is)

      pub blank-refused : (r : Bool) → r ≡ empties b → r ≡ true → ◌≡◌ {A = Verdict × List ℕ} (Blank, p) (stretch_in p place new)
      blank-refused r e t =
          let c = and-true (eqb (protocol_of p) 1) (blank p p || blank p (put p (body_of p + place) new)) (told r e ∙ t) in
          simp (le-ltb, ne_eqb (length new) 0 some, c.0) (rw c.1)

      pub stretch-set : (r : Bool) → r ≡ empties b → r ≡ false → (q : List ℕ)
          → q ≡ message_after p (b + place - start_of p) (b + place) new (put p (b + place) new)
          → ◌≡◌ {A = Verdict × List ℕ} (Good, q) (stretch_in p place new)
      stretch-set r e f q eq =
          let d = told r e ∙ f in
          rw (eq, is)
          (by_cases (eqb (protocol_of p) 1)
          (λ t. simp (le-ltb, ne_eqb (length new) 0 some, t) (rw (simp t at d)))
          (λ t. simp (le-ltb, ne_eqb (length new) 0 some, t)))
