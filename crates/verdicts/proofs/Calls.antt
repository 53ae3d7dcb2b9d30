-- Calls that write what they are lent: each answers the first refusal and leaves it, or answers good and leaves what it made.
use mathlib.Core.Path.{◌≡◌, refl, sym, ap, ◌∙◌}
use Prim.Native.Nat.{◌<◌}
use native.Mathlib.Omega.{arith}
use mathlib.Core.List.{List, [], ◌∷◌, ◌++◌}
use mathlib.Core.Bool.{true, false}
use Rattle.verdicts.specs.Numbers.{number_of}
use Rattle.verdicts.specs.Rules.{Rule, ◌⇒◌, first, verdict_by, IsClear}
use Rattle.verdicts.specs.declared.Verdict.{Verdict}
use Rattle.verdicts.specs.declared.Verdict.TheVariants.{Good}
use Rattle.verdicts.proofs.Rules.{first-map, first_either, clear_first, Ranks}

-- every rule is a refusal
abbrev pub Refusals : List Rule → Type 0
Refusals rules = Ranks (λ v. 0 < number_of v) rules

-- good comes only where none of them holds
pub verdict-clear : (rules : List Rule) → Refusals rules → verdict_by rules ≡ Good → IsClear rules
verdict-clear [] r e = tt
verdict-clear ((true ⇒ v) ∷ rules) r e = absurd (omega (arith, ap number_of e, r.0))
verdict-clear ((false ⇒ v) ∷ rules) r e = (refl, verdict-clear rules r.1 e)

-- p is what was lent, as it was before, and q what is made of it
module _ {S : Type 0} (rules : List Rule) (p q : S) where
  abbrev pub called : Verdict × S
  called = first rules (λ v. (v, p)) (Good, q)

  pub call-answers : called.0 ≡ verdict_by rules
  call-answers = first-map (λ (x : Verdict × S). x.0) rules (λ v. (v, p)) (Good, q)

  -- an answer other than good leaves what was lent
  pub call-refused : (called.0 ≡ Good → ⊥) → called.1 ≡ p
  call-refused =
      first_either {A = Verdict × S} (λ x. (x.0 ≡ Good → ⊥) → x.1 ≡ p) rules (λ v. (v, p)) (Good, q)
      (λ v n. refl)
      (λ c n. absurd (n refl))

  pub call-clear : Refusals rules → called.0 ≡ Good → IsClear rules
  call-clear r e = verdict-clear rules r (sym call-answers ∙ e)

  pub call-done : IsClear rules → called ≡ (Good, q)
  call-done c = clear_first {A = Verdict × S} rules (λ v. (v, p)) (Good, q) c

  -- what holds of it before, and of what is made of it where no rule holds, holds of it after
  pub call-either : (P : S → Type 0) → P p → (IsClear rules → P q) → P called.1
  call-either P a b = first_either {A = Verdict × S} (λ x. P x.1) rules (λ v. (v, p)) (Good, q) (λ v. a) b

-- ---- two calls
-- by rules that are the same as far as they are asked: each test where no earlier one holds
abbrev pub RulesAlike : List Rule → List Rule → Type 0
RulesAlike [] [] = Unit
RulesAlike [] (s ∷ others) = ⊥
RulesAlike (r ∷ rules) [] = ⊥
RulesAlike ((b ⇒ v) ∷ rules) ((c ⇒ w) ∷ others) = (c ≡ b) × (w ≡ v) × (b ≡ false → RulesAlike rules others)

pub alike_self : (rules : List Rule) → RulesAlike rules rules
alike_self [] = tt
alike_self ((b ⇒ v) ∷ rules) = (refl, refl, λ f. alike_self rules)

pub alike-append : (rules others more also : List Rule) → RulesAlike rules others → (IsClear rules → RulesAlike more also) → RulesAlike (rules ++ more) (others ++ also)
alike-append [] [] more also a n = n tt
alike-append [] (s ∷ others) more also a n = absurd a
alike-append (r ∷ rules) [] more also a n = absurd a
alike-append ((b ⇒ v) ∷ rules) ((c ⇒ w) ∷ others) more also a n = (a.0, a.1, λ f. alike-append rules others more also (a.2 f) (λ c. n (f, c)))

-- they answer alike, and what relates what they were lent, and what they made, relates what they leave
pub calls-alike : {S : Type 0} (R : S → S → Type 0) {p q made done : S} (rules others : List Rule) → RulesAlike rules others → R p q → (IsClear rules → R made done)
    → ((called others q done).0 ≡ (called rules p made).0) × R (called rules p made).1 (called others q done).1
calls-alike R [] [] a l m = (refl, m tt)
calls-alike R [] (s ∷ others) a l m = absurd a
calls-alike R (r ∷ rules) [] a l m = absurd a
calls-alike R ((true ⇒ v) ∷ rules) ((c ⇒ w) ∷ others) a l m = rw (a.0, a.1) (refl, l)
calls-alike R ((false ⇒ v) ∷ rules) ((c ⇒ w) ∷ others) a l m = rw a.0 (calls-alike R rules others (a.2 refl) l (λ c. m (refl, c)))
