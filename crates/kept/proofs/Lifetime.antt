-- The lifetime edit involves the header alone: what decides its answer, which packets pass, and what it leaves.
use mathlib.Core.Path.{◌≡◌, refl, ap, ◌∙◌}
use mathlib.Core.Logic.{◌⊎◌, ⊎_elim}
use Prim.Native.Nat.{ℕ, ◌<◌, ◌≤◌}
use native.Mathlib.Omega.{arith}
use mathlib.Core.List.{List, [], ◌∷◌, ◌++◌}
use lib.ListN.{length}
use borrow.Author.Tests.{le-ltb}
use Rattle.verdicts.specs.Numbers.{number_of}
use Rattle.verdicts.specs.Rules.{verdict_by}
use Rattle.verdicts.specs.declared.Verdict.{Verdict}
use Rattle.verdicts.specs.declared.Verdict.TheVariants.{Good}
use Rattle.verdicts.proofs.Tests.{by_cases}
use Rattle.verdicts.proofs.Rules.{clear_both, clear-join, past}
use Rattle.verdicts.proofs.Calls.{call-answers}
use Rattle.wire.specs.Bytes.{byte_at, put, put_word}
use Rattle.wire.specs.Outer.{four, declared_end, header_field, lifetime_at, outer_rules}
use Rattle.wire.specs.Walk.{walk_rules}
use Rattle.wire.specs.Inner.{message_rules}
use Rattle.wire.proofs.Facts.{outer-facts}
use Rattle.wire.proofs.Writes.{put-wrote}
use Rattle.judge.specs.Judge.{header_sum_rule, sum_rules, judge_rules, judge_of}
use Rattle.kept.specs.Update.{header_after}
use Rattle.kept.specs.Edits.{lifetime_rules}
use Rattle.kept.specs.Runs.{lifetime, apply, rules_of}
use Rattle.kept.proofs.Single.{made, apply-as, accepted-done, edit-either}

answers : (p : List ℕ) → (apply lifetime p).0 ≡ verdict_by (rules_of lifetime p)
answers p = ap (λ (x : Verdict × List ℕ). x.0) (apply-as lifetime p) ∙ call-answers (rules_of lifetime p) p (made lifetime p)

-- its answer depends on the packet's length and first nine bytes: two packets that agree in these get the same one, whatever they carry
pub lifetime-by-header : (p q : List ℕ) → length q ≡ length p → ((i : ℕ) → i < 9 → byte_at q i ≡ byte_at p i) → (apply lifetime q).0 ≡ (apply lifetime p).0
unfolding outer_rules declared_end
lifetime-by-header p q l e =
    rw (answers p, answers q)
    (by_cases (four p)
    (λ f. simp (l, e 0 (omega arith), e 2 (omega arith), e 3 (omega arith), e 8 (omega arith), f))
    (λ f. simp (l, e 0 (omega arith), e 2 (omega arith), e 3 (omega arith), e 4 (omega arith), e 5 (omega arith), e 7 (omega arith), f)))

-- whatever the judge says but 2, 3 and 4, a lifetime that isn't spent is lowered
pub lifetime-passes : (p : List ℕ) → (number_of (judge_of p) < 2) ⊎ (4 < number_of (judge_of p)) → 2 ≤ byte_at p (lifetime_at p) → (apply lifetime p).0 ≡ Good
unfolding judge_of judge_rules outer_rules
lifetime-passes p n l =
    let c = (past (λ v. (2 ≤ number_of v) × (number_of v ≤ 4)) (outer_rules p) (header_sum_rule p ++ (walk_rules p ++ (message_rules p ++ sum_rules p))) (judge_of p)
    (λ h. ⊎_elim (λ x. omega arith) (λ x. omega arith) n) (omega arith) refl).0 in
    ap (λ (x : Verdict × List ℕ). x.0)
    (accepted-done lifetime p (clear-join (outer_rules p) (lifetime_rules p) c (le-ltb (byte_at p (lifetime_at p)) 2 l, tt)))

-- and no byte behind the header's field changes, whatever it belongs to
module _ (p : List ℕ) (i : ℕ) (long : 20 ≤ length p) (late : 12 ≤ i) where
  lowered6 : (x : ℕ) → byte_at (put p 7 (x ∷ [])) i ≡ byte_at p i
  lowered6 x = (put-wrote p 7 (x ∷ []) (omega arith)).above i (omega arith)

  lowered4 : (x w : ℕ) → byte_at (put_word (put p 8 (x ∷ [])) header_field w) i ≡ byte_at p i
  lowered4 x w =
      let l = put-wrote p 8 (x ∷ []) (omega arith) in
      (put-wrote (put p 8 (x ∷ [])) header_field _ (let e = l.long in omega arith)).above i (omega arith) ∙ l.above i (omega arith)

pub lifetime-leaves : (p : List ℕ) (i : ℕ) → 12 ≤ i → byte_at (apply lifetime p).1 i ≡ byte_at p i
unfolding header_after
lifetime-leaves p i h =
    edit-either lifetime p (λ q. byte_at q i ≡ byte_at p i) refl
    (λ c.
    let k = outer-facts p (clear_both (outer_rules p) (lifetime_rules p) c).0 in
    by_cases (four p) (λ f. simp f (lowered4 p i (omega arith) h _ _)) (λ f. simp f (lowered6 p i (omega arith) h _)))
