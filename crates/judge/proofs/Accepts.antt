-- What the judge asks of a packet that it does not refuse.
use mathlib.Core.Path.{◌≡◌, sym, ap, ◌∙◌}
use Prim.Native.Nat.{ℕ, ◌≤◌}
use native.Mathlib.Omega.{arith}
use mathlib.Core.List.{List, ◌++◌}
use mathlib.Core.Bool.{true, false, ◌||◌}
use borrow.Author.Tests.{eqb-true, not-false}
use Rattle.verdicts.specs.Numbers.{number_of}
use Rattle.verdicts.specs.Rules.{IsClear}
use Rattle.verdicts.specs.declared.Verdict.{Verdict}
use Rattle.verdicts.specs.declared.Verdict.TheVariants.{Good, Unsummed}
use Rattle.verdicts.proofs.Tests.{by_cases}
use Rattle.verdicts.proofs.Rules.{first-append, clear_first, clear_both, clear-join, past}
use Rattle.wire.specs.Outer.{four, six, version_of, outer_rules}
use Rattle.wire.specs.Walk.{walk_rules}
use Rattle.wire.specs.Messages.{shape_rules}
use Rattle.wire.specs.Inner.{silent_of, message_rules, whole_rules}
use Rattle.cover.specs.Sums.{header_sums, message_sums}
use Rattle.judge.specs.Judge.{header_sum_rule, sum_rules, judge_rules, judge_of, message_verdict}
use Rattle.judge.proofs.Answers.{unsummed, missing, bad, good}

-- a packet's shape, in its parts
pub record Shaped (p : List ℕ) : Type 0 where
  pub outer : IsClear (outer_rules p)
  pub walk : IsClear (walk_rules p)
  pub inner : IsClear (message_rules p)
  pub six : four p ≡ false → version_of p ≡ 6

pub shaped : (p : List ℕ) → IsClear (whole_rules p) → Shaped p
unfolding whole_rules outer_rules
shaped p w =
    let a = clear_both (outer_rules p) (walk_rules p ++ message_rules p) w in
    let b = clear_both (walk_rules p) (message_rules p) a.1 in
    record {
      outer = a.0;
      walk = b.0;
      inner = b.1;
      six = λ f. eqb-true (version_of p) 6 (simp f at (not-false (four p || six p) a.0.1.0));
    }

module _ (p : List ℕ) where
  pub accepted : (v : Verdict) → number_of v ≤ 1 → judge_of p ≡ v → IsClear (whole_rules p) × (header_sums p ≡ true) × (message_verdict p ≡ v)
  unfolding judge_of judge_rules whole_rules message_verdict outer_rules walk_rules message_rules shape_rules
  accepted v h e =
      let later = walk_rules p ++ message_rules p in
      let a = past (λ w. 2 ≤ number_of w) (outer_rules p ++ (header_sum_rule p ++ later)) (sum_rules p) v (λ n. omega arith) (omega arith) e in
      let c = clear_both (outer_rules p) (header_sum_rule p ++ later) a.0 in
      (clear-join (outer_rules p) later c.0 c.1.1, not-false (header_sums p) c.1.0, a.1)

  pub accepting : IsClear (whole_rules p) → header_sums p ≡ true → message_verdict p ≡ judge_of p
  unfolding judge_of judge_rules whole_rules message_verdict
  accepting w h =
      let s = shaped p w in
      let self : Verdict → Verdict = λ v. v in
      sym (first-append (outer_rules p) _ self Good ∙ clear_first (outer_rules p) self _ s.outer
      ∙ simp h (first-append (walk_rules p) _ self Good ∙ clear_first (walk_rules p) self _ s.walk
      ∙ first-append (message_rules p) _ self Good ∙ clear_first (message_rules p) self _ s.inner))

  -- the message's verdict, by its tests
  pub verdict-good : message_verdict p ≡ Good → (silent_of p ≡ false) × (message_sums p ≡ true)
  verdict-good e =
      by_cases (silent_of p)
      (λ u. by_cases (four p)
      (λ f. absurd (omega (arith, ap number_of (unsummed p u f ∙ e))))
      (λ f. absurd (omega (arith, ap number_of (missing p u f ∙ e)))))
      (λ u. by_cases (message_sums p)
      (λ m. (u, m))
      (λ m. absurd (omega (arith, ap number_of (bad p u m ∙ e)))))

  pub verdict-unsummed : message_verdict p ≡ Unsummed → (silent_of p ≡ true) × (four p ≡ true)
  verdict-unsummed e =
      by_cases (silent_of p)
      (λ u. by_cases (four p)
      (λ f. (u, f))
      (λ f. absurd (omega (arith, ap number_of (missing p u f ∙ e)))))
      (λ u. by_cases (message_sums p)
      (λ m. absurd (omega (arith, ap number_of (good p u m ∙ e))))
      (λ m. absurd (omega (arith, ap number_of (bad p u m ∙ e)))))
