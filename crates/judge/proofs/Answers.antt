-- Each answer of the judge, from the facts that lead to it.
use Rattle.std.specs.Prelude.{[], Ok, Err}
use mathlib.Core.Path.{◌≡◌, sym, ap, ◌∙◌}
use Prim.Native.Nat.{ℕ}
use mathlib.Core.List.{List, ◌++◌, append-nil, append_assoc}
use mathlib.Core.Bool.{true, false}
use Rattle.verdicts.specs.declared.Verdict.{Verdict}
use Rattle.verdicts.specs.declared.Verdict.TheVariants.{Good, Unsummed, HeaderSum, Missing, MessageSum}
use Rattle.verdicts.specs.Rules.{first}
use Rattle.verdicts.proofs.Rules.{first-append, first-map, first-ok, clear_both}
use Rattle.sums.specs.Fold.{passes}
use Rattle.wire.specs.Outer.{four, outer_rules, outer_of}
use Rattle.wire.specs.Walk.{walk_rules}
use Rattle.wire.specs.Inner.{silent_of, way_of, message_rules, inner_of, message_of, Holds}
use Rattle.wire.specs.declared.Header.{Header}
use Rattle.wire.specs.declared.Carried.{Carried}
use Rattle.wire.specs.declared.Message.{Message}
use Rattle.wire.proofs.Held.{answered, after-outer, after-walk}
use Rattle.cover.specs.Sums.{header_total, header_sums, message_sums}
use Rattle.judge.specs.Judge.{header_sum_rule, judge_of, judge_rules, to_sum_of, sum_rules, message_verdict}

-- ---- the message to sum: each answer
pub refused : (p : List ℕ) (v : Verdict) → Err v ≡ outer_of p → Err v ≡ to_sum_of p
unfolding to_sum_of
refused p v e = simp (after-outer, sym e)

module _ (p : List ℕ) (h : Header) (e : Ok h ≡ outer_of p) where
  pub unsound : header_sums p ≡ false → Err HeaderSum ≡ to_sum_of p
  unfolding to_sum_of
  unsound s = simp (after-outer, sym e, s)

  module _ (s : header_sums p ≡ true) where
    in_order : to_sum_of p ≡ answered Err (inner_of p) (way_of p)
    unfolding to_sum_of inner_of
    in_order = simp (after-outer, sym e, s) (rw append-nil at (after-walk p [] Err (Ok (message_of p))))

    pub lost : (v : Verdict) → Err v ≡ way_of p → Err v ≡ to_sum_of p
    lost v w = rw (in_order, ← w)

    pub inner-summed : (c : Carried) → Ok c ≡ way_of p → inner_of p ≡ to_sum_of p
    inner-summed c w = rw (in_order, ← w)

-- ---- and the verdict behind it
pub judged : (p : List ℕ) → judge_of p ≡ answered (λ v. v) (message_verdict p) (to_sum_of p)
unfolding judge_of judge_rules message_verdict to_sum_of
judged p =
    let before = outer_rules p ++ (header_sum_rule p ++ (walk_rules p ++ message_rules p)) in
    let rules : judge_rules p ≡ before ++ sum_rules p = simp append_assoc in
    ap (λ rules. first rules (λ v. v) Good) rules
    ∙ first-append before (sum_rules p) (λ v. v) Good
    ∙ sym (first-map (answered (λ v. v) (message_verdict p)) before Err (Ok (message_of p)))

pub held_to_sum : (p : List ℕ) (m : Message) → Ok m ≡ to_sum_of p → Holds p m
unfolding to_sum_of
held_to_sum p m e =
    let q = first-ok (outer_rules p ++ (header_sum_rule p ++ (walk_rules p ++ message_rules p))) e in
    let a = clear_both (outer_rules p) (header_sum_rule p ++ (walk_rules p ++ message_rules p)) q.1 in
    record { is = q.0; outer = a.0; inner = (clear_both (walk_rules p) (message_rules p) a.1.1).1 }

module _ (p : List ℕ) where
  pub unsummed : silent_of p ≡ true → four p ≡ true → Unsummed ≡ message_verdict p
  unfolding message_verdict sum_rules
  unsummed u f = simp (u, f)

  pub missing : silent_of p ≡ true → four p ≡ false → Missing ≡ message_verdict p
  unfolding message_verdict sum_rules
  missing u f = simp (u, f)

  pub bad : silent_of p ≡ false → message_sums p ≡ false → MessageSum ≡ message_verdict p
  unfolding message_verdict sum_rules
  bad u s = simp (u, s)

  pub good : silent_of p ≡ false → message_sums p ≡ true → Good ≡ message_verdict p
  unfolding message_verdict sum_rules
  good u s = simp (u, s)

  pub sums4 : four p ≡ true → passes (header_total p) ≡ header_sums p
  unfolding header_sums
  sums4 f = simp f

  pub sums6 : four p ≡ false → true ≡ header_sums p
  unfolding header_sums
  sums6 f = simp f
