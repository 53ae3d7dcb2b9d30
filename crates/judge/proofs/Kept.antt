-- What keeps the judge's answer, and the packets that the edits go on with.
use mathlib.Core.Path.{◌≡◌, sym, ap, ◌∙◌}
use Prim.Native.Nat.{ℕ}
use mathlib.Core.List.{List, ◌∷◌, ◌++◌}
use mathlib.Core.Bool.{true, false, not, ◌&&◌}
use Rattle.verdicts.specs.Rules.{Rule, ◌⇒◌, first, IsClear}
use Rattle.verdicts.specs.declared.Verdict.{Verdict}
use Rattle.verdicts.specs.declared.Verdict.TheVariants.{Good, HeaderSum}
use Rattle.verdicts.proofs.Rules.{first-append, first-same, clear-join}
use Rattle.verdicts.proofs.Tests.{by_cases}
use Rattle.wire.specs.Outer.{four, outer_rules}
use Rattle.wire.specs.Walk.{walk_rules}
use Rattle.wire.specs.Inner.{message_rules, silent_of, whole_rules}
use Rattle.wire.proofs.Facts.{Facts}
use Rattle.wire.proofs.Same.{SameLayout, four_same, walk-rules-same, message-same}
use Rattle.wire.proofs.Held.{whole-facts}
use Rattle.cover.specs.Sums.{header_sums, message_sums}
use Rattle.judge.specs.Judge.{sum_rules, judge_rules, judge_of}

pub record Accepted (p : List ℕ) : Type 0 where
  pub whole : IsClear (whole_rules p)
  pub quiet : silent_of p ≡ true → four p ≡ true
  pub facts : Facts p

pub accepted-whole : (p : List ℕ) → IsClear (whole_rules p) → (silent_of p ≡ true → four p ≡ true) → Accepted p
accepted-whole p w q = record { whole = w; quiet = q; facts = whole-facts p w }

-- ---- the judge
abbrev self : Verdict → Verdict
self v = v

-- the rules between those of the outer shape and those of the message's sum
abbrev middle : List ℕ → List Rule
middle p = (not (header_sums p) ⇒ HeaderSum) ∷ (walk_rules p ++ message_rules p)

judge-as : (p : List ℕ) → judge_of p ≡ first (outer_rules p) self (first (middle p) self (first (sum_rules p) self Good))
unfolding judge_of judge_rules walk_rules
judge-as p = first-append (outer_rules p) _ self Good ∙ ap (first (outer_rules p) self) (first-append (middle p) (sum_rules p) self Good)

-- what the message's verdict rests on, where nothing refuses the shape
pub record Heard (p q : List ℕ) : Type 0 where
  pub silent : silent_of q ≡ silent_of p
  pub sums : (silent_of p && four p) ≡ false → message_sums q ≡ message_sums p

module _ {p q : List ℕ} (s : SameLayout p q) (h : header_sums q ≡ header_sums p) (m : IsClear (whole_rules p) → Heard p q) where
  sum_kept : IsClear (whole_rules p) → first (sum_rules q) self Good ≡ first (sum_rules p) self Good
  unfolding sum_rules
  sum_kept w =
      let u = m w in
      by_cases (silent_of p)
      (λ t. by_cases (four p) (λ f. simp (u.silent, four_same s.header, t, f)) (λ f. simp (u.silent, four_same s.header, t, f)))
      (λ t. simp (u.silent, t, u.sums (simp t)))

  -- the layout, the header's sum, and the message's where it has one
  pub judge-kept : judge_of q ≡ judge_of p
  unfolding whole_rules
  judge-kept =
      judge-as q
      ∙ rw (s.outer, h, walk-rules-same s.header, message-same s)
      (first-same (outer_rules p) self _ _ (λ c. first-same (middle p) self _ _ (λ d. sum_kept (clear-join (outer_rules p) (walk_rules p ++ message_rules p) c d.1))))
      ∙ sym (judge-as p)
