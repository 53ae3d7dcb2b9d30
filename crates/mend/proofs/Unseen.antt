-- What the sum can't see: changes of a good packet's body that leave it good.
use mathlib.Core.Path.{◌≡◌, sym, ap, ◌∙◌}
use mathlib.Core.Logic.{◌↔◌, inl}
use Prim.Native.Nat.{ℕ, ◌+◌, ◌-◌, ◌/◌, ◌%◌, ◌≤◌}
use native.Mathlib.Omega.{arith}
use mathlib.Core.List.{List, [], ◌∷◌}
use mathlib.Core.Bool.{true, true≢false}
use lib.ListN.{length}
use Rattle.verdicts.specs.declared.Verdict.TheVariants.{Good}
use Rattle.sums.specs.Fold.{passes}
use Rattle.sums.proofs.Unseen.{Apart, changed-passes}
use Rattle.wire.specs.Bytes.{word_at, put, put_word}
use Rattle.wire.specs.Inner.{body_of, covered_of, end_of, field_at, start_of}
use Rattle.wire.proofs.Writes.{put-wrote, word-above, word_below}
use Rattle.wire.proofs.Same.{Same, same_layout, four_same, same_self, same_step, soft-message}
use Rattle.cover.specs.Sums.{header_total, message_total, header_sums, message_sums}
use Rattle.cover.proofs.Blocks.{header-out, message-word}
use Rattle.judge.specs.Judge.{judge_of}
use Rattle.judge.proofs.Accepts.{verdict-good}
use Rattle.judge.proofs.Accepts.{accepted as judge_accepted}
use Rattle.judge.proofs.Kept.{Accepted, accepted-whole, judge-kept}
use Rattle.mend.proofs.Fresh.{silent-carry}

-- what is known of a good packet
good-message : (p : List ℕ) → judge_of p ≡ Good → Accepted p × (message_sums p ≡ true)
good-message p g =
    let a = judge_accepted p Good (omega arith) g in
    let v = verdict-good p a.2 in
    (accepted-whole p a.0 (λ u. absurd (true≢false (sym u ∙ v.0))), v.1)

-- where the header and the message's field stay, the verdict is the message's sum's
sum_tells : {p q : List ℕ} → Accepted p → Same p q → header_total q ≡ header_total p → word_at q (field_at p) ≡ word_at p (field_at p)
    → message_sums q ≡ message_sums p → judge_of q ≡ judge_of p
unfolding header_sums
sum_tells {p} c s h e m = judge-kept (same_layout s) (rw (four_same s.header, h)) (λ w. record { silent = silent-carry c.facts (same_self p) s e; sums = λ u. m })

-- new bytes in the body of a good packet leave it good exactly when the covered block's total is not 0 and differs from the
-- one before by a multiple of 65535
pub body-changed-unseen : (p : List ℕ) (at : ℕ) (new : List ℕ) → judge_of p ≡ Good → body_of p ≤ at → at + length new ≤ end_of p
    → (judge_of (put p at new) ≡ Good) ↔ ((message_total (put p at new) ≡ 0 → ⊥) × Apart (message_total (put p at new)) (message_total p))
unfolding message_sums message_total
body-changed-unseen p at new g low high =
    let a = good-message p g in
    let k = a.0.facts in
    let z = same_self p in
    let w = put-wrote p at new (omega arith) in
    let s = same_step z w (soft-message k at (length new) (omega arith)) in
    let x = changed-passes (covered_of p) (covered_of (put p at new)) a.1 in (
      λ j. x.0 (good-message (put p at new) j).1,
      λ j. sum_tells a.0 s (header-out k.outer z s w (omega arith)) (word_below w (field_at p) (omega arith)) (x.1 j ∙ sym a.1) ∙ g,
    )

-- ---- words of the body at an even distance from the message's start, and so from the covered block's, since a
-- pseudo-header has an even length
-- one that is 0000 made FFFF
pub zeros-to-ones-unseen : (p : List ℕ) (i : ℕ) → judge_of p ≡ Good → body_of p ≤ i → i + 2 ≤ end_of p → (i - start_of p) % 2 ≡ 0
    → word_at p i ≡ 0 → judge_of (put_word p i 65535) ≡ Good
zeros-to-ones-unseen p i g low high even e =
    let k = (good-message p g).0.facts in
    let z = same_self p in
    let w = put-wrote p i (255 ∷ 255 ∷ []) (omega arith) in
    let s = same_step z w (soft-message k i 2 (omega arith)) in
    let t = message-word 65535 k z s i (omega arith) even high w in
    (body-changed-unseen p i (255 ∷ 255 ∷ []) g low high).1 (λ n. omega arith, (1, inl (omega arith)))

-- two exchanged, the one at i before the one at j
pub exchanged-words-unseen : (p : List ℕ) (i j : ℕ) → judge_of p ≡ Good → body_of p ≤ i → i + 2 ≤ j → j + 2 ≤ end_of p
    → (i - start_of p) % 2 ≡ 0 → (j - start_of p) % 2 ≡ 0 → judge_of (put_word (put_word p i (word_at p j)) j (word_at p i)) ≡ Good
unfolding message_sums
exchanged-words-unseen p i j g low next high even even' =
    let c = (good-message p g).0 in
    let k = c.facts in
    let z = same_self p in
    let x = word_at p j in
    let y = word_at p i in
    let q = put_word p i x in
    let u = put-wrote p i (x / 256 ∷ x % 256 ∷ []) (omega arith) in
    let s = same_step z u (soft-message k i 2 (omega arith)) in
    let v = put-wrote q j (y / 256 ∷ y % 256 ∷ []) (let l = u.long in omega arith) in
    let r = same_step s v (soft-message k j 2 (omega arith)) in
    let first = message-word x k z s i (omega arith) even (omega arith) u in
    let second = message-word y k s r j (omega arith) even' high v in
    let total : message_total (put_word q j y) ≡ message_total p = omega (arith, word-above u j (omega arith)) in
    sum_tells c r (header-out k.outer s r v (omega arith) ∙ header-out k.outer z s u (omega arith))
    (word_below v (field_at p) (omega arith) ∙ word_below u (field_at p) (omega arith)) (ap passes total) ∙ g
