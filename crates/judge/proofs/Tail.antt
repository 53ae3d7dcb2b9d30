-- The tail is neither judged nor read: packets that agree up to it have the same verdict.
use mathlib.Core.Path.{◌≡◌, refl}
use Prim.Native.Nat.{ℕ}
use native.Mathlib.Omega.{arith}
use mathlib.Core.List.{List, ◌++◌}
use lib.ListN.{length-append, get_or-append}
use Rattle.verdicts.specs.Rules.{IsClear}
use Rattle.wire.specs.Outer.{header_end, addresses_at, addresses_length, outer_rules}
use Rattle.wire.specs.Inner.{start_of, end_of, length_of, message_bytes, silent_of, whole_rules, tail_at, UpToTail, addresses_of}
use Rattle.wire.proofs.Facts.{outer-facts}
use Rattle.wire.proofs.Writes.{agree-part}
use Rattle.wire.proofs.Same.{four_same, family-same, header-end-same, protocol-same, start-same, end_same}
use Rattle.wire.proofs.Held.{clear-carries, whole-facts}
use Rattle.wire.proofs.Tails.{tail-end, tail-order, tail-layout, tail-agree}
use Rattle.cover.specs.Sums.{header_total, message_total, header_sums, message_sums}
use Rattle.judge.specs.Judge.{judge_of}
use Rattle.judge.proofs.Kept.{judge-kept}

module _ {p q : List ℕ} (a : UpToTail p q) where
  pub tail-header : header_total q ≡ header_total p
  unfolding header_total
  tail-header =
      let o = tail-order (outer-facts p a.outer) in
      rw (header-end-same (tail-layout a).header, agree-part (tail-agree a) 0 (header_end p) (omega arith))

  -- what the message's rules look at, where there is a message
  module _ (w : IsClear (whole_rules p)) where
    ends : tail_at p ≡ end_of p
    ends = tail-end p (clear-carries p w)

    bytes : message_bytes q ≡ message_bytes p
    bytes =
        let k = whole-facts p w in
        let e = ends in
        rw (start-same (tail-layout a).header, end_same (tail-layout a)) (agree-part (tail-agree a) (start_of p) (length_of p) (omega arith))

    addresses : addresses_of q ≡ addresses_of p
    addresses =
        let k = whole-facts p w in
        let e = ends in
        rw (four_same (tail-layout a).header) (agree-part (tail-agree a) (addresses_at p) (addresses_length p) (omega arith))

    pub tail-silent : silent_of q ≡ silent_of p
    unfolding silent_of
    tail-silent = rw (family-same (tail-layout a).header, protocol-same (tail-layout a).header, bytes)

    pub tail-message : message_total q ≡ message_total p
    unfolding message_total
    tail-message = rw (family-same (tail-layout a).header, protocol-same (tail-layout a).header, addresses, bytes)

  -- neither the bytes of the tail nor their number count
  pub tail-unread : judge_of q ≡ judge_of p
  unfolding header_sums message_sums
  tail-unread =
      judge-kept (tail-layout a) (rw (four_same (tail-layout a).header, tail-header))
      (λ w. record { silent = tail-silent w; sums = λ u. rw (tail-message w) refl })

-- so bytes behind a packet change nothing
pub tail-added : (p tail : List ℕ) → IsClear (outer_rules p) → judge_of (p ++ tail) ≡ judge_of p
tail-added p tail c =
    let k = outer-facts p c in
    let o = tail-order k in
    tail-unread (record { outer = c; long = omega (arith, length-append p tail); same = λ i h. get_or-append p tail 0 i (omega arith) })
