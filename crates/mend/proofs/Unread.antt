-- The mender doesn't read the tail: of packets that agree up to it, it answers alike and leaves such packets.
use mathlib.Core.Path.{◌≡◌}
use Prim.Native.Nat.{ℕ}
use native.Mathlib.Omega.{arith}
use mathlib.Core.List.{List}
use mathlib.Core.Bool.{◌&&◌}
use Rattle.verdicts.specs.Rules.{IsClear}
use Rattle.verdicts.proofs.Tests.{by_cases}
use Rattle.verdicts.proofs.Calls.{alike_self, calls-alike}
use Rattle.wire.specs.Bytes.{word_at, put_word}
use Rattle.wire.specs.Outer.{four, header_field}
use Rattle.wire.specs.Inner.{field_at, silent_of, whole_rules, tail_at, UpToTail}
use Rattle.wire.proofs.Facts.{OuterFacts, outer-facts}
use Rattle.wire.proofs.Writes.{Agree, agree-put, agree-word}
use Rattle.wire.proofs.Same.{same_layout, same_self, four_same, field-same, udp-same, whole_same}
use Rattle.wire.proofs.Held.{clear-carries, whole-facts}
use Rattle.wire.proofs.Tails.{tail-end, tail-order, tail-same, tail-layout, tail-agree, tail-still}
use Rattle.cover.specs.Sums.{header_total, message_total}
use Rattle.judge.proofs.Tail.{tail-header, tail-silent, tail-message}
use Rattle.mend.specs.Fresh.{fresh_header, fresh_message}
use Rattle.mend.specs.Mend.{mended_header, mended_message, mend_of}
use Rattle.mend.proofs.Fresh.{aside_h, aside_f, mended-same}
use Rattle.mend.proofs.Mended.{both-set}

module _ {p q : List ℕ} (a : UpToTail p q) where
  here : OuterFacts p
  here = outer-facts p a.outer

  there : OuterFacts q
  there = outer-facts q (rw (tail-layout a).outer a.outer)

  -- ---- the header's field
  fresh-header : fresh_header q ≡ fresh_header p
  unfolding fresh_header
  fresh-header =
      let o = tail-order here in
      let k = here in
      let e : header_total (put_word q header_field 0) ≡ header_total (put_word p header_field 0) =
      omega (arith, aside_h there (same_self q), aside_h here (same_self p), tail-header a, agree-word (tail-agree a) header_field (omega arith)) in
      rw e

  header-agrees : Agree (tail_at p) (mended_header p) (mended_header q)
  unfolding mended_header
  header-agrees =
      let o = tail-order here in
      let k = here in
      rw (four_same (tail-layout a).header, fresh-header)
      (by_cases (four p) (λ f. simp f (agree-put (tail-agree a) header_field _ (omega arith))) (λ f. simp f (tail-agree a)))

  header-mended : UpToTail (mended_header p) (mended_header q)
  header-mended = tail-still a (same_layout (mended-same here)) (mended-same there).long header-agrees

  -- ---- the message's
  module _ (w : IsClear (whole_rules p)) where
    fresh-message : fresh_message q ≡ fresh_message p
    unfolding fresh_message
    fresh-message =
        let k = whole-facts p w in
        let m = whole-facts q (rw (whole_same (tail-layout a)) w) in
        let h = (tail-layout a).header in
        let f = field-same h in
        let t = tail-end p (clear-carries p w) in
        let x : word_at q (field_at q) ≡ word_at p (field_at p) = rw f (agree-word (tail-agree a) (field_at p) (omega arith)) in
        let e : message_total (put_word q (field_at q) 0) ≡ message_total (put_word p (field_at p) 0) =
        omega (arith, aside_f m (same_self q), aside_f k (same_self p), tail-message a w) in
        rw (udp-same h, e)

    message-agrees : Agree (tail_at p) (mended_message p) (mended_message q)
    unfolding mended_message
    message-agrees =
        let k = whole-facts p w in
        let h = (tail-layout a).header in
        let t = tail-end p (clear-carries p w) in
        rw (tail-silent a w, four_same h, field-same h, fresh-message)
        (by_cases (silent_of p && four p) (λ s. simp s (tail-agree a)) (λ s. simp s (agree-put (tail-agree a) (field_at p) _ (omega arith))))

-- ---- both
pub mend-unread : {p q : List ℕ} → UpToTail p q → ((mend_of q).0 ≡ (mend_of p).0) × UpToTail (mend_of p).1 (mend_of q).1
unfolding mend_of
mend-unread {p} {q} a =
    rw (whole_same (tail-layout a))
    (calls-alike UpToTail (whole_rules p) (whole_rules p) (alike_self (whole_rules p)) a
    (λ w.
    let l = same_layout (mended-same (here a)) in
    let g = message-agrees (header-mended a) (rw (whole_same l) w) in
    tail-still a (same_layout (both-set p w).same) (both-set q (rw (whole_same (tail-layout a)) w)).same.long (rw (tail-same l) at g)))
