-- A record's packet, and the one that begins there and has the rest of the buffer for a tail: their pieces are the same.
use Rattle.std.proofs.Common.{◌≡◌, sym, ap, ◌∙◌, ℕ, ◌+◌, ◌-◌, ◌/◌, ◌≤◌, arith, List, true, true≢false, length, drop, length-drop, length-take-le, get_or-take, eqb}
use Rattle.verdicts.specs.Rules.{IsClear}
use Rattle.verdicts.proofs.Rules.{clear_both}
use Rattle.verdicts.proofs.Tests.{by_cases}
use Rattle.wire.specs.Bytes.{part}
use Rattle.wire.specs.Outer.{four, header_end, declared_end, outer_rules}
use Rattle.wire.specs.Inner.{UpToTail}
use Rattle.wire.proofs.Facts.{OuterFacts, outer-facts}
use Rattle.wire.proofs.Writes.{Agree, agree-part}
use Rattle.wire.proofs.Tails.{tail-order, tail-layout}
use Rattle.judge.specs.Judge.{header_sum_rule}
use Rattle.fragments.specs.Fragments.{packet_rules, piece_of}
use Rattle.fragments.specs.Gathered.{piece_at, Arrived}

-- an IPv4 packet whose outer shape nothing refuses
pub packet-outer : (p : List ℕ) → IsClear (packet_rules p) → IsClear (outer_rules p)
unfolding packet_rules
packet-outer p c = (clear_both (outer_rules p) (header_sum_rule p) c.1).0

pub packet-four : (p : List ℕ) → IsClear (packet_rules p) → four p ≡ true
unfolding packet_rules outer_rules
packet-four p c = by_cases (four p) (λ t. t) (λ f. absurd (true≢false (simp (f, c.0) at (packet-outer p c).1.0)))

module _ (b : List ℕ) (at size : ℕ) (h : at + size ≤ length b) (c : IsClear (packet_rules (part b at size))) where
  abbrev p : List ℕ
  p = part b at size

  abbrev q : List ℕ
  q = drop at b

  facts : OuterFacts p
  facts = outer-facts p (packet-outer p c)

  long : length p ≡ size
  long = length-take-le size q (omega (arith, length-drop at b))

  agree : Agree size p q
  agree = record { left = omega (arith, long); right = omega (arith, length-drop at b); same = λ i l. sym (get_or-take size q i 0 l) }

  up_to : UpToTail p q
  up_to =
      let k = facts in
      let o = tail-order k in
      let l = long in
      let r = agree.right in
      record { outer = packet-outer p c; long = omega arith; same = λ i x. agree.same i (omega arith) }

  header : header_end q ≡ header_end p
  unfolding header_end
  header = let k = facts in let l = long in rw (agree.same 0 (omega arith))

  declared : declared_end q ≡ declared_end p
  unfolding declared_end
  declared = let k = facts in let l = long in rw (agree.same 0 (omega arith), agree.same 2 (omega arith), agree.same 3 (omega arith), agree.same 4 (omega arith), agree.same 5 (omega arith))

  pub tail-arrived : Arrived b at
  tail-arrived =
      let k = facts in
      let l = long in
      let z = agree.same 0 (omega arith) in
      record {
        inside = omega arith;
        four = ap (λ x. eqb (x / 16) 4) z ∙ packet-four p c;
        outer = rw (tail-layout up_to).outer (packet-outer p c);
      }

  pub tail-piece : piece_at b at ≡ piece_of p
  unfolding piece_of
  tail-piece =
      let k = facts in
      let l = long in
      let a = agree in
      rw (
        a.same 4 (omega arith),
        a.same 5 (omega arith),
        a.same 6 (omega arith),
        a.same 7 (omega arith),
        a.same 9 (omega arith),
        agree-part a 12 8 (omega arith),
        header,
        declared,
        agree-part a (header_end p) (declared_end p - header_end p) (omega arith),
      )
