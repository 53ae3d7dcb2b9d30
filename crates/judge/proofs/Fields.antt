-- The field that mender and edits write, and the body that stretches stand in, are where the RFCs put them.
use Rattle.std.specs.Prelude.{Option, None}
use mathlib.Core.Path.{◌≡◌, refl, sym, ap, ◌∙◌}
use mathlib.Core.Logic.{◌⊎◌, inl, inr}
use Prim.Native.Nat.{ℕ, ◌+◌, ◌-◌}
use native.Mathlib.Omega.{arith}
use mathlib.Core.List.{List}
use mathlib.Core.Bool.{Bool, true, false, true≢false}
use borrow.Author.Tests.{eq-eqb, ne_eqb}
use Rattle.verdicts.specs.Rules.{IsClear}
use Rattle.wire.specs.Bytes.{byte_at, word_at}
use Rattle.wire.specs.Outer.{four, version_of, declared_end, outer_rules}
use Rattle.wire.specs.Table.{plan_of}
use Rattle.wire.specs.Messages.{shape_rules}
use Rattle.wire.specs.Inner.{protocol_of, start_of, row_in, tcp, udp, field_at, body_of, pseudo, message_rules, whole_rules}
use Rattle.wire.specs.declared.Plan.{Plan}
use Rattle.wire.proofs.Facts.{Facts, facts}
use Rattle.judge.specs.Rfc.{ihl, upper_length, datagram_length, Stands, tcp_header, Fields4, FieldsAt, Fields6, FieldsByRfc}
use Rattle.judge.proofs.Accepts.{Shaped, shaped}
use Rattle.judge.proofs.Covered.{start4, declared4, protocol4, declared6}
use Rattle.judge.proofs.Leads.{led}
use Rattle.judge.proofs.Protocols.{Line, Kind, icmp, tcp4, udp4, none4, tcp6, udp6, icmp6, none6, plan, kind}

module _ (p : List ℕ) (s : Shaped p) where
  known : Facts p
  known = facts p s.outer s.inner

  -- by the table's line
  module _ {v n fixed place : ℕ} {summed : Bool} (first : ℕ) (start : start_of p ≡ first) (l : Line p v n (plan fixed place summed)) where
    field : field_at p ≡ first + place
    unfolding field_at
    field = ap (λ (r : Option Plan). start_of p + (plan_of r).field) l.row ∙ ap (λ x. x + place) start

    before : pseudo p ≡ summed
    unfolding pseudo
    before = ap (λ (r : Option Plan). (plan_of r).pseudo) l.row

    body : (n ≡ 6 → ⊥) → body_of p ≡ first + fixed
    unfolding body_of
    body o =
        let t : tcp p ≡ false = ne_eqb (protocol_of p) 6 (λ e. o (sym l.protocol ∙ e)) in
        simp t (ap (λ (r : Option Plan). start_of p + (plan_of r).fixed) l.row ∙ ap (λ x. x + fixed) start)

    module _ (size : ℕ) where
      -- ICMP and ICMPv6, TCP, UDP
      plainly : declared_end p ≡ first + size → (n ≡ 6 → ⊥) → (n ≡ 17 → ⊥) → Stands p first place fixed size summed
      plainly d o u = (field, body o, known.filled (ne_eqb (protocol_of p) 17 (λ e. u (sym l.protocol ∙ e))) ∙ d, before)

      by-offset : declared_end p ≡ first + size → n ≡ 6 → Stands p first place (tcp_header p first) size summed
      by-offset d e =
          let t : tcp p ≡ true = eq-eqb (protocol_of p) 6 (l.protocol ∙ e) in
          let u : udp p ≡ false = ne_eqb (protocol_of p) 17 (λ x. omega (arith, l.protocol)) in
          (field, (known.tcp t).2 ∙ ap (λ x. x + tcp_header p x) start, known.filled u ∙ d, before)

    datagrammed : n ≡ 17 → Stands p first place fixed (datagram_length p first) summed
    datagrammed e =
        let u : udp p ≡ true = eq-eqb (protocol_of p) 17 (l.protocol ∙ e) in
        let size = (known.udp u).2 in
        let k = known in
        (field, body (λ x. omega arith), rw (sym start, size) (omega arith), before)

  -- IPv4's and IPv6's numbers of what a line says
  start-at4 : version_of p ≡ 4 → start_of p ≡ ihl p
  start-at4 v = start4 p (eq-eqb (version_of p) 4 v)

  protocol-at4 : {n : ℕ} → version_of p ≡ 4 → protocol_of p ≡ n → byte_at p 9 ≡ n
  protocol-at4 v e = sym (protocol4 p (eq-eqb (version_of p) 4 v) known) ∙ e

  not4 : version_of p ≡ 6 → four p ≡ false
  not4 v = ne_eqb (version_of p) 4 (λ e. omega arith)

  -- where the extension headers lead
  at6 : version_of p ≡ 6 → FieldsAt p (protocol_of p) (start_of p) → Fields6 p
  at6 v a = record { k = protocol_of p; first = start_of p; leads = led known (not4 v); said = a }

  declared-at6 : version_of p ≡ 6 → declared_end p ≡ start_of p + upper_length p (start_of p)
  declared-at6 v = let k = known in let s = k.outer.six (not4 v) in omega (arith, declared6 p (not4 v))

  -- a line that covers nothing is none of a packet whose shape nothing refuses
  uncovered-not : row_in p ≡ None → ⊥
  unfolding message_rules shape_rules
  uncovered-not e = true≢false (rw e at s.inner.0)

  module _ (v : version_of p ≡ 4) where
    declared-at4 : declared_end p ≡ ihl p + (word_at p 2 - ihl p)
    declared-at4 = let f = eq-eqb (version_of p) 4 v in let k = known in omega (arith, start4 p f, declared4 p f)

  fields : Kind p → ((version_of p ≡ 4) × Fields4 p) ⊎ ((version_of p ≡ 6) × Fields6 p)
  fields (icmp l) = let v = l.version in inl (v, inl (protocol-at4 v l.protocol, plainly (ihl p) (start-at4 v) l _ (declared-at4 v) (λ e. omega arith) (λ e. omega arith)))
  fields (tcp4 l) = let v = l.version in inl (v, inr (inl (protocol-at4 v l.protocol, by-offset (ihl p) (start-at4 v) l _ (declared-at4 v) refl)))
  fields (udp4 l) = let v = l.version in inl (v, inr (inr (protocol-at4 v l.protocol, datagrammed (ihl p) (start-at4 v) l refl)))
  fields (none4 l a b c) = absurd (uncovered-not l.row)
  fields (icmp6 l) = let v = l.version in inr (v, at6 v (inl (l.protocol, plainly (start_of p) refl l _ (declared-at6 v) (λ e. omega arith) (λ e. omega arith))))
  fields (tcp6 l) = let v = l.version in inr (v, at6 v (inr (inl (l.protocol, by-offset (start_of p) refl l _ (declared-at6 v) refl))))
  fields (udp6 l) = let v = l.version in inr (v, at6 v (inr (inr (l.protocol, datagrammed (start_of p) refl l refl))))
  fields (none6 l a b c) = absurd (uncovered-not l.row)

-- for every packet whose shape nothing refuses
pub field-by-rfc : (p : List ℕ) → IsClear (whole_rules p) → FieldsByRfc p
unfolding outer_rules
field-by-rfc p w = let s = shaped p w in (refl, fields p s (kind p s.outer.1.0))
