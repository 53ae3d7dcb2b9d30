-- A refusal of the version, of all edits or of the side, or what `exchange` leaves.
use Rattle.std.proofs.Common.{◌≡◌, ℕ, false, sym, ap, ◌∙◌, arith}
use Rattle.wire.specs.Outer.{four}
use Rattle.wire.proofs.Held.{held-facts}
use Rattle.kept.specs.Edits.{side_at}
use Rattle.steps.specs.Sides.{placed}
use Rattle.steps.proofs.Common.{by_editable, held_editable}
use Rattle.steps.proofs.Sides.{by_editable_side, side-placed, side-addressed}
use Rattle.prefix.specs.Rest.{prefix_in}
use Rattle.prefix.proofs.Answers.{none, other-version, past-version}
use Rattle.prefix.proofs.exchange_prefix.Goals as goal

pub returns-then-packet-eq0 : goal.returns-then-packet-eq0
returns-then-packet-eq0 c = none _ _ _ _ c.if-packet-eq0.true

pub returns-then-packet-ne-VERSION : goal.returns-then-packet-ne-VERSION
returns-then-packet-ne-VERSION c = other-version _ _ _ _ c.if-packet-eq0.false c.if-packet-ne-VERSION.true

pub returns-in-Err : goal.returns-in-Err
returns-in-Err c =
    sym (by_editable _ _ _ _ ∙ rw (← c.editable.ensures, c.in-Err.is)) ∙ past-version _ _ _ _ c.if-packet-eq0.false c.if-packet-ne-VERSION.false

pub returns-in-Err-try_from : goal.returns-in-Err-try_from
returns-in-Err-try_from c =
    sym (by_editable_side _ _ _ _ _ _ _ c.editable.ensures c.try_from.ensures ∙ rw (c.in-Ok.is, c.in-Err-try_from.is))
    ∙ past-version _ _ _ _ c.if-packet-eq0.false c.if-packet-ne-VERSION.false

-- both addresses stand in the header
pub exchange-requires : goal.exchange-requires
exchange-requires c =
    let p = c.args.packet.now in
    let f : four p ≡ false = rw c.if-packet-ne-VERSION.false in
    let k = (held-facts (held_editable p _ (sym c.in-Ok.is ∙ c.editable.ensures)).holds).outer in
    let r = side-addressed p c.in-Ok-try_from.side 8 16 (simp f) (simp f) in
    omega (arith, c.place.ensures)

pub returns-in-Ok-try_from : goal.returns-in-Ok-try_from
returns-in-Ok-try_from c =
    let a = c.args in
    let f : four a.packet.now ≡ false = rw c.if-packet-ne-VERSION.false in
    let at : placed c.in-Ok-try_from.side 8 16 ≡ side_at a.packet.now a.side = simp f (simp f at (side-placed a.packet.now _ _ (sym c.in-Ok-try_from.is ∙ c.try_from.ensures))) in
    c.exchange.ensures
    ∙ ap (λ (n : ℕ). prefix_in a.packet.now n a.expected.now a.new.now) (c.place.ensures ∙ at)
    ∙ sym (by_editable_side _ _ _ _ _ _ _ c.editable.ensures c.try_from.ensures ∙ rw (c.in-Ok.is, c.in-Ok-try_from.is))
    ∙ past-version _ _ _ _ c.if-packet-eq0.false c.if-packet-ne-VERSION.false
