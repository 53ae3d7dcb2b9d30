-- The covered block's total less its field is that of the block with the field read as 0000.
use Rattle.std.proofs.Common.{sym, ◌∙◌, arith}
use Rattle.wire.proofs.Held.{lent, known}
use Rattle.mend.specs.Fresh.{fresh_message}
use Rattle.mend.proofs.Numbers.{divides, fresh-some}
use Rattle.mend.proofs.Fresh.{held-rest}
use Rattle.mend.proofs.fresh_message.Goals as goal

pub le2-field-requires : goal.le2-field-requires
le2-field-requires c = let k = known (lent c.bytes.ensures c.message-m.ensures) in omega arith

pub returns-then-fresh-ne0 : goal.returns-then-fresh-ne0
unfolding fresh_message
returns-then-fresh-ne0 c =
    let rest = held-rest c.message-m.ensures _ _ _ _ c.bytes.ensures c.le2-field.ensures (omega arith) c.block.ensures.bytes c.pseudo_total-before.ensures c.total-whole.ensures c.carry.ensures in
    let r = c.field_low-fresh.ensures in
    fresh-some _ _ _ _ rest r.0 r.1 c.if-fresh-ne0.true

pub zero_field-requires : goal.zero_field-requires
zero_field-requires c =
    let rest = held-rest c.message-m.ensures _ _ _ _ c.bytes.ensures c.le2-field.ensures (omega arith) c.block.ensures.bytes c.pseudo_total-before.ensures c.total-whole.ensures c.carry.ensures in
    divides _ (sym rest ∙ omega (arith, c.field_low-fresh.ensures.1, c.if-fresh-ne0.false))
