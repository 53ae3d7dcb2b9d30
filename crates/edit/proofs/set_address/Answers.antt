-- A refusal of all edits, or what `set_side` leaves.
use Rattle.std.proofs.Common.{sym, ◌∙◌}
use Rattle.kept.specs.Edits.{address_of}
use Rattle.steps.proofs.Common.{by_editable, held_editable}
use Rattle.edit.proofs.Sides.{side-behind}
use Rattle.edit.proofs.set_address.Goals as goal

pub set_side-requires : goal.set_side-requires
set_side-requires c = (held_editable _ _ (sym c.in-Ok.is ∙ c.editable.ensures)).holds

pub returns-in-Err : goal.returns-in-Err
unfolding address_of
returns-in-Err c = sym (by_editable _ _ _ _ ∙ rw (← c.editable.ensures, c.in-Err.is))

pub returns-in-Ok : goal.returns-in-Ok
returns-in-Ok c = c.set_side.ensures ∙ side-behind _ _ _ _ _ c.editable.ensures c.in-Ok.is
