-- A refusal of all edits, or what `set_within` leaves.
use Rattle.std.proofs.Common.{sym, ◌∙◌}
use Rattle.kept.specs.Edits.{stretch_of}
use Rattle.steps.proofs.Common.{by_editable, held_editable}
use Rattle.edit.proofs.set_stretch.Goals as goal

pub returns-in-Err : goal.returns-in-Err
unfolding stretch_of
returns-in-Err c = sym (by_editable _ _ _ _ ∙ rw (← c.editable.ensures, c.in-Err.is))

pub set_within-requires : goal.set_within-requires
set_within-requires c = (held_editable _ _ (sym c.in-Ok.is ∙ c.editable.ensures)).holds

pub returns-in-Ok : goal.returns-in-Ok
unfolding stretch_of
returns-in-Ok c = c.set_within.ensures ∙ sym (by_editable _ _ _ _ ∙ rw (← c.editable.ensures, c.in-Ok.is))
