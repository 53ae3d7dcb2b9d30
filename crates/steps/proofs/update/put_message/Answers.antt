-- The field is written unless it is quiet.
use mathlib.Core.Path.{◌∙◌, sym}
use Rattle.steps.proofs.update.put_message.Goals as goal

pub returns : goal.returns
returns c = c.put_low.ensures ∙ sym (simp c.if-quiet.false)
