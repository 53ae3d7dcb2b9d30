-- The sum's fold, complemented.
use mathlib.Core.Path.{◌∙◌, ap}
use Rattle.sums.specs.Fold.{field_of}
use Rattle.hifrostum.proofs.hifrostum_field.Goals as goal

pub returns : goal.returns
returns c = c.field_of-field.ensures ∙ ap field_of c.fold_at-f.ensures
