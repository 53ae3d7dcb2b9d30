-- The verdict's number.
use mathlib.Core.Path.{◌∙◌, ap}
use Rattle.verdicts.specs.Numbers.{number_of}
use Rattle.judge.proofs.number.Goals as goal

pub returns : goal.returns
returns c = c.from.ensures ∙ ap number_of c.judge.ensures
