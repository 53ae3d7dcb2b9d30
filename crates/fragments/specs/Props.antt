-- That the facts which the types carry hold in one way: for `by` behind a ghost field.
use Rattle.std.specs.Prelude.{List, [], ◌∷◌}
use Rattle.std.specs.Coded.{×_prop, Unit-prop}
use mathlib.Core.Bool.{Bool-set}
use Rattle.verdicts.specs.Rules.{Rule, ◌⇒◌, IsClear}

pub IsClear-prop : (rules : List Rule) → IsProp (IsClear rules)
IsClear-prop [] = Unit-prop
IsClear-prop ((b ⇒ v) ∷ rules) = ×_prop (Bool-set _ _) (IsClear-prop rules)
