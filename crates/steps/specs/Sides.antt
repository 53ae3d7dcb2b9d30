-- The side that a number names, and its address's place. A reader need not believe these: the edits' contracts cite `kept`.
use Rattle.std.specs.Prelude.{ℕ, ◌+◌, [], ◌∷◌, not, ◌||◌, eqb, if◌then◌else◌, Result, Ok, Err}
use Rattle.verdicts.specs.Rules.{Rule, ◌⇒◌, first}
use Rattle.verdicts.specs.declared.Verdict.{Verdict}
use Rattle.verdicts.specs.declared.Verdict.TheVariants.{Place}
use Rattle.steps.specs.declared.side.Side.{Side}
use Rattle.steps.specs.declared.side.Side.TheVariants.{Source, Destination}

-- a side is known
abbrev pub side_rule : ℕ → Rule
side_rule n = not (eqb n 0 || eqb n 1) ⇒ Place

unfoldable pub side_of : ℕ → Result Side Verdict
side_of n = first (side_rule n ∷ []) Err (Ok (if eqb n 0 then Source else Destination))

-- of two addresses from a place on, each of so many bytes
abbrev pub placed : Side → ℕ → ℕ → ℕ
placed Source from size = from
placed Destination from size = from + size
