-- A whole run of the program over an input: want, read that many bytes or what is left, feed, print, and so on.
use Rattle.std.specs.Prelude.{ℕ, zero, suc, List, [], ◌∷◌, ◌++◌, take, drop, Option, Some, None}
use Rattle.std.specs.Option.{option_map_or}
use Rattle.lines.specs.Feed.{want_of, decided_of, fed_of}
use Rattle.lines.specs.declared.State.{State}
use Rattle.lines.specs.declared.Line.{Line}

-- the bytes that at most so many turns print: each time those that `feed` put into the buffer, one buffer for all
unfoldable pub output_by : ℕ → State → List ℕ → List ℕ → List ℕ
output_by zero s input buffer = []
output_by (suc turns) s input buffer =
    option_map_or
    (λ n.
    let f = fed_of s (take n input) buffer in
    take f.1 f.2 ++ output_by turns f.0 (drop n input) f.2)
    (want_of s)
    []

-- at most one line a turn
infixr 5 ◌onto◌
abbrev pub ◌onto◌ : Option Line → List Line → List Line
None onto ls = ls
Some l onto ls = l ∷ ls

-- the lines of the same turns
unfoldable pub run_by : ℕ → State → List ℕ → List Line
run_by zero s input = []
run_by (suc turns) s input =
    option_map_or
    (λ n.
    let d = decided_of s (take n input) in
    d.1 onto run_by turns d.0 (drop n input))
    (want_of s)
    []
