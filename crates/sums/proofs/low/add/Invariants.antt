-- The loop keeps the fold of the total, its carry, and what is left.
use Rattle.std.proofs.Common.{◌≡◌, ◌+◌, ◌*◌}
use Rattle.std.specs.Int.{from_bool}
use Rattle.sums.specs.Fold.{fold}
use Rattle.sums.specs.Low.{rest_at}
use Rattle.sums.proofs.low.add.Given as goal

abbrev pub invariant-loop-word : goal.invariant-loop-word
invariant-loop-word g l = fold (l.s.n + from_bool l.s.c + rest_at l.b (l.i + 8 * l.word-index)) ≡ fold (l.t + rest_at l.b l.i)
