-- The loop keeps the fold of both totals and what is left.
use Rattle.std.proofs.Common.{◌≡◌, ◌+◌, ◌*◌, true}
use Rattle.sums.specs.Total.{weigh}
use Rattle.sums.specs.Fold.{fold}
use Rattle.sums.specs.Low.{rest_at}
use Rattle.sums.proofs.low.turns.Given as goal

abbrev pub invariant-loop-turn : goal.invariant-loop-turn
invariant-loop-turn l = fold (l.t + l.u + rest_at l.b (128 * l.turn-index)) ≡ fold (l.seed + weigh true l.b)
