-- The loop keeps the fold of the total and what is left.
use Rattle.std.proofs.Common.{◌≡◌, ◌+◌, ◌*◌, true}
use Rattle.sums.specs.Total.{weigh}
use Rattle.sums.specs.Fold.{fold}
use Rattle.sums.specs.Low.{rest_at}
use Rattle.sums.proofs.low.few.Given as goal

abbrev pub invariant-loop-word : goal.invariant-loop-word
invariant-loop-word l = fold (l.t + rest_at l.b (2 * l.word-index)) ≡ fold (l.seed + weigh true l.b)
