-- The loop keeps the fold of what was added up and what is left.
use Rattle.std.proofs.Common.{◌≡◌, ◌+◌, ◌*◌}
use Rattle.sums.specs.Fold.{fold}
use Rattle.sums.specs.Low.{rest_at}
use Rattle.cover.proofs.fours.Given as goal

abbrev pub invariant-loop-word : goal.invariant-loop-word
invariant-loop-word l = fold (l.t + rest_at l.b (l.from + 4 * l.word-index)) ≡ fold (l.seed + rest_at l.b l.from)
