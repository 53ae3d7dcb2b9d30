-- `folds::join_within` meets its contract.
use Rattle.std.proofs.Common.{◌+◌, refl, ap, ◌∙◌}
use Rattle.sums.specs.Fold.{fold}
use Rattle.sums.specs.Total.{odd}
use Rattle.sums.proofs.Joins.{partial-path}
use Rattle.folds.proofs.join_within.Goals as goal

pub returns : goal.returns
unfolding odd
returns c = partial-path (c.add.ensures ∙ ap (λ n. fold (c.args.a.fold.0 + n)) c.aligned-second.ensures) refl
