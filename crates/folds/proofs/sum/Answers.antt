-- `folds::sum` meets its contract.
use Rattle.std.proofs.Common.{refl}
use Rattle.sums.proofs.Joins.{partial-path}
use Rattle.folds.proofs.sum.Goals as goal

pub returns : goal.returns
returns c = partial-path c.fold_at.ensures refl
