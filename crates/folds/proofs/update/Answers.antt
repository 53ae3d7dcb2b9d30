-- `folds::update` meets its contract: it is a remainder.
use Rattle.std.proofs.Common.{arith}
use Rattle.sums.proofs.Updates.{update-as}
use Rattle.folds.proofs.update.Goals as goal

pub returns : goal.returns
returns c = rw (c.from.ensures, c.from-2.ensures, c.from-3.ensures) (update-as _ _ _ (omega arith) (omega arith) (omega arith))
