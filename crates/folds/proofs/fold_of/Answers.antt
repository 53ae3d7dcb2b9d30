-- `folds::fold_of` meets its contract.
use Rattle.std.proofs.Common.{arith}
use Rattle.sums.proofs.Folds.{fold-as}
use Rattle.folds.proofs.fold_of.Goals as goal

pub returns-then-t-eq0 : goal.returns-then-t-eq0
returns-then-t-eq0 c = omega (arith, fold-as c.args.t)

pub returns : goal.returns
returns c = omega (arith, fold-as c.args.t)
