-- The old total's complement is added.
use Rattle.std.proofs.Common.{arith}
use Rattle.sums.proofs.Folds.{fold-alike}
use Rattle.steps.proofs.Changes.{complement}
use Rattle.steps.proofs.change.Change.between.Goals as goal

pub returns : goal.returns
returns c =
    let r = c.carry.result in
    let a = c.args in
    complement a.old a.new r (omega arith) (fold-alike r _ c.carry.ensures)
