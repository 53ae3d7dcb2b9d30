-- `folds::join` meets its contract.
use Rattle.std.proofs.Common.{sym, ap, ◌∙◌, arith, Ok}
use Rattle.sums.proofs.Joins.{join-good, join-place}
use Rattle.folds.proofs.join.Goals as goal

pub returns-then-a-b : goal.returns-then-a-b
returns-then-a-b c = sym (join-place _ _ (omega arith))

pub returns : goal.returns
returns c = ap Ok c.join_within.ensures ∙ sym (join-good _ _ (omega arith))
