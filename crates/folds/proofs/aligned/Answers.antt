-- `folds::aligned` meets its contract: the arm taken is the one that `swap_if` goes by.
use Rattle.std.proofs.Common.{◌∙◌, arith}
use Rattle.folds.proofs.aligned.Goals as goal

pub returns-then-odd : goal.returns-then-odd
returns-then-odd c = rw c.if-odd.true (c.swap_bytes.ensures ∙ omega arith)
