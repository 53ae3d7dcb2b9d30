-- `sums::passes` meets its contract.
use Rattle.std.proofs.Common.{arith}
use Rattle.sums.proofs.Passing.{passes-less}
use Rattle.sums.proofs.passes.Goals as goal

pub returns : goal.returns
returns c = passes-less _ _ (omega arith) (omega arith)
