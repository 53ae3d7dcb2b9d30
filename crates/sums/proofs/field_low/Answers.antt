-- `sums::field_low` meets its contract: 65535 divides 2 ^ 64 - 1.
use Rattle.std.proofs.Common.{arith}
use Rattle.sums.proofs.field_low.Goals as goal

pub returns : goal.returns
returns c = (omega arith, omega arith)
