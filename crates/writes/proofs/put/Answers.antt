-- The part written over.
use Rattle.std.proofs.Common.{arith}
use Rattle.writes.proofs.Over.{over}
use Rattle.writes.proofs.put.Goals as goal

pub returns : goal.returns
returns g c = over c.args.s.now c.args.at _ _ _ c.copy_from_slice.ensures.after (omega arith) (omega arith)
