-- A mask of four bits is a remainder by 16.
use lib.Bits.{and_mask}
use Rattle.wire.proofs.bits.low.Goals as goal

pub returns : goal.returns
returns c = and_mask c.args.b 4
