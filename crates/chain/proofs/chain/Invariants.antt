-- `chain::chain` meets its contract. The loop keeps `Along`: the sum so far, joined with that of what is left, is the whole's.
use Rattle.std.proofs.Common.{◌*◌}
use Rattle.chain.proofs.Along.{Along}
use Rattle.chain.proofs.chain.Given as goal

abbrev pub invariant-loop-offset : goal.invariant-loop-offset
invariant-loop-offset l = Along l.buffer l.pieces l.sum (2 * l.offset-index)
