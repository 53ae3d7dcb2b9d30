-- `chain::fits` meets its contract. The loop keeps `Tested`: what is left fits where the list does, and room is left for it.
use Rattle.std.proofs.Common.{◌*◌}
use Rattle.chain.proofs.Lists.{Tested}
use Rattle.chain.proofs.fits.Given as goal

abbrev pub invariant-loop-piece : goal.invariant-loop-piece
invariant-loop-piece l = Tested l.end l.pieces l.room (2 * l.piece-index)
