-- The loop keeps `Walking`, and what is met says how it goes on.
use lib.ListN.{length}
use Rattle.wire.specs.Walk.{walk_by}
use Rattle.wire.proofs.Ways.{Walking}
use Rattle.wire.proofs.way.between.Given as goal

abbrev pub invariant-loop-next : goal.invariant-loop-next
invariant-loop-next l = Walking l.packet (length l.packet) l.next l.at l.left (walk_by 8 l.packet (length l.packet) l.first 40)

abbrev pub decreases-loop-next : goal.decreases-loop-next
decreases-loop-next l = l.left
