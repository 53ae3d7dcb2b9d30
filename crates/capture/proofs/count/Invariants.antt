-- The packets that are left are counted on from the number so far, and there are no more of them than bytes.
use Rattle.std.proofs.Common.{length}
use Rattle.capture.specs.Records.{read_of}
use Rattle.capture.specs.Judged.{counted_of, listed}
use Rattle.capture.proofs.Passes.{Counting}
use Rattle.capture.proofs.count.Given as goal

abbrev pub invariant-loop-packet : goal.invariant-loop-packet
invariant-loop-packet l =
    (goal.iterator-loop-packet).can_next l.packet-iterator
    × (goal.iterator-loop-packet).is_finite l.packet-iterator
    × Counting (length l.rest) l.count (listed (read_of l.packet-iterator.rest.now)) (counted_of (read_of l.rest))
