-- Where the byte stands in the pieces that are left.
use Rattle.std.proofs.Common.{◌≡◌}
use Rattle.wire.specs.Bytes.{byte_at}
use Rattle.fragments.specs.Fragments.{together}
use Rattle.fragments.specs.Gathered.{pieces_at}
use Rattle.fragments.proofs.Along.{left}
use Rattle.fragments.proofs.sorted.Sorted.byte.Given as goal

abbrev pub invariant-loop-at : goal.invariant-loop-at
invariant-loop-at l = byte_at (together (left l.self.buffer.now l.self.places.now l.at-index)) l.i ≡ byte_at (together (pieces_at l.self.buffer.now l.self.places.now)) l.place
