-- The pieces that are left have the shape of all.
use Rattle.std.proofs.Common.{◌≡◌}
use Rattle.fragments.specs.Fragments.{piece_of}
use Rattle.fragments.specs.Gathered.{pieces_at, shaped_of}
use Rattle.fragments.proofs.Along.{left}
use Rattle.fragments.proofs.sorted.Sorted.is_shaped.Given as goal

abbrev pub invariant-loop-place : goal.invariant-loop-place
invariant-loop-place l = shaped_of (piece_of l.first.bytes.now) (left l.self.buffer.now l.self.places.now l.place-index) ≡ shaped_of (piece_of l.first.bytes.now) (pieces_at l.self.buffer.now l.self.places.now)
