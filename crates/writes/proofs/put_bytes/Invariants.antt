-- The last 32 bytes are put, and then the first i.
use Rattle.std.proofs.Common.{◌≡◌, ◌+◌, ◌-◌, ◌<◌}
use Rattle.wire.specs.Bytes.{part, put}
use Rattle.writes.proofs.put_bytes.Given as goal

abbrev pub invariant-loop-i : goal.invariant-loop-i
invariant-loop-i l = (l.s ≡ put l.initial.s l.at (part l.new 0 l.i)) × (l.i < l.last + 32)

abbrev pub decreases-loop-i : goal.decreases-loop-i
decreases-loop-i l = l.last - l.i
