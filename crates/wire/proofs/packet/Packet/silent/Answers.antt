-- The field stands in the packet, and its word says whether it is silent.
use Rattle.std.proofs.Common.{ap, ◌∙◌}
use native.Mathlib.Omega.{arith}
use Rattle.wire.specs.Inner.{silent_of}
use Rattle.wire.proofs.Held.{known, held-silent}
use Rattle.wire.proofs.packet.Packet.silent.Goals as goal

pub silent-requires : goal.silent-requires
silent-requires c = let k = known c.self.invariant in omega arith

pub returns : goal.returns
returns c = c.silent.ensures ∙ held-silent c.self.invariant ∙ ap silent_of c.self.view_is
