-- The places and sizes are the family's.
use Rattle.std.proofs.Common.{refl, arith}
use Rattle.wire.proofs.Held.{held-four, held-six}
use Rattle.edit.proofs.address.set_side.Goals as goal

pub set_on-requires : goal.set_on-requires
set_on-requires c =
    let f = held-four c.requires c.in-Four.is in
    record { holds = c.requires; size = (simp f, simp f, refl, omega arith) }

pub set_on-requires-in-Six : goal.set_on-requires-in-Six
set_on-requires-in-Six c =
    let f = held-six c.requires c.in-Six.is in
    record { holds = c.requires; size = (simp f, simp f, refl, omega arith) }
