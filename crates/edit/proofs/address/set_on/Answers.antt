-- A refusal of the side, or what `set` leaves.
use Rattle.std.proofs.Common.{ℕ, ap, ◌∙◌}
use Rattle.steps.proofs.Sides.{side-addressed}
use Rattle.edit.specs.Rest.{address_in}
use Rattle.edit.proofs.Sides.{side-refused, side-set}
use Rattle.edit.proofs.address.set_on.Goals as goal

pub set-requires : goal.set-requires
set-requires g c =
    let z = c.requires.size in
    record { holds = c.requires.holds; place = rw c.place.ensures (side-addressed c.args.packet.now c.in-Ok.side c.args.from g.row.N z.0 z.1); size = (z.1, z.2) }

pub returns-in-Err : goal.returns-in-Err
returns-in-Err g c = side-refused _ _ _ _ c.try_from.ensures _ c.in-Err.is

pub returns-in-Ok : goal.returns-in-Ok
returns-in-Ok g c =
    let a = c.args in
    let z = c.requires.size in
    c.set.ensures
    ∙ ap (λ (n : ℕ). address_in a.packet.now n a.address.now) (rw (z.0, z.1) at c.place.ensures)
    ∙ side-set _ _ _ _ c.try_from.ensures _ c.in-Ok.is
