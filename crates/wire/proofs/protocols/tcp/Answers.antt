-- Each return is a case of `inner_of` for TCP.
use mathlib.Core.Path.{refl, ◌∙◌}
use native.Mathlib.Omega.{arith}
use Rattle.wire.proofs.InnerCases.{room, short, under, past, fits}
use Rattle.wire.proofs.protocols.tcp.Goals as goal

pub overflow_sub-length : goal.overflow_sub-length
overflow_sub-length c = let k = room c.requires in omega arith

pub returns-then-length-plan : goal.returns-then-length-plan
returns-then-length-plan c = let d = c.requires in short d (omega arith)

pub overflow_add-start : goal.overflow_add-start
overflow_add-start c = let k = room c.requires in omega (arith, k.line.tcp refl)

pub bounds-packet-start : goal.bounds-packet-start
bounds-packet-start c = let k = room c.requires in omega (arith, k.line.tcp refl)

pub returns-then-body-plan : goal.returns-then-body-plan
returns-then-body-plan c =
    let d = c.requires in
    under d (omega arith) (omega arith)

pub returns-then-length-body : goal.returns-then-length-body
returns-then-length-body c =
    let d = c.requires in
    past d (omega arith) (omega arith) (omega arith)

pub placed-requires : goal.placed-requires
placed-requires c = let k = room c.requires in omega arith

pub returns : goal.returns
returns c =
    let d = c.requires in
    c.placed.ensures
    ∙ fits d (omega arith) _ _ (omega arith) refl (omega arith) (omega arith)
