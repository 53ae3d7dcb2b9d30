-- Each return is a case of `inner_of` for UDP.
use mathlib.Core.Path.{refl, ◌∙◌}
use native.Mathlib.Omega.{arith}
use Rattle.wire.proofs.InnerCases.{room, short, under, past, fits}
use Rattle.wire.proofs.protocols.udp.Goals as goal
use Rattle.wire.proofs.protocols.udp.Goals.{then-own-length+else-own-plan+else-length-own, else-own-length}

pub overflow_sub-length : goal.overflow_sub-length
overflow_sub-length c = let k = room c.requires in omega arith

pub returns-then-length-plan : goal.returns-then-length-plan
returns-then-length-plan c = let d = c.requires in short d (omega arith)

pub overflow_add-start : goal.overflow_add-start
overflow_add-start c = let k = room c.requires in omega (arith, k.line.udp refl)

pub word-own-requires : goal.word-own-requires
word-own-requires c = let k = room c.requires in omega (arith, k.line.udp refl)

pub returns-then-own-plan : goal.returns-then-own-plan
returns-then-own-plan c =
    let d = c.requires in
    under d (omega arith) (omega arith)

pub returns-then-length-own : goal.returns-then-length-own
returns-then-length-own c =
    let d = c.requires in
    past d (omega arith) (omega arith) (omega arith)

pub overflow_add-start-2 : goal.overflow_add-start-2
overflow_add-start-2 c = elim c.if-own-length.branch [ then-own-length+else-own-plan+else-length-own w ↦ omega arith | else-own-length w ↦ omega arith ]

pub placed-requires : goal.placed-requires
placed-requires c = let k = room c.requires in omega arith

-- by either way the length is neither below the fixed header nor past what is carried
pub returns : goal.returns
returns c =
    let d = c.requires in
    c.placed.ensures
    ∙ fits d (omega arith) _ _ refl (omega arith)
    (elim c.if-own-length.branch [ then-own-length+else-own-plan+else-length-own w ↦ omega arith | else-own-length w ↦ omega arith ])
    (elim c.if-own-length.branch [ then-own-length+else-own-plan+else-length-own w ↦ omega arith | else-own-length w ↦ omega arith ])
