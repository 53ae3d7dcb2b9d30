-- Each return is a case of `inner_of` for a protocol that says no length.
use mathlib.Core.Path.{◌∙◌}
use native.Mathlib.Omega.{arith}
use borrow.Author.Tests.{ne_eqb}
use Rattle.wire.proofs.InnerCases.{room, short, fits}
use Rattle.wire.proofs.protocols.icmp.Goals as goal

pub overflow_sub-c : goal.overflow_sub-c
overflow_sub-c c = let k = room c.requires.carrying in omega arith

pub returns-then-c-plan : goal.returns-then-c-plan
returns-then-c-plan c = let d = c.requires in short d.carrying (omega arith)

pub placed-requires : goal.placed-requires
placed-requires c = let k = room c.requires.carrying in omega arith

pub returns : goal.returns
returns c =
    let d = c.requires in
    let t = ne_eqb _ _ d.no_length.0 in
    let u = ne_eqb _ _ d.no_length.1 in
    c.placed.ensures
    ∙ fits d.carrying (omega arith) _ _ (simp t) (simp u) (simp (t, u) (omega arith)) (simp (t, u) (omega arith))
