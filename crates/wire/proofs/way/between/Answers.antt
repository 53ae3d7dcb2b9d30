-- The loop keeps `Walking`, and what is met says how it goes on.
use Rattle.std.proofs.Common.{refl, sym, ap, ◌∙◌}
use native.Mathlib.Omega.{arith}
use Rattle.verdicts.proofs.Rules.{passed-on}
use Rattle.wire.specs.Inner.{listed}
use Rattle.wire.specs.declared.Family.TheVariants.{Six}
use Rattle.wire.proofs.Meeting.{passes}
use Rattle.wire.proofs.Ways.{walking-refused, walking-message, walking-header}
use Rattle.wire.proofs.way.between.Goals as goal

pub returns-in_err-meet : goal.returns-in_err-meet
returns-in_err-meet c =
    passed-on c.from_residual.ensures ∙ walking-refused c.loop-next.invariant (sym c.in_err-meet.was ∙ c.meet.ensures)

pub returns-in-Message : goal.returns-in-Message
returns-in-Message c =
    c.listed.ensures ∙ ap (listed Six _) (walking-message c.loop-next.invariant (sym (rw c.in-Message.is at c.in_ok-meet.was) ∙ c.meet.ensures))

pub bounds-packet-at : goal.bounds-packet-at
bounds-packet-at c = let q = (passes c.in_ok-meet.was c.in-Header.is c.meet.ensures).1 in omega (arith, q.fits)

pub size-at-requires : goal.size-at-requires
size-at-requires c = let q = (passes c.in_ok-meet.was c.in-Header.is c.meet.ensures).1 in omega (arith, q.fits)

pub overflow_add-at : goal.overflow_add-at
overflow_add-at c = let q = (passes c.in_ok-meet.was c.in-Header.is c.meet.ensures).1 in omega (arith, q.fits, c.size-at.ensures)

pub overflow_sub-left : goal.overflow_sub-left
overflow_sub-left c = let q = (passes c.in_ok-meet.was c.in-Header.is c.meet.ensures).0 in omega arith

pub loop-next-smaller : goal.loop-next-smaller
loop-next-smaller c = let q = (passes c.in_ok-meet.was c.in-Header.is c.meet.ensures).0 in omega arith

pub loop-next-preserved : goal.loop-next-preserved
loop-next-preserved c =
    walking-header c.loop-next.invariant (sym (rw c.in-Header.is at c.in_ok-meet.was) ∙ c.meet.ensures) refl (rw c.size-at.ensures)
