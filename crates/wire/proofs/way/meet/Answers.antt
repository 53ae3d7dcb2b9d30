-- The match is on the four numbers of the headers between, and each may be passed but for a late one and a fragment.
use mathlib.Core.Logic.{inl, inr}
use native.Mathlib.Omega.{arith}
use Rattle.wire.proofs.Meeting.{message, fragment, tardy}
use Rattle.wire.proofs.way.meet.Goals as goal

pub returns-then-at-ne-LEAST_6 : goal.returns-then-at-ne-LEAST_6
returns-then-at-ne-LEAST_6 c = tardy _ _ _ _ _ c.in-0.is (λ e. omega arith)

pub header-requires : goal.header-requires
header-requires c = (omega arith, inl (c.in-0.is, omega arith))

pub header-requires-in-43 : goal.header-requires-in-43
header-requires-in-43 c = (omega arith, inr c.in-43.is)

pub returns-in-44 : goal.returns-in-44
returns-in-44 c = fragment _ _ _ _ _ c.in-44.is

pub returns-in_default : goal.returns-in_default
returns-in_default c =
    message _ _ _ _ _ (record { hop = λ e. omega arith; routing = λ e. grind (arith, inl); fragment = λ e. omega arith; destination = λ e. grind (arith, inr) })
