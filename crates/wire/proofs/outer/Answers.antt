-- Each return is a case of `outer_of`, or what the family's function ensures.
use native.Mathlib.Omega.{arith}
use Rattle.wire.proofs.OuterCases.{none, other}
use Rattle.wire.proofs.outer.Goals as goal

pub returns-then-packet-eq0 : goal.returns-then-packet-eq0
returns-then-packet-eq0 c = none _ (omega arith)

pub returns-in_default : goal.returns-in_default
returns-in_default c = other _ (λ e. omega arith) (λ e. omega arith) (λ e. omega arith)
