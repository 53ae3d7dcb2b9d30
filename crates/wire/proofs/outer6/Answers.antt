-- Each return is a case of `outer_of` for IPv6.
use native.Mathlib.Omega.{arith}
use Rattle.wire.proofs.OuterCases.{short6, fewer6, whole6}
use Rattle.wire.proofs.outer6.Goals as goal

pub returns-then-packet-lt-LEAST_6 : goal.returns-then-packet-lt-LEAST_6
returns-then-packet-lt-LEAST_6 c = short6 _ (λ e. omega arith) (omega arith) (omega arith)

pub returns-then-packet-declared : goal.returns-then-packet-declared
returns-then-packet-declared c = fewer6 _ (λ e. omega arith) (omega arith) (omega arith) (omega arith)

pub returns : goal.returns
returns c = whole6 _ (λ e. omega arith) (omega arith) (omega arith) (omega arith) _ (omega arith)
