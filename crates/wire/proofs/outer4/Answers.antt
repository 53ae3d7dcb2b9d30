-- Each return is a case of `outer_of` for IPv4.
use native.Mathlib.Omega.{arith}
use Rattle.wire.proofs.OuterCases.{short4, words4, total4, fewer4, whole4}
use Rattle.wire.proofs.outer4.Goals as goal

pub returns-then-packet-lt-LEAST_4 : goal.returns-then-packet-lt-LEAST_4
returns-then-packet-lt-LEAST_4 c = short4 _ (λ e. omega arith) (omega arith) (omega arith)

pub returns-then-words-lt5 : goal.returns-then-words-lt5
returns-then-words-lt5 c = words4 _ (λ e. omega arith) (omega arith) (omega arith) (omega arith)

pub returns-then-declared-end : goal.returns-then-declared-end
returns-then-declared-end c = total4 _ (λ e. omega arith) (omega arith) (omega arith) (omega arith) (omega arith)

pub returns-then-packet-declared : goal.returns-then-packet-declared
returns-then-packet-declared c = fewer4 _ (λ e. omega arith) (omega arith) (omega arith) (omega arith) (omega arith) (omega arith)

pub returns : goal.returns
returns c =
    whole4 _ (λ e. omega arith) (omega arith) (omega arith) (omega arith) (omega arith) (omega arith) _ _ _ (omega arith) (omega arith) (cc)
