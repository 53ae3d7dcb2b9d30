-- In each arm the protocol is the one that it names, and the table is computed.
use native.Mathlib.Omega.{arith}
use Rattle.wire.specs.Table.{row_of, name_of}
use Rattle.wire.proofs.Lines.{tcp-row, udp-row, no-row4, no-row6}
use Rattle.wire.proofs.way.listed.Goals as goal

pub returns-in_default : goal.returns-in_default
returns-in_default c = rw (c.in-Four.is, no-row4 c.args.next (λ e. omega arith) (λ e. omega arith) (λ e. omega arith))

pub returns-in_default-next : goal.returns-in_default-next
returns-in_default-next c = rw (c.in-Six.is, no-row6 c.args.next (λ e. omega arith) (λ e. omega arith) (λ e. omega arith))

pub returns-in-17 : goal.returns-in-17
unfolding name_of
returns-in-17 c = rw (c.in-17.is, udp-row)

pub returns-in-17-next : goal.returns-in-17-next
unfolding name_of
returns-in-17-next c = rw (c.in-17-next.is, udp-row)

pub returns-in-6 : goal.returns-in-6
unfolding name_of
returns-in-6 c = rw (c.in-6.is, tcp-row)

pub returns-in-6-next : goal.returns-in-6-next
unfolding name_of
returns-in-6-next c = rw (c.in-6-next.is, tcp-row)

pub returns-in-1 : goal.returns-in-1
unfolding row_of name_of
returns-in-1 c = rw (c.in-Four.is, c.in-1.is)

pub returns-in-58 : goal.returns-in-58
unfolding row_of name_of
returns-in-58 c = rw (c.in-Six.is, c.in-58.is)
