-- The two numbers that are known, and all others.
use Rattle.std.proofs.Common.{sym, arith}
use borrow.Author.Tests.{ne_eqb}
use Rattle.steps.specs.Sides.{side_of}
use Rattle.steps.proofs.side.SideTryFromU32.try_from.Goals as goal

pub returns-in-0 : goal.returns-in-0
unfolding side_of
returns-in-0 c = rw c.in-0.is

pub returns-in-1 : goal.returns-in-1
unfolding side_of
returns-in-1 c = rw c.in-1.is

pub returns-in_default : goal.returns-in_default
unfolding side_of
returns-in_default c = sym (simp (ne_eqb c.args.side 0 (λ e. omega arith), ne_eqb c.args.side 1 (λ e. omega arith)))
