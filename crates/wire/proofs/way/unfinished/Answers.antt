-- Both tests are those of `unfinished_at`.
use borrow.Author.Tests.{eq-eqb, ne_eqb}
use Rattle.wire.specs.Walk.{unfinished_at}
use Rattle.wire.proofs.way.unfinished.Goals as goal

pub returns-then-next-ne-ROUTING : goal.returns-then-next-ne-ROUTING
unfolding unfinished_at
returns-then-next-ne-ROUTING c = simp (ne_eqb _ 43 c.if-next-ne-ROUTING.true)

pub returns : goal.returns
unfolding unfinished_at
returns c = simp (eq-eqb _ 43 c.if-next-ne-ROUTING.false)
