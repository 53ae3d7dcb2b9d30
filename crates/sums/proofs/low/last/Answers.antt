-- The chain, where n has it.
use Rattle.std.proofs.Common.{◌∙◌, arith}
use Rattle.sums.proofs.Rests.{more-none, end-same, end-next}
use Rattle.sums.proofs.low.last.Goals as goal

pub returns-then-n : goal.returns-then-n
returns-then-n g c = let s = c.args in more-none s.b.now s.t _ _ (end-same s.n g.row.N (omega arith) c.if-n.true)

pub returns : goal.returns
returns g c = let s = c.args in more-none s.b.now _ _ _ (end-next s.n g.row.N (omega arith) c.if-n.false) ∙ c.add.ensures
