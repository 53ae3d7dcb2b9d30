-- The sum of the chain, or that of nothing.
use Rattle.std.proofs.Common.{sym, ◌∙◌}
use Rattle.hifrostum.proofs.hifrostum_sum_chain.Goals as goal

pub returns-in-Ok : goal.returns-in-Ok
returns-in-Ok c = let h = c.hand_back.ensures in rw (sym c.chain.ensures ∙ c.in-Ok.is, h.0, h.1, h.2)

pub returns-in-Err : goal.returns-in-Err
returns-in-Err c = let h = c.hand_back-in-Err.ensures in rw (sym c.chain.ensures ∙ c.in-Err.is, h.0, h.1, h.2)
