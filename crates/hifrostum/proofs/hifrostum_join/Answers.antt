-- The joined sum, or the left one.
use Rattle.std.proofs.Common.{sym, ◌∙◌}
use Rattle.hifrostum.proofs.hifrostum_join.Goals as goal

pub returns-in-Ok : goal.returns-in-Ok
returns-in-Ok c = let h = c.hand_back.ensures in rw (sym c.join.ensures ∙ c.in-Ok.is, h.0, h.1, h.2)

pub returns-in-Err : goal.returns-in-Err
returns-in-Err c = let h = c.hand_back-in-Err.ensures in rw (sym c.join.ensures ∙ c.in-Err.is, h.0, h.1, h.2)
