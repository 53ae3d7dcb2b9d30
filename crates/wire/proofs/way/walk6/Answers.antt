-- There is no header between where the table has what comes next.
use Rattle.std.proofs.Common.{sym, ◌∙◌}
use Rattle.wire.proofs.Ways.{known6}
use Rattle.wire.proofs.way.walk6.Goals as goal

pub returns-in-Ok : goal.returns-in-Ok
returns-in-Ok c = let d = c.requires in known6 _ _ d.0 d.1 (sym c.listed.ensures ∙ c.in-Ok.is)
