-- What is whole holds its message.
use Rattle.std.proofs.Common.{sym, ◌∙◌}
use Rattle.wire.proofs.Held.{held_whole}
use Rattle.mend.proofs.mend.Goals as goal

pub mend_whole-requires : goal.mend_whole-requires
mend_whole-requires c = held_whole _ _ (sym c.in-Ok.is ∙ c.whole.ensures)
