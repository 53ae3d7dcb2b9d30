-- Spent, or one less.
use Rattle.std.proofs.Common.{arith}
use Rattle.edit.proofs.Made.{spent, lowered-to}
use Rattle.edit.proofs.lifetime.lower.Goals as goal

pub returns-then-lifetime-lt2 : goal.returns-then-lifetime-lt2
returns-then-lifetime-lt2 c = spent _ _ c.requires.family _ c.place-at.ensures c.if-lifetime-lt2.true

pub returns : goal.returns
returns c =
    lowered-to _ _ c.requires.family _ c.place-at.ensures (omega arith) c.if-lifetime-lt2.false _ c.raised-field.ensures _ c.put_header.ensures
