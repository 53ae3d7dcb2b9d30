-- The field is kept, or set to the fresh one.
use Rattle.std.proofs.Common.{sym, ◌∙◌}
use mathlib.Core.Path.{ap₂}
use native.Mathlib.Omega.{arith}
use Rattle.wire.specs.Bytes.{put_word}
use Rattle.wire.proofs.Held.{lent, known}
use Rattle.mend.specs.Mend.{mended_message}
use Rattle.mend.proofs.mend_message.Goals as goal

pub returns-then-kept : goal.returns-then-kept
unfolding mended_message
returns-then-kept c = sym (rw (← c.new-held.ensures) (simp (sym c.kept.ensures ∙ c.if-kept.true)))

pub put_low-requires : goal.put_low-requires
put_low-requires c = let k = known c.requires in omega arith

pub returns : goal.returns
unfolding mended_message
returns c =
    c.put_low.ensures
    ∙ rw (← c.new-held.ensures)
    (ap₂ (put_word c.new-held.result) (known (lent c.new-held.ensures c.requires)).field c.fresh_message-fresh.ensures
    ∙ sym (simp (sym c.kept.ensures ∙ c.if-kept.false)))
