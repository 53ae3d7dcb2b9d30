-- A refusal of the shape, what is missing, or the message.
use Rattle.std.proofs.Common.{sym, ◌∙◌}
use Rattle.verdicts.proofs.Rules.{passed-on}
use Rattle.wire.proofs.Held.{held_whole}
use Rattle.steps.proofs.Common.{not_whole, is_missing, is_editable}
use Rattle.steps.proofs.editable.Goals as goal

pub returns-in_err-m : goal.returns-in_err-m
returns-in_err-m c = passed-on c.from_residual.ensures ∙ not_whole _ _ (sym c.in_err-m.was ∙ c.whole.ensures)

pub new-requires : goal.new-requires
new-requires c = held_whole _ _ (sym c.in_ok-m.was ∙ c.whole.ensures)

pub returns-then-missing : goal.returns-then-missing
returns-then-missing c = is_missing _ _ (sym c.in_ok-m.was ∙ c.whole.ensures) _ (rw c.new.ensures at c.missing.ensures) c.if-missing.true

pub returns : goal.returns
returns c = is_editable _ _ (sym c.in_ok-m.was ∙ c.whole.ensures) _ (rw c.new.ensures at c.missing.ensures) c.if-missing.false
