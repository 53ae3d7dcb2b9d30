-- Each return is a case of the message's verdict.
use Rattle.std.proofs.Common.{sym, ◌∙◌}
use Rattle.sums.proofs.Passing.{passes-low}
use Rattle.wire.proofs.Held.{held-facts, held-four, held-six}
use Rattle.cover.specs.Sums.{message_sums}
use Rattle.cover.proofs.Before.{message-low}
use Rattle.judge.proofs.Answers.{unsummed, missing, bad, good}
use Rattle.judge.proofs.judge_message.Goals as goal

pub returns-in-Four : goal.returns-in-Four
returns-in-Four c = unsummed _ (sym c.silent.ensures ∙ c.if-silent.true) (held-four c.message-m.ensures c.in-Four.is)

pub returns-in-Six : goal.returns-in-Six
returns-in-Six c = missing _ (sym c.silent.ensures ∙ c.if-silent.true) (held-six c.message-m.ensures c.in-Six.is)

pub returns-then-passes : goal.returns-then-passes
unfolding message_sums
returns-then-passes c =
    let low = message-low _ (held-facts c.message-m.ensures) _ _ c.block.ensures.bytes c.pseudo_total-before.ensures c.total.ensures in
    good _ (sym c.silent.ensures ∙ c.if-silent.false) (sym (c.passes.ensures ∙ passes-low _ _ low) ∙ c.if-passes.true)

pub returns-else-passes : goal.returns-else-passes
unfolding message_sums
returns-else-passes c =
    let low = message-low _ (held-facts c.message-m.ensures) _ _ c.block.ensures.bytes c.pseudo_total-before.ensures c.total.ensures in
    bad _ (sym c.silent.ensures ∙ c.if-silent.false) (sym (c.passes.ensures ∙ passes-low _ _ low) ∙ c.if-passes.false)
