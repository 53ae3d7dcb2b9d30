-- A refusal before the message's sum, or the verdict on the message.
use Rattle.std.proofs.Common.{sym, ◌∙◌}
use Rattle.judge.proofs.Answers.{judged, held_to_sum}
use Rattle.judge.proofs.judge.Goals as goal

pub new-requires : goal.new-requires
new-requires c = held_to_sum _ _ (sym c.in-Ok.is ∙ c.to_sum.ensures)

pub returns-in-Err : goal.returns-in-Err
returns-in-Err c = sym (judged _ ∙ rw (← c.to_sum.ensures, c.in-Err.is))

pub returns-in-Ok : goal.returns-in-Ok
returns-in-Ok c = c.judge_message.ensures ∙ rw c.new.ensures (sym (judged _ ∙ rw (← c.to_sum.ensures, c.in-Ok.is)))
