-- Each turn writes the verdict on the packet that comes.
use Rattle.capture.proofs.Passes.{judging_on}
use Rattle.capture.proofs.judge_each.Goals as goal

pub loop-verdict-preserved : goal.loop-verdict-preserved
loop-verdict-preserved c = judging_on (rw c.in-Some-Ok.field-0-is at c.in-Some-Ok.ensures.steps) c.number.ensures c.loop-verdict.invariant
