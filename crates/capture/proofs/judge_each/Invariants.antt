-- With the verdicts on the packets that are left, the buffer is the answer's.
use Rattle.capture.specs.Records.{read_of}
use Rattle.capture.specs.Judged.{listed}
use Rattle.capture.proofs.Passes.{Judging}
use Rattle.capture.proofs.judge_each.Given as goal

abbrev pub invariant-loop-verdict : goal.invariant-loop-verdict
invariant-loop-verdict l = Judging l.fn.verdicts l.verdicts l.verdict-index (listed (read_of l.packets.rest.now)) (read_of l.rest).packets
