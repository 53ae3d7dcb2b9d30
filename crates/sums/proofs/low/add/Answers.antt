-- Each turn takes the next number out of what is left.
use Rattle.std.proofs.Common.{◌+◌, ◌-◌, ◌*◌, ◌/◌, length, take, drop, ◌∙◌, arith}
use Rattle.sums.proofs.Rests.{more-eight, chunk-eight}
use Rattle.sums.proofs.low.add.Goals as goal

pub loop-word-preserved : goal.loop-word-preserved
loop-word-preserved g c =
    let l = c.loop-word in
    let i = c.args.i in
    let xs = c.args.b.now in
    let e = c.as_chunks.ensures in
    let m = i + g.row.N - i in
    let n = l.word-index in
    more-eight xs _ _ _ (i + 8 * n) _ (omega arith) (omega arith) (c.from_le_bytes.ensures ∙ rw e.front (chunk-eight xs i m (length (take m (drop i xs)) / 8) n (omega arith) (omega arith) (omega arith))) c.step-s.ensures ∙ l.invariant
