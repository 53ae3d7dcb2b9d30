-- The loop keeps the fold of what was added up and what is left.
use Rattle.std.proofs.Common.{◌≡◌, ◌+◌, ◌-◌, ◌*◌, ◌/◌, length, take, drop, ◌∙◌, arith}
use Rattle.sums.proofs.Rests.{chunk-four, more-four, more-end}
use Rattle.cover.proofs.fours.Goals as goal

pub loop-word-preserved : goal.loop-word-preserved
loop-word-preserved c =
    let l = c.loop-word in
    let i = c.args.from in
    let xs = c.args.b.now in
    let m = length xs - i in
    let j = l.word-index in
    let e = c.as_chunks.ensures in
    let k : length c.as_chunks.result.0.now ≡ length (take m (drop i xs)) / 4 = e.front_len in
    more-four xs _ _ _ (i + 4 * j) _ (omega arith) (omega arith)
    (c.from.ensures ∙ c.from_le_bytes.ensures ∙ rw e.front (chunk-four xs i m (length (take m (drop i xs)) / 4) j (omega arith) (omega arith) (omega arith))) c.carry-t.ensures ∙ l.invariant

pub returns : goal.returns
returns c =
    let l = c.loop-word in
    let i = c.args.from in
    let xs = c.args.b.now in
    let k : length c.as_chunks.result.0.now ≡ length (take (length xs - i) (drop i xs)) / 4 = c.as_chunks.ensures.front_len in
    more-end xs l.t (i + 4 * l.word-index) (omega arith) ∙ l.invariant
