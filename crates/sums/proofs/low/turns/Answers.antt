-- Each turn takes the next 128 bytes out of what is left; in the end nothing is left.
use Rattle.std.proofs.Common.{◌+◌, ◌*◌, ◌/◌, ◌≡◌, length, ◌∙◌, arith}
use Rattle.sums.proofs.Rests.{chunk-at, rest-turn, more-none, more-end}
use Rattle.sums.proofs.low.turns.Goals as goal

pub loop-turn-preserved : goal.loop-turn-preserved
loop-turn-preserved c =
    let l = c.loop-turn in
    let xs = c.args.b.now in
    let j = l.turn-index in
    let e = c.as_chunks.ensures in
    let k : length c.as_chunks.result.0.now ≡ length xs / 128 = e.front_len in
    more-none xs _ (128 * (j + 1)) (128 * j + 128) (omega arith)
    ∙ rest-turn xs _ c.args.seed l.t l.u _ _ (128 * j) (rw e.front (chunk-at 128 (length xs / 128) j xs (omega arith))) (omega arith) c.add-t.ensures c.add-u.ensures l.invariant

pub returns : goal.returns
returns c =
    let l = c.loop-turn in
    let k : length c.as_chunks.result.0.now ≡ length c.args.b.now / 128 = c.as_chunks.ensures.front_len in
    c.carry.ensures ∙ more-end c.args.b.now _ (128 * l.turn-index) (omega arith) ∙ l.invariant
