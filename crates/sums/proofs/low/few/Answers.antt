-- Each turn takes a number out of what is left: in the end a byte, or nothing.
use Rattle.std.proofs.Common.{◌≡◌, ◌-◌, ◌*◌, ◌/◌, length, get_or, ap, ◌∙◌, arith}
use Rattle.sums.proofs.Rests.{more-two, chunk-two, more-one, more-end}
use Rattle.sums.proofs.low.few.Goals as goal

pub loop-word-preserved : goal.loop-word-preserved
loop-word-preserved c =
    let l = c.loop-word in
    let e = c.as_chunks.ensures in
    more-two _ _ _ _ (2 * l.word-index) _ (omega arith) (omega arith) (c.from.ensures ∙ c.from_le_bytes.ensures ∙ rw e.front (chunk-two _ _ l.word-index (omega arith) (omega arith))) c.carry-t.ensures ∙ l.invariant

pub returns-then-b-eq0 : goal.returns-then-b-eq0
returns-then-b-eq0 c =
    let l = c.loop-word in
    let e : length c.as_chunks.result.0.now ≡ length c.args.b.now / 2 = c.as_chunks.ensures.front_len in
    more-end c.args.b.now l.t (2 * l.word-index) (omega arith) ∙ l.invariant

pub returns : goal.returns
returns c =
    let l = c.loop-word in
    let xs = c.args.b.now in
    let e : length c.as_chunks.result.0.now ≡ length xs / 2 = c.as_chunks.ensures.front_len in
    let k : length xs - 1 ≡ 2 * l.word-index = omega arith in
    more-one xs l.t _ _ (2 * l.word-index) (omega arith) (c.from-2.ensures ∙ ap (λ i. get_or xs i 0) k) c.carry.ensures ∙ l.invariant
