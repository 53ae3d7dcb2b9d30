-- The word's bytes, low byte first, are those of the word exchanged.
use Rattle.std.proofs.Common.{◌≡◌, ◌+◌, ◌*◌, ◌/◌, ◌%◌, ◌∙◌, ap, arith}
use Rattle.wire.specs.Bytes.{put}
use Rattle.writes.proofs.put_low.Goals as goal

pub returns : goal.returns
returns c =
    let w = c.args.w in
    let first : (w % 256 * 256 + w / 256) / 256 ≡ w % 256 = omega arith in
    let second : (w % 256 * 256 + w / 256) % 256 ≡ w / 256 % 256 = omega arith in
    rw (first, second) (c.put.ensures ∙ ap (put c.args.s.now c.args.at) c.to_le_bytes.ensures)
