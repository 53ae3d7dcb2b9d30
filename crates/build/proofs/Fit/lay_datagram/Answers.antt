-- The header word by word, and the body behind it.
use Rattle.std.proofs.Common.{arith, ◌+◌, ◌∙◌, ap, length}
use Rattle.wire.specs.Bytes.{put}
use Rattle.build.specs.Build.{asked_by}
use Rattle.build.proofs.Steps.{laid8, word_bytes}
use Rattle.build.proofs.Fit.lay_datagram.Goals as goal

pub returns : goal.returns
returns c =
    let u = c.args.self.now.udp in
    let at = c.args.at in
    laid8 c.args.packet.now at (asked_by u)
    (c.put.ensures ∙ ap (put c.args.packet.now at) (c.to_be_bytes.ensures ∙ word_bytes u.source_port (omega arith)))
    (c.put-2.ensures ∙ ap (put c.put.new.s (at + 2)) (c.to_be_bytes-2.ensures ∙ word_bytes u.destination_port (omega arith)))
    (c.put-3.ensures ∙ ap (put c.put-2.new.s (at + 4)) (c.to_be_bytes-3.ensures ∙ word_bytes (8 + length u.body.now) (omega (arith, c.args.self.now.fits.body))))
    c.put-4.ensures c.put_bytes.ensures
