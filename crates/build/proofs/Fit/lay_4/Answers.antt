-- The twelve bytes before the addresses, and the addresses behind them.
use Rattle.std.proofs.Common.{length, arith, ◌∙◌, ap, subst}
use Rattle.std.proofs.Math.Seq.{take_all}
use Rattle.wire.specs.Bytes.{put}
use Rattle.wire.specs.declared.Family.TheVariants.{Four}
use Rattle.build.specs.Build.{asked_by}
use Rattle.build.specs.Places.{Fits}
use Rattle.build.proofs.Steps.{word_bytes, laid4}
use Rattle.build.proofs.Fit.lay_4.Goals as goal

pub returns : goal.returns
returns c =
    let p = c.args.packet.now in
    let u = c.args.self.now.udp in
    let a = asked_by u in
    let fits : Fits Four a = subst (λ f. Fits f a) c.requires.family c.args.self.now.fits in
    laid4 p a c.to_be_bytes.result fits c.requires.room.0
    (c.to_be_bytes.ensures ∙ word_bytes (length p) c.requires.room.1) c.put.ensures c.put-2.ensures
    (c.copy.ensures ∙ ap (put c.put-2.new.s 12) (take_all 4 u.source.now (omega (arith, fits.source))))
    (c.copy-2.ensures ∙ ap (put c.copy.new.s 16) (take_all 4 u.destination.now (omega (arith, fits.destination))))
