-- The eight bytes before the addresses, and the addresses behind them.
use Rattle.std.proofs.Common.{length, ◌-◌, arith, ◌∙◌, ap, subst}
use Rattle.std.proofs.Math.Seq.{take_all}
use Rattle.wire.specs.Bytes.{put}
use Rattle.wire.specs.declared.Family.TheVariants.{Six}
use Rattle.build.specs.Build.{asked_by}
use Rattle.build.specs.Places.{Fits}
use Rattle.build.proofs.Steps.{word_bytes, laid6}
use Rattle.build.proofs.Fit.lay_6.Goals as goal

pub returns : goal.returns
returns c =
    let p = c.args.packet.now in
    let u = c.args.self.now.udp in
    let a = asked_by u in
    let fits : Fits Six a = subst (λ f. Fits f a) c.requires.family c.args.self.now.fits in
    laid6 p a c.to_be_bytes.result fits
    (c.to_be_bytes.ensures ∙ word_bytes (length p - 40) (omega arith)) c.put.ensures
    (c.copy.ensures ∙ ap (put c.put.new.s 8) (take_all 16 u.source.now (omega (arith, fits.source))))
    (c.copy-2.ensures ∙ ap (put c.copy.new.s 24) (take_all 16 u.destination.now (omega (arith, fits.destination))))
