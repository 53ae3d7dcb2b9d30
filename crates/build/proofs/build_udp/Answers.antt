-- Each refusal in its case, and the packet in the buffer's first bytes.
use Rattle.std.proofs.Common.{◌∙◌, ap, subst}
use Rattle.verdicts.proofs.Rules.{passed-on}
use Rattle.build.specs.Build.{asked_by, refusal}
use Rattle.build.specs.Places.{Fits}
use Rattle.build.proofs.Answers.{at_place, fit-spent, fit-room, fit-good}
use Rattle.build.proofs.build_udp.Goals as goal

pub returns-in_err-fit : goal.returns-in_err-fit
returns-in_err-fit c =
    let B = c.args.buffer.now in
    let p = passed-on c.from_residual.ensures in
    ap (λ r. (r, B)) p ∙ ap (λ v. (refusal v, B)) c.in_err-fit.ensures.0 ∙ at_place (asked_by c.args.udp.now) B c.in_err-fit.ensures.1

pub returns-then-udp-eq0 : goal.returns-then-udp-eq0
returns-then-udp-eq0 c =
    let fit = c.in_ok-fit.fit in
    fit-spent (subst (λ u. Fits fit.family (asked_by u)) c.in_ok-fit.ensures fit.fits) c.args.buffer.now c.if-udp-eq0.true

pub returns-then-buffer-size : goal.returns-then-buffer-size
returns-then-buffer-size c =
    let fit = c.in_ok-fit.fit in
    fit-room (subst (λ u. Fits fit.family (asked_by u)) c.in_ok-fit.ensures fit.fits) c.args.buffer.now c.if-udp-eq0.false
    (rw c.in_ok-fit.ensures at c.places-size.ensures) c.if-buffer-size.true

pub returns : goal.returns
returns c =
    let fit = c.in_ok-fit.fit in
    fit-good (subst (λ u. Fits fit.family (asked_by u)) c.in_ok-fit.ensures fit.fits) c.args.buffer.now c.if-udp-eq0.false
    (rw c.in_ok-fit.ensures at c.places-size.ensures) c.if-buffer-size.false (rw c.in_ok-fit.ensures at c.fill.ensures)
