-- Each refusal is of what fits neither family.
use Rattle.std.proofs.Common.{refl, arith}
use Rattle.build.specs.Build.{asked_by}
use Rattle.build.proofs.Answers.{no-size, unlike, too_long}
use Rattle.build.proofs.Udp.fit.Goals.{then-self-via-then-self, then-self-via-else-self+then-self-gt-MOST}
use Rattle.build.proofs.Udp.fit.Goals as goal

pub returns-in_default : goal.returns-in_default
returns-in_default c = (refl, no-size (asked_by c.args.self.now) (λ e. omega arith) (λ e. omega arith))

pub returns-then-self : goal.returns-then-self
returns-then-self c = (
  refl,
  elim c.then-self.branch [
    | then-self-via-then-self w ↦ unlike (asked_by c.args.self.now) w.if-self.true
    | then-self-via-else-self+then-self-gt-MOST w ↦ too_long (asked_by c.args.self.now) w.if-self-gt-MOST.true
  ],
)
