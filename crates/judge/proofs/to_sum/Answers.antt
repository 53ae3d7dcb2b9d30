-- The first refusal of the four, or what `inner` answers.
use Rattle.std.proofs.Common.{sym, ◌∙◌}
use Rattle.verdicts.proofs.Rules.{passed-on}
use Rattle.wire.proofs.Held.{headed}
use Rattle.judge.proofs.Answers.{refused, unsound, lost, inner-summed}
use Rattle.judge.proofs.to_sum.Goals as goal

pub returns-in_err-header : goal.returns-in_err-header
returns-in_err-header c = passed-on c.from_residual.ensures ∙ refused _ _ (sym c.in_err-header.was ∙ c.outer.ensures)

pub header_sums-requires : goal.header_sums-requires
header_sums-requires c = sym c.in_ok-header.was ∙ c.outer.ensures

pub returns-then-not-header_sums : goal.returns-then-not-header_sums
returns-then-not-header_sums c =
    unsound _ _ (sym c.in_ok-header.was ∙ c.outer.ensures) (sym c.header_sums.ensures ∙ c.if-not-header_sums.true)

pub walk-requires : goal.walk-requires
walk-requires c = sym c.in_ok-header.was ∙ c.outer.ensures

pub returns-in_err-carried : goal.returns-in_err-carried
returns-in_err-carried c =
    passed-on c.from_residual-in_err-carried.ensures
    ∙ lost _ _ (sym c.in_ok-header.was ∙ c.outer.ensures) (sym c.header_sums.ensures ∙ c.if-not-header_sums.false) _ (sym c.in_err-carried.was ∙ c.walk.ensures)

pub inner-requires : goal.inner-requires
inner-requires c =
    ((headed _ _ (sym c.in_ok-header.was ∙ c.outer.ensures)).outer, sym c.in_ok-carried.was ∙ c.walk.ensures)

pub returns : goal.returns
returns c =
    c.inner.ensures
    ∙ inner-summed _ _ (sym c.in_ok-header.was ∙ c.outer.ensures) (sym c.header_sums.ensures ∙ c.if-not-header_sums.false) _
    (sym c.in_ok-carried.was ∙ c.walk.ensures)
