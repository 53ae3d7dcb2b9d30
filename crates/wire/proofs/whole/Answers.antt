-- The first refusal of the three, or what `inner` answers.
use Rattle.std.proofs.Common.{sym, ◌∙◌}
use Rattle.verdicts.proofs.Rules.{passed-on}
use Rattle.wire.proofs.Held.{headed, refused-outer, refused-walk, inner-whole}
use Rattle.wire.proofs.whole.Goals as goal

pub returns-in_err-header : goal.returns-in_err-header
returns-in_err-header c = passed-on c.from_residual.ensures ∙ refused-outer _ _ (sym c.in_err-header.was ∙ c.outer.ensures)

pub returns-in_err-carried : goal.returns-in_err-carried
returns-in_err-carried c =
    passed-on c.from_residual-in_err-carried.ensures
    ∙ refused-walk _ _ (sym c.in_ok-header.was ∙ c.outer.ensures) _ (sym c.in_err-carried.was ∙ c.walk.ensures)

pub inner-requires : goal.inner-requires
inner-requires c =
    ((headed _ _ (sym c.in_ok-header.was ∙ c.outer.ensures)).outer, sym c.in_ok-carried.was ∙ c.walk.ensures)

pub returns : goal.returns
returns c =
    c.inner.ensures
    ∙ inner-whole _ _ (sym c.in_ok-header.was ∙ c.outer.ensures) _ (sym c.in_ok-carried.was ∙ c.walk.ensures)
