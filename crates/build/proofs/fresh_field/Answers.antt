-- The covered block's total, whose complement is the field: FFFF where that would be 0000.
use Rattle.std.proofs.Common.{arith, sym, ◌∙◌}
use Rattle.sums.proofs.Folds.{fold-alike}
use Rattle.wire.proofs.Held.{held-facts}
use Rattle.cover.proofs.Before.{message-low}
use Rattle.mend.proofs.Numbers.{divides, fresh-some, fresh-udp}
use Rattle.build.proofs.fresh_field.Goals as goal

pub returns-in-0 : goal.returns-in-0
returns-in-0 c =
    let b = c.block.ensures in
    let block = fold-alike _ _ (message-low _ (held-facts b.whole) _ _ b.bytes c.pseudo_total-before.ensures c.total.ensures) in
    fresh-udp _ (divides _ (sym block ∙ omega (arith, c.field_low.ensures.1, c.in-0.is)))

pub returns-in_default : goal.returns-in_default
returns-in_default c =
    let b = c.block.ensures in
    let block = fold-alike _ _ (message-low _ (held-facts b.whole) _ _ b.bytes c.pseudo_total-before.ensures c.total.ensures) in
    let r = c.field_low.ensures in
    fresh-some _ _ _ _ block r.0 r.1 (λ e. omega arith)
