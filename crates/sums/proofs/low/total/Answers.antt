-- Each part leaves what the next begins with; in the end nothing is left.
use Rattle.std.proofs.Common.{◌-◌, ◌%◌, length, ap, ◌∙◌, arith}
use Rattle.sums.specs.Fold.{fold}
use Rattle.sums.proofs.Folds.{fold-add}
use Rattle.sums.proofs.Rests.{rest-part, more-none}
use Rattle.sums.proofs.low.total.Goals as goal
use Rattle.sums.proofs.low.total.Goals.{then-n-lt128, else-n-lt128}

pub returns : goal.returns
returns c =
    let s = c.args in
    let xs = s.b.now in
    let n = length xs - 1 in
    let m = n - n % 128 in
    c.ending.ensures ∙ c.last.ensures ∙ c.last-t-3.ensures ∙ c.last-t-2.ensures ∙ c.last-t.ensures
    ∙ elim c.if-n-lt128.branch [
      | then-n-lt128 w ↦ rw w.t-is (more-none xs s.seed m 0 (omega arith))
      | else-n-lt128 w ↦ rw w.t-is (fold-add _ _ _ w.turns-t.ensures ∙ ap fold (omega (arith, rest-part xs 0 m m (omega arith) (omega arith) (omega arith))))
    ]
