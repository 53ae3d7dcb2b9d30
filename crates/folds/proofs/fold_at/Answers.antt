-- `folds::fold_at` meets its contract: at an even position the fold of the low-first total counts with its bytes exchanged.
use Rattle.std.proofs.Common.{not, sym, ap, ◌∙◌, zero-add}
use Rattle.sums.specs.Fold.{fold}
use Rattle.sums.specs.Partials.{swap_if}
use Rattle.sums.proofs.Totals.{fold-from-low}
use Rattle.folds.proofs.fold_at.Goals as goal

pub returns : goal.returns
returns c =
    let odd = c.args.odd in
    c.aligned.ensures
    ∙ ap (swap_if (not odd)) (c.fold_of.ensures ∙ c.total.ensures ∙ ap fold (zero-add _))
    ∙ sym (fold-from-low odd _)
