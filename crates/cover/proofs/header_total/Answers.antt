-- Twenty bytes, then what is left.
use mathlib.Core.Path.{refl, sym, ap, ◌∙◌}
use native.Mathlib.Nat.{zero-add}
use native.Mathlib.Omega.{arith}
use Rattle.sums.specs.Fold.{fold}
use Rattle.sums.proofs.Totals.{low-times}
use Rattle.sums.proofs.Rests.{more-four, more-eight}
use Rattle.cover.proofs.header_total.Goals as goal

pub returns : goal.returns
returns c =
    let xs = c.args.header.now in
    let l = c.requires.0 in
    c.fours.ensures
    ∙ more-four xs _ _ _ 16 20 (omega arith) refl c.le4.ensures c.carry.ensures
    ∙ more-eight xs _ _ _ 8 16 (omega arith) refl c.le8-2.ensures c.carry-first.ensures
    ∙ more-eight xs 0 _ _ 0 8 (omega arith) refl c.le8.ensures (ap fold (sym (zero-add _)))
    ∙ ap fold (zero-add _)
    ∙ low-times xs
