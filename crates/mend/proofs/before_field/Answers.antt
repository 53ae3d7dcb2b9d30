-- Eight bytes, then two.
use mathlib.Core.Path.{refl, sym, ap, ◌∙◌}
use native.Mathlib.Nat.{zero-add}
use native.Mathlib.Omega.{arith}
use Rattle.sums.specs.Fold.{fold}
use Rattle.sums.proofs.Rests.{more-two, more-eight, more-end}
use Rattle.mend.proofs.before_field.Goals as goal

pub returns : goal.returns
returns c =
    let xs = c.args.b.now in
    let l = c.requires in
    more-end xs _ 10 (omega arith)
    ∙ more-two xs _ _ _ 8 10 (omega arith) refl c.le2.ensures c.carry.ensures
    ∙ more-eight xs 0 _ _ 0 8 (omega arith) refl c.le8.ensures (ap fold (sym (zero-add _)))
    ∙ ap fold (zero-add _)
