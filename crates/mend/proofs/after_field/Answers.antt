-- Eight bytes, then what is left.
use mathlib.Core.Path.{refl, ◌∙◌}
use native.Mathlib.Omega.{arith}
use Rattle.sums.proofs.Rests.{more-eight}
use Rattle.mend.proofs.after_field.Goals as goal

pub returns : goal.returns
returns c =
    let l = c.requires in
    c.fours.ensures
    ∙ more-eight c.args.b.now _ _ _ 0 8 (omega arith) refl c.le8.ensures c.carry.ensures
