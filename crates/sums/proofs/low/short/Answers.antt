-- Four bytes taken out, and what is left.
use Rattle.std.proofs.Common.{◌≡◌, ◌-◌, length, take, drop, take_all, length-drop, refl, ◌∙◌, arith}
use Rattle.sums.proofs.Rests.{more-four}
use Rattle.sums.proofs.low.short.Goals as goal

pub returns : goal.returns
returns c =
    let xs = c.args.b.now in
    let all : take (length xs - 4) (drop 4 xs) ≡ drop 4 xs = take_all _ _ (rw length-drop (omega arith)) in
    (rw all at c.few-2.ensures) ∙ more-four xs _ _ _ 0 4 (omega arith) refl (c.from.ensures ∙ c.le4.ensures) c.carry.ensures
