-- The new bytes are added to the complement of a total that has the old bytes' fold.
use Rattle.std.proofs.Common.{◌+◌, ◌%◌, true, refl, sym, ap, ◌∙◌, arith}
use native.Mathlib.Nat.{zero-add}
use Rattle.sums.specs.Total.{weigh}
use Rattle.sums.proofs.Folds.{fold-alike}
use Rattle.steps.proofs.Changes.{complement, low-change}
use Rattle.steps.proofs.change.Change.of.Goals as goal

pub returns : goal.returns
returns c =
    let s = c.total in
    let r = c.total-2.result in
    let a = c.args in
    let n = weigh true a.new.now in
    let e = complement s.result n r (omega arith) (fold-alike r _ c.total-2.ensures) in
    low-change a.old.now a.new.now s.result (0 + n) (r % 65535) s.ensures refl (e ∙ ap (λ k. k % 65535) (sym (zero-add n)))
