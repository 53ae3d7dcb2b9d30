-- What the shift leaves is the number of the last bytes.
use Rattle.std.proofs.Common.{◌+◌, ◌-◌, ◌*◌, ◌/◌, ◌%◌, ◌^◌, ap, ◌∙◌, arith}
use Rattle.sums.specs.Fold.{fold}
use Rattle.sums.proofs.Rests.{rest-shifted}
use Rattle.sums.proofs.low.ending.Goals as goal

pub returns : goal.returns
returns c =
    let s = c.args in
    let l = c.requires in
    c.carry.ensures
    ∙ ap (λ v. fold (s.t + v / 2 ^ (8 * (7 - s.n % 8)))) c.le8.ensures
    ∙ rest-shifted s.b.now (s.n - 7) (omega arith) (λ j. omega (arith, c.type_inv.b j)) s.t (7 - s.n % 8) (s.n - s.n % 8) (omega arith) (omega arith)
