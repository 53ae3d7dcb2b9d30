-- A sum that wraps is 2 ^ 64 less, and one more is 2 ^ 64 - 1 less, a multiple of 65535.
use Rattle.std.proofs.Common.{◌+◌, ◌%◌, ◌^◌, ap, ◌∙◌, arith, refl}
use Rattle.sums.specs.Fold.{fold}
use Rattle.sums.proofs.Rests.{carry-fold}
use Rattle.sums.proofs.low.carry.Goals as goal

pub returns : goal.returns
returns c =
    let s = c.args in
    ap (λ n. fold ((s.a + s.b) % 2 ^ 64 + n)) c.from.ensures ∙ carry-fold s.a s.b _ (omega arith) (omega arith) refl
