-- A sum that wraps is 2 ^ 64 less, so with the carry 2 ^ 64 - 1 less, a multiple of 65535.
use Rattle.std.proofs.Common.{arith, refl}
use Rattle.sums.proofs.Rests.{step-fold}
use Rattle.sums.proofs.low.Carried.step.Goals as goal

pub returns : goal.returns
returns c = let s = c.args.self in rw c.from.ensures (step-fold s.n _ _ _ _ s.room (omega arith) refl refl)
