-- To take 65534 away is to add one, modulo 65535.
use Prim.Native.Nat.{◌+◌}
use native.Mathlib.Omega.{arith}
use Rattle.sums.specs.Low.{two_at}
use Rattle.steps.proofs.Changes.{renewed-other}
use Rattle.steps.proofs.update.raised.Goals as goal

pub returns-then-f-lt65534 : goal.returns-then-f-lt65534
unfolding two_at
returns-then-f-lt65534 c =
    let k = c.type_inv.packet in
    let a = c.args in
    let e = c.le2-f.ensures in
    let l = c.if-f-lt65534.true in
    renewed-other _ _ _ _ (omega (arith, k a.at)) (omega (arith, k (a.at + 1))) (omega arith) (omega arith) (omega arith)

pub returns : goal.returns
unfolding two_at
returns c =
    let k = c.type_inv.packet in
    let a = c.args in
    let e = c.le2-f.ensures in
    let l = c.if-f-lt65534.false in
    renewed-other _ _ _ _ (omega (arith, k a.at)) (omega (arith, k (a.at + 1))) (omega arith) (omega arith) (omega arith)
