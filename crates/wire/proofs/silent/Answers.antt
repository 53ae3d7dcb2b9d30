-- Both tests are those of the contract: a word is 0 in either order.
use mathlib.Core.Path.{sym}
use Prim.Native.Nat.{◌+◌, ◌*◌, ◌/◌, ◌%◌}
use native.Mathlib.Omega.{arith}
use lib.Dec.{eqb}
use borrow.Author.Tests.{eqb-true, eqb-false, eq-eqb, ne_eqb}
use Rattle.verdicts.proofs.Tests.{by_cases}
use Rattle.wire.proofs.silent.Goals as goal

pub returns-then-m-ne-UDP : goal.returns-then-m-ne-UDP
returns-then-m-ne-UDP c = simp (ne_eqb _ _ c.if-m-ne-UDP.true)

pub returns : goal.returns
returns c =
    let w = c.low_word.result in
    simp (eq-eqb _ _ c.if-m-ne-UDP.false, sym c.low_word.ensures.0)
    (by_cases (eqb w 0)
    (λ t. simp (t, eq-eqb (w % 256 * 256 + w / 256) 0 (omega (arith, eqb-true w 0 t))))
    (λ f. simp (f, ne_eqb (w % 256 * 256 + w / 256) 0 (λ e. omega (arith, eqb-false w 0 f)))))
