-- A mask of low bits is a remainder. The six are the flag and the offset's high bits, and the byte above is the rest of it.
use mathlib.Core.Path.{◌≡◌, sym}
use Prim.Native.Nat.{ℕ, ◌+◌, ◌*◌, ◌/◌, ◌%◌, ◌<◌}
use native.Mathlib.Omega.{arith}
use native.Mathlib.Nat.{zero-add}
use mathlib.Core.Bool.{true, not}
use lib.Dec.{eqb}
use borrow.Author.Tests.{eqb-false, ne_eqb}
use lib.Bits.{and_mask}
use Rattle.verdicts.proofs.Tests.{by_cases}
use Rattle.wire.specs.Outer.{split_of}
use Rattle.wire.proofs.bits.split.Goals as goal

module _ (a b : ℕ) (h : b < 256) where
  flag : (a * 256 + b) / 8192 % 2 ≡ a / 32 % 2
  flag = omega arith

  offset : (a * 256 + b) % 8192 ≡ a % 32 * 256 + b
  offset = omega arith

  six : a % 64 ≡ a / 32 % 2 * 32 + a % 32
  six = omega arith

  some : (a % 64 ≡ 0 → ⊥) → split_of (a * 256 + b) ≡ true
  some n =
      rw (flag, offset)
      (by_cases (eqb (a / 32 % 2) 1)
      (λ t. simp t)
      (λ f. let m = eqb-false (a / 32 % 2) 1 f in simp (f, ne_eqb (a % 32 * 256 + b) 0 (λ e. omega (arith, six)))))

  none : a % 64 ≡ 0 → split_of (a * 256 + b) ≡ not (eqb b 0)
  none e =
      let x : a / 32 % 2 ≡ 0 = omega (arith, six) in
      let y : a % 32 ≡ 0 = omega arith in
      rw (flag, offset, x, y) (simp zero-add)

pub returns-then-w-ne0 : goal.returns-then-w-ne0
returns-then-w-ne0 c = let w = c.args.w in sym (some (w % 256) (w / 256) (omega arith) (λ e. omega (arith, and_mask w 6)))

pub returns : goal.returns
returns c = let w = c.args.w in sym (none (w % 256) (w / 256) (omega arith) (omega (arith, and_mask w 6)))
