-- RFC 1071's sum against the fold of the total.
use mathlib.Core.Path.{◌≡◌, sym, ap, ◌∙◌}
use mathlib.Core.Logic.{◌↔◌}
use Prim.Native.Nat.{ℕ, suc, ◌+◌, ◌*◌, ◌≤◌}
use native.Mathlib.Omega.{arith}
use mathlib.Core.List.{List, [], ◌∷◌}
use mathlib.Core.Bool.{true}
use borrow.Author.Tests.{eqb-true, eq-eqb}
use Rattle.sums.specs.Total.{weigh, total}
use Rattle.sums.specs.Fold.{fold, passes}
use Rattle.sums.proofs.Folds.{fold-as, fold-right, fold-fixed, fold_small}
use Rattle.sums.proofs.Passing.{passes-exactly}
use Rattle.wire.specs.Bytes.{Bytes}
use Rattle.judge.specs.Rfc.{◌⊞◌, summed, Right}

-- of two words the sum with end-around carry is the fold of their sum
pub carry-fold : (a b : ℕ) → a ≤ 65535 → b ≤ 65535 → a ⊞ b ≡ fold (a + b)
carry-fold a b h k = omega (arith, fold-as (a + b))

-- and so of any string of bytes it is the fold of the total
pub summed-fold : (xs : List ℕ) → Bytes xs → summed xs ≡ fold (total xs)
unfolding summed weigh
summed-fold [] b = sym (fold-fixed 0 (omega arith))
summed-fold (x ∷ []) b = sym (fold-fixed (256 * x + 0) (omega (arith, b 0)))
summed-fold (x ∷ y ∷ xs) b =
    let w = 256 * x + y in
    let e = summed-fold xs (λ i. b (suc (suc i))) in
    carry-fold w (summed xs) (omega (arith, b 0, b 1)) (omega (arith, e, fold_small (total xs)))
    ∙ ap (λ n. fold (w + n)) e
    ∙ fold-right w (total xs)
    ∙ ap fold (omega arith)

-- a block comes to FFFF exactly when it passes
pub right-passes : (xs : List ℕ) → Bytes xs → Right xs ↔ (passes (total xs) ≡ true)
right-passes xs b =
    let e = summed-fold xs b in (
      λ r. passes-exactly (total xs) ∙ eq-eqb (fold (total xs)) 65535 (sym e ∙ r),
      λ t. e ∙ eqb-true (fold (total xs)) 65535 (sym (passes-exactly (total xs)) ∙ t),
    )
