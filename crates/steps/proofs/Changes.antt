-- Changes of totals, and fields renewed by them, low byte first.
use Prim.Native.Nat.{ℕ, ◌+◌, ◌*◌, ◌-◌, ◌/◌, ◌%◌, ◌≤◌, ◌<◌}
use mathlib.Core.Path.{◌≡◌, refl, sym, ap, ◌∙◌}
use mathlib.Core.Bool.{Bool, true, false}
use mathlib.Core.List.{List}
use native.Mathlib.Omega.{arith}
use native.Mathlib.Nat.{zero-add}
use lib.Dec.{eqb}
use borrow.Author.Tests.{eqb-true, eqb-false}
use Rattle.verdicts.proofs.Tests.{by_cases}
use Rattle.sums.specs.Fold.{fold, swap}
use Rattle.sums.specs.Total.{weigh}
use Rattle.sums.specs.Partials.{swap_if}
use Rattle.sums.specs.Update.{updated}
use Rattle.sums.proofs.Folds.{fold-alike, mod-out, mod-in, mod_plus}
use Rattle.sums.proofs.Totals.{other-mod}
use Rattle.sums.proofs.Updates.{total-only}
use Rattle.mend.specs.Fresh.{sent}
use Rattle.steps.specs.Steps.{Change, Renewed}

-- 2 ^ 64 - 1 is a multiple of 65535, so to add the complement is to take the number away
pub complement : (old new r : ℕ) → old ≤ 18446744073709551615 → r % 65535 ≡ (18446744073709551615 - old + new) % 65535
    → (r % 65535 + old) % 65535 ≡ new % 65535
complement old new r h e = omega arith

-- ---- a change, by any totals that have the folds of the old bytes' and the new bytes'
pub low-change : (old new : List ℕ) (s t d : ℕ) → fold s ≡ fold (0 + weigh true old) → fold t ≡ fold (0 + weigh true new)
    → (d + s) % 65535 ≡ t % 65535 → (d + weigh true old) % 65535 ≡ weigh true new % 65535
low-change old new s t d es et e =
    let o = weigh true old in
    let n = weigh true new in
    mod_plus d d o s refl (sym (fold-alike s o (es ∙ ap fold (zero-add o)))) ∙ e ∙ fold-alike t n (et ∙ ap fold (zero-add n))

-- bytes at an even position, and at an odd one
pub changes : (old new : List ℕ) (d : ℕ) → (d + weigh true old) % 65535 ≡ weigh true new % 65535
    → (odd : Bool) → Change (swap_if odd d) (weigh odd old) (weigh odd new)
changes old new d e false =
    mod_plus d d (256 * weigh false old) (weigh true old) refl (sym (other-mod false old)) ∙ e ∙ other-mod false new
changes old new d e true =
    let x = weigh true old in
    let y = weigh true new in
    let k = mod-out (d + x) y e in
    mod-in (swap d + 256 * x) (256 * y) (d / 256 + 256 * (y / 65535)) (256 * ((d + x) / 65535)) (omega arith)

-- ---- a field, of whose class modulo 65535 the update u is the one number under FFFF
as-other : (w u : ℕ) → w ≤ 65534 → swap w % 65535 ≡ u → swap w ≡ u
as-other w u h e = omega arith

as-udp : (x u : ℕ) → 1 ≤ x → x ≤ 65535 → x % 65535 ≡ u → x ≡ sent true u
unfolding sent
as-udp x u h k e =
    by_cases (eqb u 0)
    (λ t. let z = eqb-true u 0 t in simp t (omega arith))
    (λ t. let z : ¬ (u ≡ 0) = eqb-false u 0 t in simp t (omega arith))

-- b and c are its bytes
module _ (b c d w : ℕ) (hb : b < 256) (hc : c < 256) (hw : w ≤ 65535) (e : (w + d) % 65535 ≡ (b + 256 * c) % 65535) where
  less-is : (m n : ℕ) → Change d m n → swap w % 65535 ≡ updated (b * 256 + c) (fold m) (fold n)
  less-is m n k =
      let f = b + 256 * c in
      let x = mod-out (w + d) f e in
      let y = mod-out (d + 256 * m) (256 * n) k in
      let z = mod-in (swap w + n) (b * 256 + c + m)
      (w / 256 + n + 256 * (f / 65535 + (d + 256 * m) / 65535))
      (c + m + 256 * ((w + d) / 65535 + (256 * n) / 65535)) (omega arith) in
      total-only (b * 256 + c) m n (omega arith) (swap w % 65535) (omega arith) (omega arith)

  pub renewed-udp : 1 ≤ w → Renewed true (b * 256 + c) d w
  renewed-udp h = record { is = λ m n k. as-udp (swap w) _ (omega arith) (omega arith) (less-is m n k) }

  pub renewed-other : w ≤ 65534 → Renewed false (b * 256 + c) d w
  unfolding sent
  renewed-other h = record { is = λ m n k. as-other w _ h (less-is m n k) }
