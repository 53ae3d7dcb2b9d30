-- The arithmetic of a field in its block: as it is sent, and as it is worked out anew.
use Prim.Native.Nat.{ℕ, zero, suc, ◌+◌, ◌*◌, ◌-◌, ◌/◌, ◌%◌, ◌≤◌, ◌<◌}
use mathlib.Core.Path.{◌≡◌, refl, sym, ap, ◌∙◌}
use mathlib.Core.Logic.{◌⊎◌, inl, inr}
use mathlib.Core.Bool.{Bool, true, false, ◌&&◌}
use native.Mathlib.Nat.{add-mul-mod_self_left}
use native.Mathlib.Omega.{arith}
use native.Mathlib.Decide.{ℕ_discrete}
use lib.Dec.{eqb}
use borrow.Author.Tests.{eq-eqb, ne_eqb}
use Rattle.sums.specs.Fold.{fold, field_of, passes, swap}
use Rattle.sums.proofs.Folds.{fold-as, fold_small, fold-mod, fold-alike, fold-fold, mod-in, mod_plus}
use Rattle.sums.proofs.Totals.{field-from-low}
use Rattle.sums.proofs.Passing.{passing, passed, fresh-passes}
use Rattle.mend.specs.Fresh.{sent}

-- what is written for a field, as one expression
sent-as : (w : ℕ) → sent true w ≡ w + 65535 * (1 - w)
unfolding sent
sent-as zero = refl
sent-as (suc w) = let x : ¬ (suc w ≡ 0) = λ z. omega arith in rw (ne_eqb (suc w) 0 x) (omega arith)

-- UDP's is never 0000
pub sent-some : (u : Bool) (w : ℕ) → (u && eqb (sent u w) 0) ≡ false
sent-some false w = refl
sent-some true w = ne_eqb (sent true w) 0 (λ e. omega (arith, sent-as w))

pub sent-small : (u : Bool) (w : ℕ) → w ≤ 65535 → sent u w ≤ 65535
sent-small false w h = unfold sent in h
sent-small true w h = omega (arith, sent-as w)

pub sent-mod : (u : Bool) (w : ℕ) → sent u w % 65535 ≡ w % 65535
sent-mod false w = unfold sent in refl
sent-mod true w = omega (arith, sent-as w)

-- a block with its fresh field passes, also as UDP sends it
pub sent-passes : (t : ℕ) (u : Bool) → passes (t + sent u (field_of (fold t))) ≡ true
sent-passes t false = unfold sent in fresh-passes t
sent-passes t true =
    let w = field_of (fold t) in
    passing (t + sent true w) (omega (arith, sent-as w)) (omega (arith, sent-as w, (passed (t + w) (fresh-passes t)).1))

-- a field that passes is the fresh one, or it isn't UDP's and stands at FFFF where the fresh one is 0000
pub passing-fresh : (t hc : ℕ) (u : Bool) → hc ≤ 65535 → passes (t + hc) ≡ true → (u ≡ true → 0 < hc)
    → (hc ≡ sent u (field_of (fold t))) ⊎ ((u ≡ false) × (hc ≡ 65535) × (sent u (field_of (fold t)) ≡ 0))
unfolding sent
passing-fresh t hc u small p some = by u some
  where
    only : (0 < fold t + hc) × ((fold t + hc) % 65535 ≡ 0)
    only = let k = passed (t + hc) p in (omega (arith, fold-as t), mod_plus (fold t) t hc hc (fold-mod t) refl ∙ k.1)

    by : (u : Bool) → (u ≡ true → 0 < hc) → (hc ≡ sent u (field_of (fold t))) ⊎ ((u ≡ false) × (hc ≡ 65535) × (sent u (field_of (fold t)) ≡ 0))
    by false some =
        let k = only in
        elim (ℕ_discrete (fold t + hc) 65535) [ yes e ↦ inl (omega arith) | no e ↦ inr (refl, omega (arith, fold_small t), omega (arith, fold_small t)) ]
    by true some =
        let k = only in
        let h = some refl in
        let w = field_of (fold t) in
        inl (elim (ℕ_discrete (fold t) 65535) [ yes e ↦ omega (arith, sent-as w) | no e ↦ omega (arith, sent-as w, fold_small t) ])

-- ---- a field worked out low byte first; s is the total of the block but for the field, and t, which is like 256 * s, what code counts
-- where 65535 doesn't divide it
pub fresh-some : (s t r : ℕ) (u : Bool) → t % 65535 ≡ (256 * s) % 65535 → r < 65535 → (r + t) % 65535 ≡ 0 → ¬ (r ≡ 0) → swap r ≡ sent u (field_of (fold s))
fresh-some s t r u e small m n = by u
  where
    is : swap r ≡ field_of (fold s)
    is = field-from-low (fold (256 * s)) s r (fold-fold (256 * s)) (omega (arith, fold-mod (256 * s), e)) small (omega (arith, fold-mod (256 * s), e))

    by : (u : Bool) → swap r ≡ sent u (field_of (fold s))
    by false = unfold sent in is
    by true = let h : 0 < swap r = omega arith in omega (arith, sent-as (field_of (fold s)), is)

-- where code counts 0
pub zero-low : (r t : ℕ) → fold r ≡ fold (256 * t) → eqb r 0 ≡ eqb t 0
zero-low r t e =
    elim (ℕ_discrete t 0) [
      | yes z ↦ eq-eqb r 0 (omega (arith, fold-as r, fold-as (256 * t))) ∙ sym (eq-eqb t 0 z)
      | no z ↦ ne_eqb r 0 (λ y. z (omega (arith, fold-as r, fold-as (256 * t)))) ∙ sym (ne_eqb t 0 z)
    ]

-- where it does
pub divides : (t : ℕ) → (256 * t) % 65535 ≡ 0 → t % 65535 ≡ 0
divides t e = mod-in t 0 t (256 * (256 * t / 65535)) (omega arith)

pub fresh-udp : (t : ℕ) → t % 65535 ≡ 0 → 65535 ≡ sent true (field_of (fold t))
fresh-udp t e = omega (arith, fold-as t, sent-as (field_of (fold t)))

pub fresh-zero : (t : ℕ) → t % 65535 ≡ 0 → 0 < t → 0 ≡ sent false (field_of (fold t))
unfolding sent
fresh-zero t e h = omega (arith, fold-as t)

pub fresh-blank : (t : ℕ) → t ≡ 0 → 65535 ≡ sent false (field_of (fold t))
unfolding sent
fresh-blank t e = omega (arith, fold-as t)

-- a block's total less its field f, which is the word hc low byte first
pub less-field : (t hc high m f r : ℕ) → fold m ≡ fold (256 * (t + hc)) → 256 * hc ≡ f + 65535 * high → f ≤ 65535 → fold r ≡ fold (m + (65535 - f))
    → r % 65535 ≡ (256 * t) % 65535
less-field t hc high m f r em eh small er =
    let a = fold-alike r (m + (65535 - f)) er in
    let b = fold-alike m (256 * (t + hc)) em in
    let c : 256 * (t + hc) + (65535 - f) ≡ 256 * t + 65535 * (high + 1) = omega arith in
    a ∙ mod_plus m (256 * (t + hc)) (65535 - f) (65535 - f) b refl ∙ ap (λ n. n % 65535) c ∙ add-mul-mod_self_left (256 * t) 65535 (high + 1)
