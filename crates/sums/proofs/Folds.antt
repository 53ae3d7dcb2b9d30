-- Laws of the fold. `fold-as` opens it as one expression, from which omega has most of the rest.
use Rattle.std.proofs.Common.{◌≡◌, ℕ, zero, suc, ◌+◌, ◌-◌, ◌*◌, ◌/◌, ◌%◌, ◌≤◌, sym, refl, ap, ◌∙◌, ap₂, arith}
use native.Mathlib.Nat.{add-mul-mod_self_left}
use Rattle.sums.specs.Fold.{fold, swap}

pub fold-as : (t : ℕ) → fold t ≡ t - 65535 * ((t - 1) / 65535)
unfolding fold
fold-as zero = refl
fold-as (suc n) = omega arith

-- a fold is at most 65535, leaves the same remainder as the total, and is 0 only for the total 0
pub fold_small : (t : ℕ) → fold t ≤ 65535
fold_small t = omega (arith, fold-as t)

pub fold-mod : (t : ℕ) → fold t % 65535 ≡ t % 65535
fold-mod t = omega (arith, fold-as t)

pub fold-zero : (t : ℕ) → fold t ≡ 0 → t ≡ 0
fold-zero t h = omega (arith, fold-as t)

-- so totals of one fold are alike modulo 65535
pub fold-alike : (a b : ℕ) → fold a ≡ fold b → a % 65535 ≡ b % 65535
fold-alike a b e = sym (fold-mod a) ∙ ap (λ n. n % 65535) e ∙ fold-mod b

-- it is the only such number, so totals alike in both have one fold
pub fold-only : (t f : ℕ) → f ≤ 65535 → f % 65535 ≡ t % 65535 → (f ≡ 0 → t ≡ 0) → (t ≡ 0 → f ≡ 0) → f ≡ fold t
unfolding fold
fold-only zero f s m z y = y refl
fold-only (suc n) zero s m z y = omega (arith, z refl)
fold-only (suc n) (suc f) s m z y = omega arith

pub fold_same : (a b : ℕ) → a % 65535 ≡ b % 65535 → (a ≡ 0 → b ≡ 0) → (b ≡ 0 → a ≡ 0) → fold a ≡ fold b
fold_same zero b m z y = ap fold (sym (z refl))
fold_same (suc a) zero m z y = ap fold (y refl)
fold_same (suc a) (suc b) m z y = omega (arith, fold-as (suc a), fold-as (suc b))

-- a number may stand for another of the same fold wherever sums are folded
pub fold-left : (a b : ℕ) → fold (fold a + b) ≡ fold (a + b)
fold-left a b = omega (arith, fold-as (fold a + b), fold-as (a + b), fold-as a)

pub fold-right : (a b : ℕ) → fold (a + fold b) ≡ fold (a + b)
fold-right a b = omega (arith, fold-as (a + fold b), fold-as (a + b), fold-as b)

pub fold-both : (a b : ℕ) → fold (fold a + fold b) ≡ fold (a + b)
fold-both a b = fold-left a (fold b) ∙ fold-right a b

pub fold-add : (a b c : ℕ) → fold a ≡ fold b → fold (a + c) ≡ fold (b + c)
fold-add a b c e = sym (fold-left a c) ∙ ap (λ n. fold (n + c)) e ∙ fold-left b c

pub fold-sum : (a b c d : ℕ) → fold a ≡ fold b → fold c ≡ fold d → fold (a + c) ≡ fold (b + d)
fold-sum a b c d e h = sym (fold-both a c) ∙ ap₂ (λ m n. fold (m + n)) e h ∙ fold-both b d

-- multiples of 65535 make no difference, unless to 0
pub fold-turns : (t k : ℕ) → (t ≡ 0 → k ≡ 0) → fold (t + 65535 * k) ≡ fold t
fold-turns t k z =
    fold_same (t + 65535 * k) t (add-mul-mod_self_left t 65535 k) (λ h. omega arith) (λ h. omega (arith, z h))

pub fold-fold : (a : ℕ) → fold (fold a) ≡ fold a
fold-fold a = omega (arith, fold-as (fold a), fold-as a)

pub fold-fixed : (a : ℕ) → a ≤ 65535 → fold a ≡ a
fold-fixed a h = omega (arith, fold-as a)

-- 256 times a total has the fold with its bytes exchanged
pub fold-times : (t : ℕ) → fold (256 * t) ≡ swap (fold t)
fold-times t = omega (arith, fold-as t, fold-as (256 * t))

-- to exchange the bytes of a number is, for its fold, to take it 256 times
pub fold-swap : (n : ℕ) → fold (swap n) ≡ fold (256 * n)
fold-swap n = sym (ap fold (omega arith) ∙ fold-turns (swap n) (n / 256) (λ z. omega arith))

-- exchanged twice it is as it was, and the field of an exchanged fold is the field exchanged
pub swap-swap : (f : ℕ) → f ≤ 65535 → swap (swap f) ≡ f
swap-swap f h = omega arith

pub swap-field : (f : ℕ) → f ≤ 65535 → swap (65535 - f) ≡ 65535 - swap f
swap-field f h = omega arith

-- alike modulo 65535, as an equation that omega reads; and back
pub mod-out : (a b : ℕ) → a % 65535 ≡ b % 65535 → a + 65535 * (b / 65535) ≡ b + 65535 * (a / 65535)
mod-out a b h = omega arith

pub mod-in : (a b i j : ℕ) → a + 65535 * i ≡ b + 65535 * j → a % 65535 ≡ b % 65535
mod-in a b i j h = sym (add-mul-mod_self_left a 65535 i) ∙ ap (λ n. n % 65535) h ∙ add-mul-mod_self_left b 65535 j

-- sums of what is alike are alike
pub mod_plus : (a b c d : ℕ) → a % 65535 ≡ b % 65535 → c % 65535 ≡ d % 65535 → (a + c) % 65535 ≡ (b + d) % 65535
mod_plus a b c d e f = omega arith
