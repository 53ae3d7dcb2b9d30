-- A prefix and the word behind it as one number, low byte first: what it tells of the bytes, and of their class.
use Prim.Native.Nat.{ℕ, zero, suc, ◌+◌, ◌*◌, ◌/◌, ◌%◌, ◌≤◌, ◌<◌}
use mathlib.Core.Path.{◌≡◌, refl, sym, ap, ◌∙◌}
use mathlib.Core.Logic.{◌↔◌}
use mathlib.Core.Bool.{true, false}
use mathlib.Core.List.{List}
use native.Mathlib.Omega.{arith}
use native.Mathlib.Nat.{zero-add}
use lib.ListN.{length}
use Rattle.sums.specs.Total.{weigh, total}
use Rattle.sums.specs.Fold.{fold, swap}
use Rattle.sums.specs.Low.{two_at, four_at, eight_at}
use Rattle.sums.proofs.Folds.{fold-turns, mod-out, mod-in}
use Rattle.sums.proofs.Rests.{more-two, more-four, more-eight, more-end}
use Rattle.wire.specs.Bytes.{byte_at, word_at, part, Bytes}
use Rattle.wire.proofs.Parts.{part_length}
use Rattle.kept.specs.Prefix.{word_of}
use Rattle.kept.proofs.Prefix.{keeps-tells, word-only}
use Rattle.steps.proofs.Changes.{low-change, changes}
use Rattle.prefix.specs.Rest.{six_of}

abbrev Small : List ℕ → Type 0
Small xs = (byte_at xs 0 < 256) × (byte_at xs 1 < 256) × (byte_at xs 2 < 256) × (byte_at xs 3 < 256) × (byte_at xs 4 < 256) × (byte_at xs 5 < 256)

small : (xs : List ℕ) → Bytes xs → Small xs
small xs b = (b 0, b 1, b 2, b 3, b 4, b 5)

-- ---- the number of eight bytes is that of six, and the word's
module _ (xs : List ℕ) (b : Bytes xs) where
  pub six-in : eight_at xs 0 % 281474976710656 ≡ six_of xs
  unfolding eight_at four_at two_at six_of
  six-in = let s = small xs b in omega arith

  pub word_in : (eight_at xs 0 / 281474976710656 ≡ 65535) ↔ (word_at xs 6 ≡ 65535)
  unfolding eight_at four_at two_at
  word_in = let s = small xs b in let t = b 6 in let u = b 7 in (λ h. omega arith, λ h. omega arith)

-- ---- equal numbers, equal bytes
module _ (xs ys : List ℕ) where
  abbrev Same : ℕ → Type 0
  Same i = byte_at xs i ≡ byte_at ys i

  each_same : Same 0 × Same 1 × Same 2 × Same 3 × Same 4 × Same 5 → (i : ℕ) → i < 6 → Same i
  each_same z zero h = z.0
  each_same z (suc zero) h = z.1
  each_same z (suc (suc zero)) h = z.2
  each_same z (suc (suc (suc zero))) h = z.3
  each_same z (suc (suc (suc (suc zero)))) h = z.4
  each_same z (suc (suc (suc (suc (suc zero))))) h = z.5
  each_same z (suc (suc (suc (suc (suc (suc i)))))) h = absurd (omega arith)

  pub six-bytes : Bytes xs → Bytes ys → six_of xs ≡ six_of ys → (i : ℕ) → i < 6 → Same i
  unfolding four_at two_at six_of
  six-bytes b c e =
      let s = small xs b in
      let t = small ys c in
      each_same (omega arith, omega arith, omega arith, omega arith, omega arith, omega arith)

  pub bytes-six : ((i : ℕ) → i < 6 → Same i) → six_of xs ≡ six_of ys
  unfolding four_at two_at six_of
  bytes-six r = omega (arith, r 0 (omega arith), r 1 (omega arith), r 2 (omega arith), r 3 (omega arith), r 4 (omega arith), r 5 (omega arith))

-- ---- the class
six-fold : (xs : List ℕ) → length xs ≡ 6 → fold (six_of xs) ≡ fold (0 + weigh true xs)
unfolding six_of
six-fold xs n =
    let t = four_at xs 0 + two_at xs 4 in
    let e : four_at xs 0 + 4294967296 * two_at xs 4 ≡ t + 65535 * (65537 * two_at xs 4) = omega arith in
    ap fold e ∙ fold-turns t (65537 * two_at xs 4) (λ z. omega arith)
    ∙ more-end xs t 6 (omega arith) ∙ more-two xs (four_at xs 0) t (two_at xs 4) 4 6 (omega arith) refl refl refl
    ∙ more-four xs 0 (four_at xs 0) (four_at xs 0) 0 4 (omega arith) refl refl (ap fold (sym (zero-add (four_at xs 0))))

eight-fold : (xs : List ℕ) → length xs ≡ 8 → fold (eight_at xs 0) ≡ fold (0 + weigh true xs)
eight-fold xs n =
    let t = eight_at xs 0 in
    more-end xs t 8 (omega arith) ∙ more-eight xs 0 t t 0 8 (omega arith) refl refl (ap fold (sym (zero-add t)))

-- the word that the code writes is the one that keeps the class
pub fitting : (p : List ℕ) (a : ℕ) (new : List ℕ) → a + 16 ≤ length p → length new ≡ 6
    → (w : ℕ) → w ≤ 65534 → (w + six_of new) % 65535 ≡ eight_at (part p a 8) 0 % 65535 → swap w ≡ word_of p a new
fitting p a new fits six w l e =
    let old = part p a 8 in
    let k = changes new old w (low-change new old (six_of new) (eight_at old 0) w (six-fold new six) (eight-fold old (part_length p a 8 (omega arith))) e) false in
    let o = mod-out (w + 256 * total new) (256 * total old) k in
    let c = mod-in (total new + swap w) (total old) (w / 256 + total new + 256 * ((256 * total old) / 65535)) (total old + 256 * ((w + 256 * total new) / 65535)) (omega arith) in
    word-only p a new fits six (swap w) (omega arith) ((keeps-tells p a new fits six (swap w)).1 c)
