-- RFC 6296's arithmetic gives the word that keeps the class, on the way out and on the way in.
use mathlib.Core.Path.{◌≡◌, refl, sym, ◌∙◌}
use Prim.Native.Nat.{ℕ, ◌+◌, ◌-◌, ◌/◌, ◌%◌, ◌≤◌}
use native.Mathlib.Omega.{arith}
use mathlib.Core.List.{List}
use lib.ListN.{length}
use lib.Dec.{eqb}
use borrow.Author.Tests.{eqb-true, eqb-false}
use Rattle.verdicts.proofs.Tests.{by_cases}
use Rattle.sums.specs.Total.{total}
use Rattle.sums.specs.Fold.{fold}
use Rattle.sums.proofs.Folds.{fold-mod, fold_small, mod-out, mod-in, mod_plus}
use Rattle.wire.specs.Bytes.{word_at, part}
use Rattle.kept.specs.Prefix.{word_of}
use Rattle.kept.specs.Rfc.{plus, minus, adjustment, unless_ones, outward, inward}
use Rattle.kept.proofs.Prefix.{keeps-tells, word-only, eight-total}

ones-mod : (w : ℕ) → w ≤ 65535 → unless_ones w ≡ w % 65535
ones-mod w h =
    by_cases (eqb w 65535)
    (λ t. let e = eqb-true w 65535 t in simp t (omega arith))
    (λ t. let n : ¬ (w ≡ 65535) = eqb-false w 65535 t in simp t (omega arith))

-- what is taken away and added again
minus_plus : (a b : ℕ) → b ≤ 65535 → (minus a b + b) % 65535 ≡ a % 65535
minus_plus a b h = let e = fold-mod (a + (65535 - b)) in omega arith

adjusts : (x y : List ℕ) → (adjustment x y + total y) % 65535 ≡ total x % 65535
adjusts x y =
    let d = adjustment x y in
    mod_plus d d (total y) (fold (total y)) refl (sym (fold-mod (total y))) ∙ minus_plus (fold (total x)) (fold (total y)) (fold_small (total y)) ∙ fold-mod (total x)

-- d is what y has more than x, or less, and s is w with that added, or taken away
added : (x y w d s : ℕ) → (d + x) % 65535 ≡ y % 65535 → s % 65535 ≡ (w + d) % 65535 → (x + s % 65535) % 65535 ≡ (y + w) % 65535
added x y w d s e f = omega arith

taken : (x y w d s : ℕ) → (d + y) % 65535 ≡ x % 65535 → (s + d) % 65535 ≡ w % 65535 → (x + s % 65535) % 65535 ≡ (y + w) % 65535
taken x y w d s e f =
    let g = mod-out (d + y) x e in
    let h = mod-out (s + d) w f in
    mod-in (x + s % 65535) (y + w) (s / 65535 + (d + y) / 65535 + w / 65535) (x / 65535 + (s + d) / 65535) (omega arith)

module _ (p : List ℕ) (a : ℕ) (new : List ℕ) (fits : a + 16 ≤ length p) (six : length new ≡ 6) where
  abbrev old : List ℕ
  old = part p a 6

  as-class : (s : ℕ) → s ≤ 65535 → (total new + s % 65535) % 65535 ≡ (total old + word_at p (a + 6)) % 65535 → word_of p a new ≡ unless_ones s
  as-class s h e =
      sym (ones-mod s h ∙ word-only p a new fits six (s % 65535) (omega arith) ((keeps-tells p a new fits six (s % 65535)).1 (e ∙ sym (rw (eight-total p a fits)))))

  abbrev word : ℕ
  word = word_at p (a + 6)

  pub rfc-outward : word_of p a new ≡ outward old new word
  rfc-outward =
      let d = adjustment old new in
      as-class (plus word d) (fold_small (word + d)) (added (total new) (total old) word d (plus word d) (adjusts old new) (fold-mod (word + d)))

  pub rfc-inward : word_of p a new ≡ inward new old word
  rfc-inward =
      let d = adjustment new old in
      as-class (minus word d) (fold_small (word + (65535 - d))) (taken (total new) (total old) word d (minus word d) (adjusts new old) (minus_plus word d (fold_small _)))
