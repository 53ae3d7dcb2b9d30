-- Each answer of the exchange's own rules, and the bytes that it leaves.
use Prim.Native.Nat.{ℕ, ◌+◌, ◌/◌, ◌%◌, ◌-◌, ◌≤◌}
use mathlib.Core.Path.{◌≡◌, sym, ap, ◌∙◌}
use mathlib.Core.Bool.{true}
use mathlib.Core.List.{List, ◌++◌}
use native.Mathlib.Omega.{arith}
use lib.ListN.{length}
use borrow.Author.Tests.{eq-eqb, ne_eqb}
use Rattle.verdicts.specs.Rules.{first}
use Rattle.verdicts.specs.declared.Verdict.TheVariants.{Good, Cut, Version, Place}
use Rattle.verdicts.proofs.Tests.{by_cases}
use Rattle.sums.specs.Fold.{swap}
use Rattle.sums.specs.Low.{eight_at}
use Rattle.wire.specs.Bytes.{word_at, part, put, put_word, Bytes}
use Rattle.wire.specs.Outer.{version_of}
use Rattle.wire.proofs.Parts.{part-byte, part-word, bytes-part}
use Rattle.wire.proofs.Writes.{put-append}
use Rattle.kept.specs.Edits.{edit_rules, side_at}
use Rattle.kept.specs.Prefix.{address_at, begins_with, prefix_rules, prefix_left, prefix_of}
use Rattle.kept.proofs.Prefix.{prefix-tells}
use Rattle.prefix.specs.Rest.{six_of, prefix_in}
use Rattle.prefix.proofs.Numbers.{six-in, word_in, six-bytes, bytes-six, fitting}

-- ---- 2 and 3 of the version test, and what follows it
module _ (p : List ℕ) (side : ℕ) (expected new : List ℕ) where
  pub none : length p ≡ 0 → (Cut, p) ≡ prefix_of p side expected new
  unfolding prefix_of
  none e = sym (simp (eq-eqb (length p) 0 e))

  module _ (n : ¬ (length p ≡ 0)) where
    pub other-version : ¬ (version_of p ≡ 6) → (Version, p) ≡ prefix_of p side expected new
    unfolding prefix_of
    other-version v = sym (simp (ne_eqb (length p) 0 n, ne_eqb (version_of p) 6 v))

    pub past-version : version_of p ≡ 6
        → first (edit_rules p ++ prefix_rules p side expected new) (λ v. (v, p)) (Good, prefix_left p (side_at p side) new) ≡ prefix_of p side expected new
    unfolding prefix_of
    past-version v = sym (simp (ne_eqb (length p) 0 n, eq-eqb (version_of p) 6 v))

-- ---- of the address at a: the sizes
module _ (p : List ℕ) (a : ℕ) (expected new : List ℕ) where
  pub other-expected : ¬ (length expected ≡ 6) → (Place, p) ≡ prefix_in p a expected new
  other-expected n = sym (simp (ne_eqb (length expected) 6 n))

  pub other-new : length expected ≡ 6 → ¬ (length new ≡ 6) → (Place, p) ≡ prefix_in p a expected new
  other-new e n = sym (simp (eq-eqb (length expected) 6 e, ne_eqb (length new) 6 n))

-- ---- and with prefixes of six bytes, where x is the number of the expected one, and w that of the address's first eight bytes
pub record Sized (p : List ℕ) (a : ℕ) (expected new : List ℕ) (w x : ℕ) : Type 0 where
  pub bytes : Bytes p
  pub these : Bytes expected
  pub fits : a + 16 ≤ length p
  pub old : length expected ≡ 6
  pub six : length new ≡ 6
  pub address : w ≡ eight_at (part p a (a + 8 - a)) 0
  pub number : x ≡ six_of expected

pub sized :
    {p : List ℕ} {a : ℕ} {expected new : List ℕ} {w x : ℕ} →
    Bytes p →
    Bytes expected →
    a + 16 ≤ length p →
    length expected ≡ 6 →
    length new ≡ 6 →
    w ≡ eight_at (part p a (a + 8 - a)) 0 →
    x ≡ six_of expected →
    Sized p a expected new w x
sized b e f o s d n = record { bytes = b; these = e; fits = f; old = o; six = s; address = d; number = n }

module _ {p : List ℕ} {a : ℕ} {expected new : List ℕ} {w x : ℕ} (k : Sized p a expected new w x) where
  word : w ≡ eight_at (part p a 8) 0
  word = let n : a + 8 - a ≡ 8 = omega arith in rw n at k.address

  eight : Bytes (part p a 8)
  eight = bytes-part p a 8 k.bytes

  six-is : w % 281474976710656 ≡ six_of (part p a 8)
  six-is = ap (λ n. n % 281474976710656) word ∙ six-in _ eight

  begins : w % 281474976710656 ≡ x → begins_with (address_at p a) expected ≡ true
  begins h =
      by_cases (begins_with (address_at p a) expected)
      (λ t. t)
      (λ t.
      absurd ((prefix-tells p a expected k.fits k.old).1 t
      (λ i l. let o = k.old in sym (part-byte p a 8 i (omega arith)) ∙ six-bytes _ _ eight k.these (sym six-is ∙ h ∙ k.number) i (omega arith))))

  pub other-prefix : ¬ (w % 281474976710656 ≡ x) → (Place, p) ≡ prefix_in p a expected new
  other-prefix h =
      by_cases (begins_with (address_at p a) expected)
      (λ t.
      absurd (h (six-is
      ∙ bytes-six _ _ (λ i l. let o = k.old in part-byte p a 8 i (omega arith) ∙ (prefix-tells p a expected k.fits k.old).0 t i (omega arith))
      ∙ sym k.number)))
      (λ t. sym (simp (eq-eqb (length expected) 6 k.old, eq-eqb (length new) 6 k.six, t)))

  module _ (h : w % 281474976710656 ≡ x) where
    pub full : w / 281474976710656 ≡ 65535 → (Place, p) ≡ prefix_in p a expected new
    full e =
        let z = eq-eqb _ _ (sym (part-word p a 8 6 (omega arith)) ∙ (word_in _ eight).0 (ap (λ n. n / 281474976710656) (sym word) ∙ e)) in
        sym (simp (eq-eqb (length expected) 6 k.old, eq-eqb (length new) 6 k.six, begins h, z))

    -- n is the new one's number, and v the word behind it
    pub exchanged : ¬ (w / 281474976710656 ≡ 65535) → (n v : ℕ) → n ≡ six_of new → v ≤ 65534 → (v + n) % 65535 ≡ w % 65535
        → (q r : List ℕ) → q ≡ put p a new → r ≡ put_word q (a + 6) (swap v) → (Good, r) ≡ prefix_in p a expected new
    exchanged m n v en l e q r eq er =
        let z = ne_eqb (word_at p (a + 6)) 65535 (λ t. m (ap (λ n. n / 281474976710656) word ∙ (word_in _ eight).1 (part-word p a 8 6 (omega arith) ∙ t))) in
        let c : (v + six_of new) % 65535 ≡ eight_at (part p a 8) 0 % 65535 = rw (en, word) at e in
        let both : put_word (put p a new) (a + 6) (swap v) ≡ prefix_left p a new = rw (fitting p a new k.fits k.six v l c, sym k.six) (put-append p a new _) in
        ap (λ (x : List ℕ). (Good, x)) (er ∙ ap (λ (x : List ℕ). put_word x (a + 6) (swap v)) eq ∙ both)
        ∙ sym (simp (eq-eqb (length expected) 6 k.old, eq-eqb (length new) 6 k.six, begins h, z))
