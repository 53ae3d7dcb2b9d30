-- What is read of a packet that has arrived.
use Rattle.std.proofs.Common.{◌≡◌, refl, sym, ap, ap₂, ◌∙◌, ℕ, zero, suc, ◌+◌, ◌*◌, ◌%◌, ◌≤◌, ◌<◌, arith, List, [], ◌∷◌, true, true≢false, length, drop, length-take, ext_get_or, eqb, eqb-true, eq-eqb}
use native.Mathlib.Decide.{dec_lt}
use lib.ListN.{get_or-eq_default}
use borrow.Author.Tests.{eqb-false}
use Rattle.verdicts.proofs.Tests.{by_cases, and-true}
use Rattle.sums.specs.Low.{two_at, four_at, eight_at}
use Rattle.wire.specs.Bytes.{byte_at, word_at, Bytes, part}
use Rattle.verdicts.specs.Rules.{IsClear}
use Rattle.wire.specs.Outer.{four, header_end, declared_end, outer_rules}
use Rattle.wire.proofs.Facts.{outer-facts}
use Rattle.wire.proofs.Parts.{part_length, part-byte}
use Rattle.fragments.specs.Fragments.{Piece, piece_of, equal, alike}

pub part_bytes : (b : List ℕ) (a n : ℕ) → Bytes b → Bytes (part b a n)
part_bytes b a n bytes i = elim (dec_lt i n) [
  | yes l ↦ omega (arith, part-byte b a n i l, bytes (a + i))
  | no l ↦ omega (arith, get_or-eq_default (part b a n) 0 {n = i} (omega (arith, length-take n (drop a b))))
]

-- where its header and its declared length end
pub record Ends (p : List ℕ) : Type 0 where
  pub header : header_end p ≡ byte_at p 0 % 16 * 4
  pub declared : declared_end p ≡ word_at p 2
  pub least : 20 ≤ header_end p
  pub order : header_end p ≤ declared_end p
  pub whole : declared_end p ≤ length p

module _ (p : List ℕ) (f : four p ≡ true) (w : IsClear (outer_rules p)) where
  pub ends : Ends p
  unfolding header_end declared_end
  ends = let k = outer-facts p w in record { header = simp f; declared = simp f; least = k.least; order = k.order; whole = k.whole }

  pub long : 20 ≤ length p
  long = let e = ends in omega arith

  pub addresses-long : length (piece_of p).addresses ≡ 8
  unfolding piece_of
  addresses-long = let l = long in part_length p 12 8 (omega arith)

-- ---- addresses compared as one number
pub equal-same : (xs : List ℕ) → equal xs xs ≡ true
unfolding equal
equal-same [] = refl
equal-same (x ∷ xs) = simp (eq-eqb x x refl, equal-same xs)

pub equal-true : (xs ys : List ℕ) → equal xs ys ≡ true → xs ≡ ys
unfolding equal
equal-true [] [] e = refl
equal-true [] (y ∷ ys) e = absurd (true≢false (sym e))
equal-true (x ∷ xs) [] e = absurd (true≢false (sym e))
equal-true (x ∷ xs) (y ∷ ys) e = let t = and-true (eqb x y) (equal xs ys) e in ap₂ (λ z zs. z ∷ zs) (eqb-true x y t.0) (equal-true xs ys t.1)

-- eight bytes are equal where their numbers are: each is the last digit of what is left
digit : (x y a b : ℕ) → x < 256 → y < 256 → x + 256 * a ≡ y + 256 * b → (x ≡ y) × (a ≡ b)
digit x y a b h k e = (omega arith, omega arith)

eights : (xs ys : List ℕ) → Bytes xs → Bytes ys → eight_at xs 0 ≡ eight_at ys 0 → (k : ℕ) → k < 8 → byte_at xs k ≡ byte_at ys k
unfolding eight_at four_at two_at
eights xs ys bx cy e = λ k l. at k l
  where
    d6 : List ℕ → ℕ
    d6 zs = byte_at zs 6 + 256 * byte_at zs 7

    d5 : List ℕ → ℕ
    d5 zs = byte_at zs 5 + 256 * d6 zs

    d4 : List ℕ → ℕ
    d4 zs = byte_at zs 4 + 256 * d5 zs

    d3 : List ℕ → ℕ
    d3 zs = byte_at zs 3 + 256 * d4 zs

    d2 : List ℕ → ℕ
    d2 zs = byte_at zs 2 + 256 * d3 zs

    d1 : List ℕ → ℕ
    d1 zs = byte_at zs 1 + 256 * d2 zs

    e0 : (byte_at xs 0 ≡ byte_at ys 0) × (d1 xs ≡ d1 ys)
    e0 = digit (byte_at xs 0) (byte_at ys 0) (d1 xs) (d1 ys) (bx 0) (cy 0) (omega (arith, e))

    e1 : (byte_at xs 1 ≡ byte_at ys 1) × (d2 xs ≡ d2 ys)
    e1 = digit (byte_at xs 1) (byte_at ys 1) (d2 xs) (d2 ys) (bx 1) (cy 1) e0.1

    e2 : (byte_at xs 2 ≡ byte_at ys 2) × (d3 xs ≡ d3 ys)
    e2 = digit (byte_at xs 2) (byte_at ys 2) (d3 xs) (d3 ys) (bx 2) (cy 2) e1.1

    e3 : (byte_at xs 3 ≡ byte_at ys 3) × (d4 xs ≡ d4 ys)
    e3 = digit (byte_at xs 3) (byte_at ys 3) (d4 xs) (d4 ys) (bx 3) (cy 3) e2.1

    e4 : (byte_at xs 4 ≡ byte_at ys 4) × (d5 xs ≡ d5 ys)
    e4 = digit (byte_at xs 4) (byte_at ys 4) (d5 xs) (d5 ys) (bx 4) (cy 4) e3.1

    e5 : (byte_at xs 5 ≡ byte_at ys 5) × (d6 xs ≡ d6 ys)
    e5 = digit (byte_at xs 5) (byte_at ys 5) (d6 xs) (d6 ys) (bx 5) (cy 5) e4.1

    e6 : (byte_at xs 6 ≡ byte_at ys 6) × (byte_at xs 7 ≡ byte_at ys 7)
    e6 = digit (byte_at xs 6) (byte_at ys 6) (byte_at xs 7) (byte_at ys 7) (bx 6) (cy 6) e5.1

    at : (k : ℕ) → k < 8 → byte_at xs k ≡ byte_at ys k
    at zero l = e0.0
    at (suc zero) l = e1.0
    at (suc (suc zero)) l = e2.0
    at (suc (suc (suc zero))) l = e3.0
    at (suc (suc (suc (suc zero)))) l = e4.0
    at (suc (suc (suc (suc (suc zero))))) l = e5.0
    at (suc (suc (suc (suc (suc (suc zero)))))) l = e6.0
    at (suc (suc (suc (suc (suc (suc (suc zero))))))) l = e6.1
    at (suc (suc (suc (suc (suc (suc (suc (suc k)))))))) l = absurd (omega arith)

pub addresses-equal : (xs ys : List ℕ) → Bytes xs → Bytes ys → length xs ≡ 8 → length ys ≡ 8 → eqb (eight_at xs 0) (eight_at ys 0) ≡ equal xs ys
addresses-equal xs ys bx cy lx ly =
    by_cases (eqb (eight_at xs 0) (eight_at ys 0))
    (λ t. let e : xs ≡ ys = ext_get_or 0 xs ys (lx ∙ sym ly) (λ i l. eights xs ys bx cy (eqb-true (eight_at xs 0) (eight_at ys 0) t) i (omega arith)) in t ∙ sym (ap (λ zs. equal zs ys) e ∙ equal-same ys))
    (λ f. f ∙ sym (by_cases (equal xs ys) (λ t. absurd (eqb-false (eight_at xs 0) (eight_at ys 0) f (ap (λ zs. eight_at zs 0) (equal-true xs ys t)))) (λ g. g)))

-- ---- what fragments share
pub alike_self : (p : Piece) → alike p p ≡ true
unfolding alike
alike_self p = simp (eq-eqb p.identification p.identification refl, eq-eqb p.protocol p.protocol refl, equal-same p.addresses)

pub addresses-alike : (p q : List ℕ) → Bytes p → Bytes q → length (piece_of p).addresses ≡ 8 → length (piece_of q).addresses ≡ 8
    → eqb (eight_at (piece_of p).addresses 0) (eight_at (piece_of q).addresses 0) ≡ equal (piece_of p).addresses (piece_of q).addresses
unfolding piece_of
addresses-alike p q x y k l = addresses-equal _ _ (part_bytes p 12 8 x) (part_bytes q 12 8 y) k l
