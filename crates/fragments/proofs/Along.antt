-- Pieces one after another: what each adds to their shape, their filling, their bytes and their sum.
use Rattle.std.proofs.Common.{◌≡◌, refl, sym, ap, ◌∙◌, ℕ, ◌+◌, ◌-◌, ◌%◌, ◌≤◌, ◌<◌, add-zero, add-one, arith, List, [], ◌∷◌, ◌++◌, append-nil, true, false, true≢false, length, take, drop, get_or, length-append, drop_of_length-le, drop-cons, take_all, get_or-append-add, eqb, None, Some, eqb-true, eq-eqb, ne_eqb, lt-ltb, le-ltb}
use native.Mathlib.Decide.{dec_lt}
use lib.ListN.{get_or-append}
use lib.Seq.{take-append-le, take-append-add, take-nil}
use Rattle.verdicts.proofs.Tests.{and-true}
use Rattle.sums.specs.Total.{odd, weigh}
use Rattle.sums.proofs.Totals.{weigh-even}
use Rattle.wire.specs.Bytes.{byte_at}
use Rattle.fragments.specs.Fragments.{Piece, alike, fills, together}
use Rattle.fragments.specs.Gathered.{piece_at, pieces_at, shaped_of, filled_of}

-- ---- those from a place of the list on
abbrev pub left : List ℕ → List ℕ → ℕ → List Piece
left b places k = pieces_at b (drop k places)

pub left-cons : (b places : List ℕ) (k : ℕ) → k < length places → left b places k ≡ piece_at b (get_or places k 0) ∷ left b places (k + 1)
left-cons b places k l = ap (pieces_at b) (drop-cons places k 0 l ∙ ap (λ i. get_or places k 0 ∷ drop i places) (sym (add-one k)))

pub left-none : (b places : List ℕ) (k : ℕ) → length places ≤ k → left b places k ≡ []
left-none b places k l = ap (pieces_at b) (drop_of_length-le places {i = k} l)

-- ---- their shape
module _ (f p : Piece) (ps : List Piece) where
  pub unlike : alike f p ≡ false → shaped_of f (p ∷ ps) ≡ false
  unfolding shaped_of
  unlike a = rw a

  module _ (a : alike f p ≡ true) where
    pub vacant : length p.bytes ≡ 0 → shaped_of f (p ∷ ps) ≡ false
    unfolding shaped_of
    vacant e = simp (a, eq-eqb (length p.bytes) 0 e)

    module _ (n : length p.bytes ≡ 0 → ⊥) where
      pub overlong : 65515 < p.begin + length p.bytes → shaped_of f (p ∷ ps) ≡ false
      unfolding shaped_of
      overlong l = simp (a, ne_eqb (length p.bytes) 0 n, lt-ltb 65515 (p.begin + length p.bytes) l)

      pub shaped-next : p.begin + length p.bytes ≤ 65515 → shaped_of f (p ∷ ps) ≡ shaped_of f ps
      unfolding shaped_of
      shaped-next l = simp (a, ne_eqb (length p.bytes) 0 n, le-ltb 65515 (p.begin + length p.bytes) l)

pub shaped-none : (f : Piece) → shaped_of f [] ≡ true
unfolding shaped_of
shaped-none f = refl

-- ---- their filling
module _ (at : ℕ) (p : Piece) where
  pub gap : (ps : List Piece) → (p.begin ≡ at → ⊥) → fills at (p ∷ ps) ≡ false
  unfolding fills
  gap [] n = simp (ne_eqb p.begin at n)
  gap (q ∷ ps) n = simp (ne_eqb p.begin at n)

  module _ (e : p.begin ≡ at) where
    pub closed : p.more ≡ false → fills at (p ∷ []) ≡ true
    unfolding fills
    closed m = simp (eq-eqb p.begin at e, m)

    pub unclosed : p.more ≡ true → fills at (p ∷ []) ≡ false
    unfolding fills
    unclosed m = simp (eq-eqb p.begin at e, m)

    pub ended : (ps : List Piece) → 0 < length ps → p.more ≡ false → fills at (p ∷ ps) ≡ false
    unfolding fills
    ended [] l m = absurd (omega arith)
    ended (q ∷ ps) l m = simp (eq-eqb p.begin at e, m)

    pub ragged : (ps : List Piece) → 0 < length ps → p.more ≡ true → (length p.bytes % 8 ≡ 0 → ⊥) → fills at (p ∷ ps) ≡ false
    unfolding fills
    ragged [] l m n = absurd (omega arith)
    ragged (q ∷ ps) l m n = simp (eq-eqb p.begin at e, m, ne_eqb (length p.bytes % 8) 0 n)

    pub fills-next : (ps : List Piece) → 0 < length ps → p.more ≡ true → length p.bytes % 8 ≡ 0 → fills at (p ∷ ps) ≡ fills (at + length p.bytes) ps
    unfolding fills
    fills-next [] l m z = absurd (omega arith)
    fills-next (q ∷ ps) l m z = simp (eq-eqb p.begin at e, m, eq-eqb (length p.bytes % 8) 0 z)

-- what a filling says of its first piece, and of those behind it
pub fills-begin : (at : ℕ) (p : Piece) (ps : List Piece) → fills at (p ∷ ps) ≡ true → p.begin ≡ at
unfolding fills
fills-begin at p [] f = eqb-true p.begin at (and-true (eqb p.begin at) _ f).0
fills-begin at p (q ∷ ps) f = eqb-true p.begin at (and-true (eqb p.begin at) _ f).0

pub record Behind (at : ℕ) (p : Piece) (ps : List Piece) : Type 0 where
  pub more : p.more ≡ true
  pub eights : length p.bytes % 8 ≡ 0
  pub fills : fills (at + length p.bytes) ps ≡ true

pub fills-behind : (at : ℕ) (p q : Piece) (ps : List Piece) → fills at (p ∷ q ∷ ps) ≡ true → Behind at p (q ∷ ps)
unfolding fills
fills-behind at p q ps f =
    let m = and-true p.more _ (and-true (eqb p.begin at) _ f).1 in
    let e = and-true (eqb (length p.bytes % 8) 0) _ m.1 in
    record { more = m.0; eights = eqb-true (length p.bytes % 8) 0 e.0; fills = e.1 }

pub fills-none : (at : ℕ) → fills at [] ≡ true → ⊥
unfolding fills
fills-none at f = true≢false (sym f)

pub unfilled : (ps : List Piece) → fills 0 ps ≡ false → None ≡ filled_of ps
unfolding filled_of
unfilled ps f = simp f

pub full : (ps : List Piece) → fills 0 ps ≡ true → Some (length (together ps)) ≡ filled_of ps
unfolding filled_of
full ps f = simp f

-- ---- their bytes
pub together-cons : (p : Piece) (ps : List Piece) → together (p ∷ ps) ≡ p.bytes ++ together ps
unfolding together
together-cons p ps = refl

pub together-one : (p : Piece) → together (p ∷ []) ≡ p.bytes
unfolding together
together-one p = append-nil p.bytes

pub together-long : (p : Piece) (ps : List Piece) → length (together (p ∷ ps)) ≡ length p.bytes + length (together ps)
together-long p ps = ap length (together-cons p ps) ∙ length-append p.bytes (together ps)

pub byte_inside : (xs ys : List ℕ) (i : ℕ) → i < length xs → byte_at (xs ++ ys) i ≡ byte_at xs i
byte_inside xs ys i l = get_or-append xs ys 0 i l

pub byte-behind : (xs ys : List ℕ) (i : ℕ) → length xs ≤ i → byte_at (xs ++ ys) i ≡ byte_at ys (i - length xs)
byte-behind xs ys i l = ap (byte_at (xs ++ ys)) (back (length xs) i l) ∙ get_or-append-add xs ys (i - length xs) 0
  where
    back : (a i : ℕ) → a ≤ i → i ≡ a + (i - a)
    back a i l = omega arith

-- ---- their sum
-- all but the last have an even number of bytes
abbrev pub Evens : List Piece → Type 0
Evens [] = Unit
Evens (p ∷ []) = Unit
Evens (p ∷ q ∷ ps) = (length p.bytes % 2 ≡ 0) × Evens (q ∷ ps)

pub fills-evens : (at : ℕ) (ps : List Piece) → fills at ps ≡ true → Evens ps
fills-evens at [] e = tt
fills-evens at (p ∷ []) e = tt
fills-evens at (p ∷ q ∷ ps) e = let b = fills-behind at p q ps e in let z = b.eights in (omega arith, fills-evens (at + length p.bytes) (q ∷ ps) b.fills)

pub evens-next : (p : Piece) (ps : List Piece) → Evens (p ∷ ps) → Evens ps
evens-next p [] e = tt
evens-next p (q ∷ ps) e = e.1

-- so the sum of the first n bytes is that of so many of the first's and that of the rest's
pub cut-weigh : (p : Piece) (ps : List Piece) (n : ℕ) → Evens (p ∷ ps)
    → weigh true (take n (together (p ∷ ps))) ≡ weigh true (take n p.bytes) + weigh true (take (n - length p.bytes) (together ps))
unfolding together weigh odd
cut-weigh p ps n e = elim (dec_lt n (length p.bytes)) [
  | yes l ↦ ap (weigh true) (take-append-le n p.bytes (together ps) (omega arith)) ∙ sym (none (n - length p.bytes) (omega arith))
  | no l ↦
      ap (λ k. weigh true (take k (p.bytes ++ together ps))) (back (length p.bytes) n (omega arith))
      ∙ ap (weigh true) (take-append-add p.bytes (together ps) (n - length p.bytes))
      ∙ join ps e
      ∙ ap (λ xs. weigh true xs + weigh true (take (n - length p.bytes) (together ps))) (sym (take_all n p.bytes (omega arith)))
]
  where
    none : (k : ℕ) → k ≡ 0 → weigh true (take n p.bytes) + weigh true (take k (together ps)) ≡ weigh true (take n p.bytes)
    none k z = ap (λ i. weigh true (take n p.bytes) + weigh true (take i (together ps))) z ∙ add-zero (weigh true (take n p.bytes))

    back : (a i : ℕ) → a ≤ i → i ≡ a + (i - a)
    back a i l = omega arith

    even : (k : ℕ) → k % 2 ≡ 0 → odd k ≡ false
    even k z = ne_eqb (k % 2) 1 (λ e. absurd (omega arith))

    join : (ps : List Piece) → Evens (p ∷ ps) → weigh true (p.bytes ++ take (n - length p.bytes) (together ps)) ≡ weigh true p.bytes + weigh true (take (n - length p.bytes) (together ps))
    join [] e = ap (weigh true) (ap (λ xs. p.bytes ++ xs) (take-nil (n - length p.bytes)) ∙ append-nil p.bytes) ∙ sym (ap (λ xs. weigh true p.bytes + weigh true xs) (take-nil (n - length p.bytes)) ∙ add-zero (weigh true p.bytes))
    join (q ∷ ps) e = weigh-even true p.bytes (take (n - length p.bytes) (together (q ∷ ps))) (even (length p.bytes) e.0)
