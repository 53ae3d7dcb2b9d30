-- The message put together, in RFC 791's words: it is the one string in which each fragment's bytes stand at 8 times its offset, and which ends with the
-- fragment that none follows.
use Rattle.std.proofs.Common.{◌≡◌, refl, sym, ap, ap₂, ◌∙◌, ◌↔◌, ℕ, ◌+◌, ◌-◌, ◌≤◌, arith, List, [], ◌∷◌, ◌++◌, map, append-nil, true, false, not, true≢false, length, take, drop, length-append, length-drop, take-append-drop, take_all, drop-drop, eqb}
use mathlib.Core.List.Memᴰ
use mathlib.Core.List.{Memᴰ}
use lib.Seq.{take-append_seam, drop-append-add}
use borrow.Author.Tests.{not-true, not-false}
use Rattle.verdicts.specs.Rules.{IsClear}
use Rattle.verdicts.proofs.Tests.{and-true}
use Rattle.wire.specs.Bytes.{part}
use Rattle.fragments.specs.Fragments.{Piece, packet_of, packets_of, list_rules, piece_of, together, some_past, fills, filling_rules, pieces_in}
use Rattle.fragments.specs.Wholes.{Filling, Stands, Reassembled}
use Rattle.fragments.specs.declared.Fragment.{Fragment}
use Rattle.fragments.proofs.Along.{fills-begin, fills-behind, fills-none}
use Rattle.fragments.proofs.Sorting.{Each, sorted-each, sorted-has}
use Rattle.fragments.proofs.Wholes.{piece-has}

-- the one piece of a filling that none follows is the last
fills-last : (at : ℕ) (p : Piece) → fills at (p ∷ []) ≡ true → p.more ≡ false
unfolding fills
fills-last at p f = not-true p.more (and-true (eqb p.begin at) (not p.more) f).1

-- ---- what stands so is the message put together
assembled : (at : ℕ) (ps : List Piece) (m : List ℕ) → fills at ps ≡ true → Each (Stands m) ps → drop at m ≡ together ps
unfolding together
assembled at [] m f k = absurd (fills-none at f)
assembled at (p ∷ []) m f k =
    let b = fills-begin at p [] f in
    let s = k.0.bytes in
    sym (take_all (length p.bytes) (drop at m) (omega (arith, length-drop at m, k.0.last (fills-last at p f))))
    ∙ ap (λ i. take (length p.bytes) (drop i m)) (sym b) ∙ s ∙ sym (append-nil p.bytes)
assembled at (p ∷ q ∷ ps) m f k =
    let n = length p.bytes in
    sym (take-append-drop n (drop at m))
    ∙ ap₂ (λ xs ys. xs ++ ys)
    (ap (λ i. take n (drop i m)) (sym (fills-begin at p (q ∷ ps) f)) ∙ k.0.bytes)
    (drop-drop n at m ∙ assembled (at + n) (q ∷ ps) m (fills-behind at p q ps f).fills k.1)

-- ---- and in that each piece stands so
module _ (xs ys : List ℕ) where
  part-first : part (xs ++ ys) 0 (length xs) ≡ xs
  part-first = take-append_seam xs ys

  part-behind : (a b n : ℕ) → a ≡ length xs + b → part (xs ++ ys) a n ≡ part ys b n
  part-behind a b n e = rw (e, drop-append-add xs ys b)

-- a piece of those that fill from a place on
pub record StandsFrom (at : ℕ) (m : List ℕ) (x : Piece) : Type 0 where
  pub order : at ≤ x.begin
  pub bytes : part m (x.begin - at) (length x.bytes) ≡ x.bytes
  pub last : x.more ≡ false → at + length m ≡ x.begin + length x.bytes

stands-first : (at : ℕ) (p : Piece) (ps : List Piece) → fills at (p ∷ ps) ≡ true → StandsFrom at (together (p ∷ ps)) p
unfolding together
stands-first at p ps f =
    let b = fills-begin at p ps f in
    let z : p.begin - at ≡ 0 = omega arith in
    record {
      order = omega arith;
      bytes = rw z (part-first p.bytes (together ps));
      last = λ l. ends ps f l;
    }
  where
    ends : (ps : List Piece) → fills at (p ∷ ps) ≡ true → p.more ≡ false → at + length (p.bytes ++ together ps) ≡ p.begin + length p.bytes
    ends [] f l = rw (append-nil p.bytes) (omega (arith, fills-begin at p [] f))
    ends (q ∷ ps) f l = absurd (true≢false (sym (fills-behind at p q ps f).more ∙ l))

stands-behind : (at : ℕ) (p x : Piece) (m : List ℕ) → StandsFrom (at + length p.bytes) m x → StandsFrom at (p.bytes ++ m) x
stands-behind at p x m s =
    let o = s.order in
    record {
      order = omega arith;
      bytes = part-behind p.bytes m (x.begin - at) (x.begin - (at + length p.bytes)) (length x.bytes) (omega arith) ∙ s.bytes;
      last = λ l. omega (arith, length-append p.bytes m, s.last l);
    }

stands_from : (at : ℕ) (ps : List Piece) {x : Piece} → Memᴰ x ps → fills at ps ≡ true → StandsFrom at (together ps) x
unfolding together
stands_from at [] m f = absurd (fills-none at f)
stands_from at (p ∷ []) (Memᴰ.head e) f = rw e (stands-first at p [] f)
stands_from at (p ∷ []) (Memᴰ.tail m) f = absurd (Memᴰ.not-nil m)
stands_from at (p ∷ q ∷ ps) (Memᴰ.head e) f = rw e (stands-first at p (q ∷ ps) f)
stands_from at (p ∷ q ∷ ps) {x} (Memᴰ.tail m) f = stands-behind at p x (together (q ∷ ps)) (stands_from (at + length p.bytes) (q ∷ ps) m (fills-behind at p q ps f).fills)

-- ---- a list that passes the tests up to 6
some-fill : (ps : List Piece) {x : Piece} → Memᴰ x ps → IsClear (filling_rules ps) → (some_past ps ≡ false) × (fills 0 ps ≡ true)
unfolding filling_rules
some-fill [] m c = absurd (Memᴰ.not-nil m)
some-fill (p ∷ ps) m c = (c.1.1.0, not-false (fills 0 (p ∷ ps)) c.1.1.1.0)

pub list-fills : (buffer : List ℕ) (fs : List Fragment) → Filling buffer fs → (some_past (pieces_in buffer fs) ≡ false) × (fills 0 (pieces_in buffer fs) ≡ true)
unfolding list_rules
list-fills buffer [] l = absurd (true≢false l.list.0)
list-fills buffer (f ∷ fs) l = some-fill (pieces_in buffer (f ∷ fs)) (sorted-has (piece-has buffer {f = f} {fs = f ∷ fs} (Memᴰ.head refl)) []) l.pieces

pub each-piece : (P : Piece → Type 0) (buffer : List ℕ) (fs : List Fragment) → ((f : Fragment) → Memᴰ f fs → P (piece_of (packet_of buffer f))) → Each P (map piece_of (packets_of buffer fs))
each-piece P buffer [] h = tt
each-piece P buffer (f ∷ fs) h = (h f (Memᴰ.head refl), each-piece P buffer fs (λ g m. h g (Memᴰ.tail m)))

-- the message put together is the one string in which each of its pieces stands so
pub put-together : (buffer : List ℕ) (fs : List Fragment) (m : List ℕ) → Filling buffer fs → Reassembled buffer fs m ↔ (m ≡ together (pieces_in buffer fs))
put-together buffer fs m l = (
  λ r. assembled 0 (pieces_in buffer fs) m (list-fills buffer fs l).1 (sorted-each (Stands m) [] (map piece_of (packets_of buffer fs)) tt (each-piece (Stands m) buffer fs r)),
  λ e f k.
      let s = stands_from 0 (pieces_in buffer fs) (sorted-has (piece-has buffer k) []) (list-fills buffer fs l).1 in
      let z : (piece_of (packet_of buffer f)).begin - 0 ≡ (piece_of (packet_of buffer f)).begin = omega arith in
      rw e (record { bytes = rw z at s.bytes; last = λ h. omega (arith, s.last h) }),
)
