-- What the functions that write a packet leave, step by step.
use Rattle.std.proofs.Common.{get_or, ◌≡◌, refl, ap, ◌∙◌, ℕ, ◌+◌, ◌-◌, ◌/◌, ◌%◌, ◌≤◌, arith, true, List, [], ◌∷◌, ◌++◌, append-nil, length, drop, length-append}
use Rattle.std.proofs.Math.Seq.{sets-eq, drop-length}
use Rattle.std.specs.Int.{to_be_bytes, w16}
use Rattle.sums.specs.Fold.{fold, field_of}
use Rattle.wire.specs.Bytes.{put, put_word}
use Rattle.wire.specs.Inner.{Holds}
use Rattle.wire.specs.declared.Family.{Family}
use Rattle.wire.specs.declared.Family.TheVariants.{Four, Six}
use Rattle.wire.specs.declared.Message.{Message}
use Rattle.wire.proofs.Writes.{put-append}
use Rattle.cover.specs.Sums.{message_total}
use Rattle.mend.specs.Fresh.{sent, fresh_header}
use Rattle.mend.specs.Mend.{mended_header}
use Rattle.build.specs.Layout.{word, header_in, Asked, header_size, datagram_size, header_for, datagram_for, laid, packet_in}
use Rattle.build.specs.Places.{Fits, places_in, header_left}
use Rattle.build.proofs.Laid.{read, holds}
use Rattle.build.proofs.Summed.{header-long, mended-header-is, filled}

-- bytes put behind those that were put
behind : (p : List ℕ) (at n : ℕ) (xs ys : List ℕ) {q r : List ℕ} → q ≡ put p at xs → r ≡ put q n ys → n ≡ at + length xs → r ≡ put p at (xs ++ ys)
behind p at n xs ys e f k = f ∙ rw (e, k) (put-append p at xs ys)

-- a 16-bit number's bytes
pub word_bytes : (n : ℕ) → n ≤ 65535 → to_be_bytes w16 n ≡ word n
word_bytes n h = let e : n / 256 % 256 ≡ n / 256 = omega arith in rw e

-- ---- the headers: the bytes before the addresses, and the addresses
module _ (p : List ℕ) (a : Asked) (size : List ℕ) where
  pub laid4 : {q r t u : List ℕ} → Fits Four a → 20 ≤ length p → size ≡ word (length p)
      → q ≡ put p 0 (0x45 ∷ 0 ∷ get_or size 0 0 ∷ get_or size 1 0 ∷ 0 ∷ 0 ∷ 0 ∷ 0 ∷ []) → r ≡ put q 8 (a.lifetime ∷ 17 ∷ 0 ∷ 0 ∷ [])
      → t ≡ put r 12 a.source → u ≡ put t 16 a.destination → u ≡ header_left Four p a
  laid4 fits l z e f g i =
      let s = fits.source in
      let front : List ℕ = 0x45 ∷ 0 ∷ length p / 256 ∷ length p % 256 ∷ 0 ∷ 0 ∷ 0 ∷ 0 ∷ [] in
      let e = e ∙ ap (λ b. put p 0 (0x45 ∷ 0 ∷ get_or b 0 0 ∷ get_or b 1 0 ∷ 0 ∷ 0 ∷ 0 ∷ 0 ∷ [])) z in
      let rest : List ℕ = a.lifetime ∷ 17 ∷ 0 ∷ 0 ∷ [] in
      let n : length p ≡ 20 + (length p - 20) = omega arith in
      behind p 0 16 (front ++ rest ++ a.source) a.destination
      (behind p 0 12 (front ++ rest) a.source (behind p 0 8 front rest e f refl) g refl) i (omega (arith, length-append (front ++ rest) a.source))
      ∙ ap (λ n. put p 0 (0x45 ∷ 0 ∷ n / 256 ∷ n % 256 ∷ 0 ∷ 0 ∷ 0 ∷ 0 ∷ a.lifetime ∷ 17 ∷ 0 ∷ 0 ∷ (a.source ++ a.destination))) n

  pub laid6 : {q r t : List ℕ} → Fits Six a → size ≡ word (length p - 40)
      → q ≡ put p 0 (0x60 ∷ 0 ∷ 0 ∷ 0 ∷ get_or size 0 0 ∷ get_or size 1 0 ∷ 17 ∷ a.lifetime ∷ [])
      → r ≡ put q 8 a.source → t ≡ put r 24 a.destination → t ≡ header_left Six p a
  laid6 fits z e f g =
      let s = fits.source in
      let front : List ℕ = 0x60 ∷ 0 ∷ 0 ∷ 0 ∷ (length p - 40) / 256 ∷ (length p - 40) % 256 ∷ 17 ∷ a.lifetime ∷ [] in
      let e = e ∙ ap (λ b. put p 0 (0x60 ∷ 0 ∷ 0 ∷ 0 ∷ get_or b 0 0 ∷ get_or b 1 0 ∷ 17 ∷ a.lifetime ∷ [])) z in
      behind p 0 24 (front ++ a.source) a.destination (behind p 0 8 front a.source e f refl) g (omega (arith, length-append front a.source))

-- ---- the datagram
-- its header written word by word, and the body behind it
pub laid8 : (p : List ℕ) (at : ℕ) (a : Asked) {q r s t u : List ℕ}
    → q ≡ put p at (word a.source_port) → r ≡ put q (at + 2) (word a.destination_port) → s ≡ put r (at + 4) (word (datagram_size a))
    → t ≡ put s (at + 6) (word 0) → u ≡ put t (at + 8) a.body → u ≡ put p at (datagram_for a 0)
laid8 p at a d e f g h =
    let ports : List ℕ = word a.source_port ++ word a.destination_port in
    let sizes : List ℕ = ports ++ word (datagram_size a) in
    behind p at (at + 8) (sizes ++ word 0) a.body
    (behind p at (at + 6) sizes (word 0) (behind p at (at + 4) ports (word (datagram_size a)) (behind p at (at + 2) (word a.source_port) (word a.destination_port) d e refl) f refl) g refl)
    h refl

-- ---- both
-- bytes put first, and what follows them
pub put_first : (p xs : List ℕ) → length xs ≤ length p → put p 0 xs ≡ xs ++ drop (length xs) p
unfolding put
put_first p xs h = sets-eq xs p 0 (omega arith) ∙ ap (λ n. xs ++ drop n p) (let e : 0 + length xs ≡ length xs = omega arith in e)

put_all : (p xs : List ℕ) → length xs ≡ length p → put p 0 xs ≡ xs
put_all p xs e = put_first p xs (omega arith) ∙ rw (e, drop-length p) (append-nil xs)

-- all is laid out, with fields of 0000
pub record Blank (f : Family) (a : Asked) (m : Message) (p : List ℕ) : Type 0 where
  pub fits : Fits f a
  pub at : m ≡ places_in f (length a.body)
  pub is : p ≡ laid f a 0 0

-- as header and datagram are, in a packet of the right size
pub laid_out : {f : Family} {a : Asked} {m : Message} (p q : List ℕ) {r : List ℕ} → Fits f a → m ≡ places_in f (length a.body)
    → length p ≡ header_size f + datagram_size a → q ≡ header_left f p a → r ≡ put q m.start (datagram_for a 0) → Blank f a m r
unfolding laid
laid_out {f} {a} {m} p q fits at l e g =
    let n : length p - header_size f ≡ datagram_size a = omega arith in
    let x : q ≡ put p 0 (header_for f a 0) = e ∙ ap (λ k. put p 0 (header_in f k a.lifetime a.source a.destination 0)) n in
    let y = g ∙ ap (λ (m : Message). put q m.start (datagram_for a 0)) at in
    let k = header-long a 0 0 f fits in
    let whole = length-append (header_for f a 0) (datagram_for a 0) in
    record {
      fits = fits;
      at = at;
      is = behind p 0 (header_size f) (header_for f a 0) (datagram_for a 0) x y (omega arith) ∙ put_all p (header_for f a 0 ++ datagram_for a 0) (omega arith);
    }

module _ {f : Family} {a : Asked} {m : Message} {p : List ℕ} (b : Blank f a m p) where
  pub blank-held : Holds p m
  blank-held = rw (b.at, b.is) (holds (read f a 0 0 b.fits))

  -- the header's field is set, and then the datagram's
  module _ {q : List ℕ} (h : q ≡ mended_header p) where
    pub mended-held : Holds q m
    mended-held = rw (b.at, h ∙ ap mended_header b.is ∙ mended-header-is f a 0 0 b.fits) (holds (read f a (fresh_header (laid f a 0 0)) 0 b.fits))

    pub all-laid : {r : List ℕ} (w : ℕ) → w ≡ sent true (field_of (fold (message_total q))) → r ≡ put_word q m.field w → r ≡ packet_in f a
    all-laid w y z = filled f a m.field w b.fits b.is h (ap (λ (m : Message). m.field) b.at) y z
