-- The sum fields of a packet laid out: what is written over them, and what mending works out for them.
use Rattle.std.proofs.Common.{if◌then◌else◌, ◌≡◌, refl, sym, ap, ap₂, ◌∙◌, ◌≢◌, ℕ, suc, ◌+◌, ◌/◌, ◌%◌, ◌<◌, arith, List, [], ◌∷◌, ◌++◌, append_assoc, true, false, ◌&&◌, true≢false, length, length-append, set, take_at}
use Rattle.sums.specs.Total.{weigh, total}
use Rattle.sums.specs.Fold.{fold, field_of}
use Rattle.sums.proofs.Folds.{fold-as}
use Rattle.wire.specs.Bytes.{word_at, put, put_word}
use Rattle.wire.specs.Outer.{four, header_end, header_field}
use Rattle.wire.specs.Messages.{covered_in}
use Rattle.wire.specs.Inner.{field_at, silent_of}
use Rattle.wire.specs.declared.Family.{Family}
use Rattle.wire.specs.declared.Family.TheVariants.{Four, Six}
use Rattle.cover.specs.Sums.{header_total, message_total}
use Rattle.mend.specs.Fresh.{sent, fresh_header, fresh_message}
use Rattle.mend.specs.Mend.{mended_header, mended_message}
use Rattle.build.specs.Layout.{Asked, word, datagram_size, header_for, datagram_for, header_size, laid, packet_in}
use Rattle.build.specs.Places.{Fits}
use Rattle.build.proofs.Laid.{addresses-long, read, protocol-is, field_is, total-is, silent-is}

-- ---- one word written over another
two-over : (xs zs : List ℕ) (a b c d : ℕ) → set (set (xs ++ (a ∷ b ∷ zs)) (length xs) c) (suc (length xs)) d ≡ xs ++ (c ∷ d ∷ zs)
two-over [] zs a b c d = refl
two-over (x ∷ xs) zs a b c d = ap (λ (ys : List ℕ). x ∷ ys) (two-over xs zs a b c d)

word_over : (xs zs : List ℕ) (old new : ℕ) → put_word (xs ++ (word old ++ zs)) (length xs) new ≡ xs ++ (word new ++ zs)
unfolding put
word_over xs zs old new = two-over xs zs (old / 256) (old % 256) (new / 256) (new % 256)

module _ (a : Asked) (h m : ℕ) where
  header-over : (v : ℕ) → put_word (laid Four a h m) header_field v ≡ laid Four a v m
  unfolding put laid
  header-over v = refl

  pub header-long : (f : Family) → Fits f a → length (header_for f a h) ≡ header_size f
  header-long Four s = omega (arith, addresses-long s)
  header-long Six s = omega (arith, addresses-long s)

  module _ {f : Family} (s : Fits f a) where
    -- what stands before the field of the datagram
    abbrev front : List ℕ
    front = word a.source_port ++ (word a.destination_port ++ word (datagram_size a))

    front_long : length (header_for f a h ++ front) ≡ header_size f + 6
    front_long = omega (arith, length-append (header_for f a h) front, header-long f s)

    message-over : (v : ℕ) → put_word (laid f a h m) (header_size f + 6) v ≡ laid f a h v
    unfolding laid
    message-over v =
        rw (sym front_long, sym (append_assoc (header_for f a h) front (word m ++ a.body)), sym (append_assoc (header_for f a h) front (word v ++ a.body)))
        (word_over (header_for f a h ++ front) a.body m v)

    -- the fresh fields are those of the blank packet, whatever stands in them
    pub fresh-message-is : fresh_message (laid f a h m) ≡ sent true (field_of (fold (total (covered_in f 17 (a.source ++ a.destination) (datagram_for a 0)))))
    unfolding fresh_message
    fresh-message-is =
        let r = read f a h m s in
        rw (protocol-is r, field_is r, message-over 0, total-is (read f a h 0 s))

  fresh-header-is : Fits Four a → fresh_header (laid Four a h m) ≡ field_of (fold (total (header_for Four a 0)))
  unfolding fresh_header header_total header_end laid
  fresh-header-is s = rw (header-over 0) (ap (λ xs. field_of (fold (total xs))) (take_at (header_for Four a 0) (datagram_for a m) 20 (omega (arith, addresses-long s))))

  -- never FFFF, as the first word is version and header length
  header-some : Fits Four a → fresh_header (laid Four a h m) < 65535
  unfolding weigh
  header-some s = omega (arith, fresh-header-is s, fold-as (total (header_for Four a 0)))

-- ---- both fields set
pub mended-header-is : (f : Family) (a : Asked) (h m : ℕ) → Fits f a → mended_header (laid f a h m) ≡ laid f a (fresh_header (laid f a 0 0)) m
unfolding mended_header laid
mended-header-is Four a h m s =
    ap (λ v. put_word (laid Four a h m) header_field v) (fresh-header-is a h m s ∙ sym (fresh-header-is a 0 0 s)) ∙ header-over a h m (fresh_header (laid Four a 0 0))
mended-header-is Six a h m s = refl

message-set : (f : Family) (a : Asked) (h m : ℕ) → Fits f a
    → put_word (laid f a h m) (field_at (laid f a h m)) (fresh_message (laid f a h m)) ≡ laid f a h (fresh_message (laid f a 0 0))
message-set f a h m s =
    ap₂ (λ i v. put_word (laid f a h m) i v) (field_is (read f a h m s)) (fresh-message-is a h m s ∙ sym (fresh-message-is a 0 0 s))
    ∙ message-over a h m s (fresh_message (laid f a 0 0))

-- mending makes the packet of it, unless the datagram's field is 0000
pub laid-mended : (f : Family) (a : Asked) (h m : ℕ) → Fits f a → silent_of (laid f a h m) ≡ false → mended_message (mended_header (laid f a h m)) ≡ packet_in f a
unfolding mended_message
laid-mended f a h m s u =
    let fresh = fresh_header (laid f a 0 0) in
    let q = laid f a fresh m in
    let quiet : silent_of q ≡ false = silent-is (read f a fresh m s) ∙ sym (silent-is (read f a h m s)) ∙ u in
    ap mended_message (mended-header-is f a h m s)
    ∙ ap (λ t. if t && four q then q else put_word q (field_at q) (fresh_message q)) quiet
    ∙ message-set f a fresh m s

-- the packet's header field isn't FFFF
pub field-some : (f : Family) (a : Asked) → Fits f a → four (packet_in f a) ≡ true → word_at (packet_in f a) header_field ≢ 65535
unfolding laid
field-some Four a s x e = omega (arith, header-some a 0 0 s)
field-some Six a s x e = absurd (true≢false (sym x))

-- laid out with fields of 0000, its header mended, and the datagram's field worked out from all its bytes: the packet
pub filled : (f : Family) (a : Asked) (at w : ℕ) {p q r : List ℕ} → Fits f a → p ≡ laid f a 0 0 → q ≡ mended_header p → at ≡ header_size f + 6
    → w ≡ sent true (field_of (fold (message_total q))) → r ≡ put_word q at w → r ≡ packet_in f a
filled f a at w s x y i e z =
    let h = fresh_header (laid f a 0 0) in
    let g = y ∙ ap mended_header x ∙ mended-header-is f a 0 0 s in
    let v : w ≡ fresh_message (laid f a 0 0) =
    e ∙ ap (λ q. sent true (field_of (fold (message_total q)))) g ∙ ap (λ t. sent true (field_of (fold t))) (total-is (read f a h 0 s)) ∙ sym (fresh-message-is a 0 0 s) in
    z ∙ rw (g, i, v) (message-over a h 0 s (fresh_message (laid f a 0 0)))
