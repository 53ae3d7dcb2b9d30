-- Parts of a byte string: their bytes and lengths, and strings of bytes put together.
use mathlib.Core.Path.{◌≡◌, refl, sym, ap, ap₂, ◌∙◌}
use Prim.Native.Nat.{ℕ, zero, suc, ◌+◌, ◌-◌, ◌*◌, ◌≤◌, ◌<◌}
use native.Mathlib.Omega.{arith}
use native.Mathlib.Decide.{dec_lt}
use native.Mathlib.Nat.{add_assoc}
use mathlib.Core.List.{List, [], ◌∷◌, ◌++◌}
use lib.ListN.{length, take, drop, length-take, length-drop}
use lib.Seq.{take-add, drop-drop, drop-cons, length-take-le, get_or-take, get_or-drop, ext_get_or}
use Rattle.wire.specs.Bytes.{byte_at, word_at, Bytes, part}

-- ---- a part
pub part_length : (p : List ℕ) (a n : ℕ) → a + n ≤ length p → length (part p a n) ≡ n
part_length p a n h = length-take-le n (drop a p) (rw (length-drop a p) (omega arith))

pub part-byte : (p : List ℕ) (a n i : ℕ) → i < n → byte_at (part p a n) i ≡ byte_at p (a + i)
part-byte p a n i h = get_or-take n (drop a p) i 0 h ∙ get_or-drop a p i 0

pub part-word : (p : List ℕ) (a n i : ℕ) → i + 1 < n → word_at (part p a n) i ≡ word_at p (a + i)
part-word p a n i h = ap₂ (λ x y. x * 256 + y) (part-byte p a n i (omega arith)) (part-byte p a n (i + 1) h ∙ rw add_assoc)

past : (n i : ℕ) (xs : List ℕ) → n ≤ i → byte_at (take n xs) i ≡ 0
past zero i xs h = refl
past (suc n) i [] h = refl
past (suc n) zero (x ∷ xs) h = absurd (omega arith)
past (suc n) (suc i) (x ∷ xs) h = past n i xs (omega arith)

-- the same byte, and the same length, whether or not they are there
pub byte-same : (p q : List ℕ) (a n i : ℕ) → (i < n → byte_at q (a + i) ≡ byte_at p (a + i)) → byte_at (part q a n) i ≡ byte_at (part p a n) i
byte-same p q a n i e =
    elim (dec_lt i n) [
      | yes l ↦ part-byte q a n i l ∙ e l ∙ sym (part-byte p a n i l)
      | no l ↦ past n i (drop a q) (omega arith) ∙ sym (past n i (drop a p) (omega arith))
    ]

pub length-same : (p q : List ℕ) (a n : ℕ) → length q ≡ length p → length (part q a n) ≡ length (part p a n)
length-same p q a n e = simp (length-take, length-drop, e)

-- the same bytes at another place, and at the same
pub part_moved : (p q : List ℕ) (a b n : ℕ) → a + n ≤ length p → b + n ≤ length q → ((i : ℕ) → i < n → byte_at q (b + i) ≡ byte_at p (a + i)) → part q b n ≡ part p a n
part_moved p q a b n h k same =
    ext_get_or 0 (part q b n) (part p a n) (part_length q b n k ∙ sym (part_length p a n h))
    (λ i l.
    let m : i < n = omega (arith, part_length q b n k) in
    part-byte q b n i m ∙ same i m ∙ sym (part-byte p a n i m))

pub part_same : (p q : List ℕ) (a n : ℕ) → a + n ≤ length p → a + n ≤ length q → ((i : ℕ) → a ≤ i → i < a + n → byte_at q i ≡ byte_at p i)
    → part q a n ≡ part p a n
part_same p q a n h k same = part_moved p q a a n h k (λ i l. same (a + i) (omega arith) (omega arith))

-- a part in two
pub part-add : (p : List ℕ) (a m n : ℕ) → part p a (m + n) ≡ part p a m ++ part p (a + m) n
part-add p a m n = take-add m n (drop a p) ∙ rw (drop-drop m a p)

pub part_cut : (p : List ℕ) (a b c : ℕ) → a ≤ b → b ≤ c → part p a (c - a) ≡ part p a (b - a) ++ part p b (c - b)
part_cut p a b c h k =
    let e : c - a ≡ (b - a) + (c - b) = omega arith in
    let f : a + (b - a) ≡ b = omega arith in
    rw e (part-add p a (b - a) (c - b) ∙ rw f)

-- a part, byte by byte
abbrev pub each : List ℕ → ℕ → ℕ → List ℕ
each p a zero = []
each p a (suc n) = byte_at p a ∷ each p (suc a) n

pub part-each : (p : List ℕ) (a n : ℕ) → a + n ≤ length p → each p a n ≡ part p a n
part-each p a zero h = refl
part-each p a (suc n) h =
    let k : a < length p = omega arith in
    rw (drop-cons p a 0 k) (ap (λ (xs : List ℕ). byte_at p a ∷ xs) (part-each p (suc a) n (omega arith)))

-- ---- strings of bytes
pub bytes-append : (a b : List ℕ) → Bytes a → Bytes b → Bytes (a ++ b)
bytes-append [] b u v i = v i
bytes-append (x ∷ a) b u v zero = u 0
bytes-append (x ∷ a) b u v (suc i) = bytes-append a b (λ j. u (suc j)) v i

-- the same, byte by byte
abbrev pub Small : List ℕ → Type 0
Small [] = Unit
Small (x ∷ xs) = (x < 256) × Small xs

pub bytes_small : (xs : List ℕ) → Small xs → Bytes xs
bytes_small [] s i = omega arith
bytes_small (x ∷ xs) s zero = s.0
bytes_small (x ∷ xs) s (suc i) = bytes_small xs s.1 i

bytes_take : (n : ℕ) (xs : List ℕ) → Bytes xs → Bytes (take n xs)
bytes_take zero xs b i = omega arith
bytes_take (suc n) [] b i = omega arith
bytes_take (suc n) (x ∷ xs) b zero = b 0
bytes_take (suc n) (x ∷ xs) b (suc i) = bytes_take n xs (λ j. b (suc j)) i

bytes_drop : (n : ℕ) (xs : List ℕ) → Bytes xs → Bytes (drop n xs)
bytes_drop zero xs b i = b i
bytes_drop (suc n) [] b i = omega arith
bytes_drop (suc n) (x ∷ xs) b i = bytes_drop n xs (λ j. b (suc j)) i

pub bytes-part : (p : List ℕ) (a n : ℕ) → Bytes p → Bytes (part p a n)
bytes-part p a n b = bytes_take n (drop a p) (bytes_drop a p b)
