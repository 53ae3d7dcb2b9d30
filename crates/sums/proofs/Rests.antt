-- Laws of what the sum's loops keep: a number more, in any way that keeps the fold.
use Rattle.std.proofs.Common.{◌≡◌, ℕ, zero, suc, ◌+◌, ◌-◌, ◌*◌, ◌/◌, ◌%◌, ◌^◌, ◌<◌, ◌≤◌, true, ◌||◌, ltb, List, [], ◌∷◌, length, get_or, take, drop, sym, refl, ap, ◌∙◌, add-zero, add_comm, arith, drop_of_length-le, drop-drop, length-drop, ltb-false, ltb-true, w16, w32, w64, mul-suc, mul-zero, mod-eq_of_lt, mod-lt, length-take-le, take-append-drop, take-take}
use Rattle.std.proofs.Math.Nat.{mod-mod_of_dvd, dvd-mul_left, mod-le, add-mod_right}
use Rattle.std.proofs.lemmas.List.{drop-take, drop_more}
use Rattle.std.specs.Int.{from_bool, from_le_bytes}
use Rattle.std.specs.Simd.{first_chunks}
use lib.Lanes.{number_l}
use Rattle.verdicts.proofs.Tests.{by_cases, or-false}
use Rattle.sums.specs.Fold.{fold}
use Rattle.sums.specs.Total.{odd, weigh}
use Rattle.sums.specs.Low.{two_at, four_at, eight_at, rest_at, Room}
use Rattle.sums.proofs.Folds.{fold-add, fold-turns}
use Rattle.sums.proofs.Totals.{weigh-even}

-- the two at i, and what stands after them
pub two-more : (xs : List ℕ) (i : ℕ) → i + 1 < length xs → drop i xs ≡ get_or xs i 0 ∷ get_or xs (i + 1) 0 ∷ drop (i + 2) xs
two-more xs i h =
    let k : i + 1 + 1 ≡ i + 2 = omega arith in
    drop_more xs i 0 (omega arith)
    ∙ ap (λ l. get_or xs i 0 ∷ l) (drop_more xs (i + 1) 0 h ∙ ap (λ n. get_or xs (i + 1) 0 ∷ drop n xs) k)

-- the four, and the eight
four-more : (xs : List ℕ) (i : ℕ) → i + 3 < length xs → drop i xs ≡ get_or xs i 0 ∷ get_or xs (i + 1) 0 ∷ get_or xs (i + 2) 0 ∷ get_or xs (i + 2 + 1) 0 ∷ drop (i + 4) xs
four-more xs i h =
    let k : i + 2 + 2 ≡ i + 4 = omega arith in
    two-more xs i (omega arith)
    ∙ ap (λ l. get_or xs i 0 ∷ get_or xs (i + 1) 0 ∷ l) (two-more xs (i + 2) (omega arith) ∙ ap (λ n. get_or xs (i + 2) 0 ∷ get_or xs (i + 2 + 1) 0 ∷ drop n xs) k)

eight-more : (xs : List ℕ) (i : ℕ) → i + 7 < length xs
    → drop i xs ≡ get_or xs i 0 ∷ get_or xs (i + 1) 0 ∷ get_or xs (i + 2) 0 ∷ get_or xs (i + 2 + 1) 0
    ∷ get_or xs (i + 4) 0 ∷ get_or xs (i + 4 + 1) 0 ∷ get_or xs (i + 4 + 2) 0 ∷ get_or xs (i + 4 + 2 + 1) 0 ∷ drop (i + 8) xs
eight-more xs i h =
    let k : i + 4 + 4 ≡ i + 8 = omega arith in
    four-more xs i (omega arith)
    ∙ ap (λ l. get_or xs i 0 ∷ get_or xs (i + 1) 0 ∷ get_or xs (i + 2) 0 ∷ get_or xs (i + 2 + 1) 0 ∷ l) (four-more xs (i + 4) (omega arith)
    ∙ ap (λ n. get_or xs (i + 4) 0 ∷ get_or xs (i + 4 + 1) 0 ∷ get_or xs (i + 4 + 2) 0 ∷ get_or xs (i + 4 + 2 + 1) 0 ∷ drop n xs) k)

-- ---- what is left, with the number at i taken out
module _ (xs : List ℕ) where
  pub rest-two : (i : ℕ) → i + 1 < length xs → rest_at xs i ≡ two_at xs i + rest_at xs (i + 2)
  unfolding weigh two_at
  rest-two i h = ap (weigh true) (two-more xs i h) ∙ omega arith

  pub rest-four : (i t : ℕ) → i + 3 < length xs → fold (t + four_at xs i + rest_at xs (i + 4)) ≡ fold (t + rest_at xs i)
  unfolding four_at
  rest-four i t h =
      let a = rest-two i (omega arith) in
      let k : i + 2 + 2 ≡ i + 4 = omega arith in
      let b : rest_at xs (i + 2) ≡ two_at xs (i + 2) + rest_at xs (i + 4) = rest-two (i + 2) (omega arith) ∙ ap (λ n. two_at xs (i + 2) + rest_at xs n) k in
      ap fold (omega arith) ∙ fold-turns (t + rest_at xs i) (two_at xs (i + 2)) (λ z. omega arith)

  rest-eight : (i t : ℕ) → i + 7 < length xs → fold (t + eight_at xs i + rest_at xs (i + 8)) ≡ fold (t + rest_at xs i)
  unfolding eight_at
  rest-eight i t h =
      let k : i + 4 + 4 ≡ i + 8 = omega arith in
      let r = t + four_at xs i + four_at xs (i + 4) + rest_at xs (i + 8) in
      ap fold (omega arith)
      ∙ fold-turns r (65537 * four_at xs (i + 4)) (λ z. omega arith)
      ∙ ap (λ n. fold (t + four_at xs i + four_at xs (i + 4) + rest_at xs n)) (sym k)
      ∙ rest-four (i + 4) (t + four_at xs i) (omega arith)
      ∙ rest-four i t (omega arith)

  rest-one : (i : ℕ) → i + 1 ≡ length xs → rest_at xs i ≡ get_or xs i 0
  unfolding weigh
  rest-one i e =
      let h : length xs ≤ i + 1 = omega arith in
      ap (weigh true) (drop_more xs i 0 (omega arith) ∙ ap (λ l. get_or xs i 0 ∷ l) (drop_of_length-le xs h)) ∙ omega arith

  pub rest-none : (i : ℕ) → length xs ≤ i → rest_at xs i ≡ 0
  unfolding weigh
  rest-none i h = ap (weigh true) (drop_of_length-le xs h)

  -- ---- a total r in place of t, with the number v at i added, or none
  module _ (t r v i j : ℕ) where
    more : fold (t + v + rest_at xs j) ≡ fold (t + rest_at xs i) → fold r ≡ fold (t + v) → fold (r + rest_at xs j) ≡ fold (t + rest_at xs i)
    more e f = fold-add r (t + v) (rest_at xs j) f ∙ e

    pub more-eight : i + 7 < length xs → j ≡ i + 8 → v ≡ eight_at xs i → fold r ≡ fold (t + v) → fold (r + rest_at xs j) ≡ fold (t + rest_at xs i)
    more-eight h k e = more (rw (k, e) (rest-eight i t h))

    pub more-four : i + 3 < length xs → j ≡ i + 4 → v ≡ four_at xs i → fold r ≡ fold (t + v) → fold (r + rest_at xs j) ≡ fold (t + rest_at xs i)
    more-four h k e = more (rw (k, e) (rest-four i t h))

    pub more-two : i + 1 < length xs → j ≡ i + 2 → v ≡ two_at xs i → fold r ≡ fold (t + v) → fold (r + rest_at xs j) ≡ fold (t + rest_at xs i)
    more-two h k e = more (rw (k, e) (let a = rest-two i h in ap fold (omega arith)))

  pub more-none : (t i j : ℕ) → i ≡ j → fold (t + rest_at xs i) ≡ fold (t + rest_at xs j)
  more-none t i j e = ap (λ k. fold (t + rest_at xs k)) e

  pub more-one : (t r v i : ℕ) → i + 1 ≡ length xs → v ≡ get_or xs i 0 → fold r ≡ fold (t + v) → fold r ≡ fold (t + rest_at xs i)
  more-one t r v i h e f = f ∙ ap (λ n. fold (t + n)) (e ∙ sym (rest-one i h))

  pub more-end : (t i : ℕ) → length xs ≤ i → fold t ≡ fold (t + rest_at xs i)
  more-end t i h = ap fold (sym (add-zero t)) ∙ ap (λ n. fold (t + n)) (sym (rest-none i h))

  -- ---- an even number of bytes taken out of what is left
  pub rest-part : (i n j : ℕ) → i + n ≤ length xs → j ≡ i + n → n % 2 ≡ 0 → rest_at xs i ≡ weigh true (take n (drop i xs)) + rest_at xs j
  unfolding odd
  rest-part i n j h e z =
      let part = take n (drop i xs) in
      let l : length part ≡ n = length-take-le n (drop i xs) (omega (arith, length-drop i xs)) in
      ap (weigh true) (sym (take-append-drop n (drop i xs)))
      ∙ weigh-even true part (drop n (drop i xs)) (rw (l, z) refl)
      ∙ ap (λ ys. weigh true part + weigh true ys) (drop-drop n i xs ∙ ap (λ k. drop k xs) (sym e))

-- ---- the j-th of the chunks of n numbers that std cuts a list into
pub chunk-at : (n k j : ℕ) (xs : List ℕ) → j < k → get_or (first_chunks n k xs) j [] ≡ take n (drop (n * j) xs)
chunk-at n zero j xs h = absurd (omega arith)
chunk-at n (suc k) zero xs h = ap (λ i. take n (drop i xs)) (sym (mul-zero n))
chunk-at n (suc k) (suc j) xs h =
    chunk-at n k j (drop n xs) (omega arith) ∙ ap (take n) (drop-drop (n * j) n xs ∙ ap (λ i. drop i xs) (add_comm n (n * j) ∙ sym (mul-suc n j)))

-- the same of a part
part-chunk : (n j m i : ℕ) (xs : List ℕ) → n * j + n ≤ m → take n (drop (n * j) (take m (drop i xs))) ≡ take n (drop (i + n * j) xs)
part-chunk n j m i xs h =
    let k : n * j + (m - n * j) ≡ m = omega arith in
    ap (λ l. take n (drop (n * j) (take l (drop i xs)))) (sym k)
    ∙ ap (take n) (drop-take (n * j) (m - n * j) (drop i xs))
    ∙ take-take n (m - n * j) (drop (n * j) (drop i xs)) (omega arith)
    ∙ ap (take n) (drop-drop (n * j) i xs)

-- the numbers of chunks of two, four and eight bytes
pub chunk-two : (xs : List ℕ) (k j : ℕ) → j < k → 2 * j + 1 < length xs → from_le_bytes w16 (get_or (first_chunks 2 k xs) j []) ≡ two_at xs (2 * j)
unfolding two_at
chunk-two xs k j h l = rw (chunk-at 2 k j xs h, two-more xs (2 * j) l) (omega arith)

pub chunk-four : (xs : List ℕ) (i m k j : ℕ) → j < k → 4 * j + 4 ≤ m → i + m ≤ length xs
    → from_le_bytes w32 (get_or (first_chunks 4 k (take m (drop i xs))) j []) ≡ four_at xs (i + 4 * j)
unfolding four_at two_at
chunk-four xs i m k j h l r =
    rw (chunk-at 4 k j (take m (drop i xs)) h, part-chunk 4 j m i xs l, four-more xs (i + 4 * j) (omega arith)) (omega arith)

pub chunk-eight : (xs : List ℕ) (i m k j : ℕ) → j < k → 8 * j + 8 ≤ m → i + m ≤ length xs
    → from_le_bytes w64 (get_or (first_chunks 8 k (take m (drop i xs))) j []) ≡ eight_at xs (i + 8 * j)
unfolding eight_at four_at two_at
chunk-eight xs i m k j h l r =
    rw (chunk-at 8 k j (take m (drop i xs)) h, part-chunk 8 j m i xs l, eight-more xs (i + 8 * j) (omega arith)) (omega arith)

-- ---- a turn of two totals: t gets the first half of the bytes from i on, u the second
pub rest-turn : (xs turn : List ℕ) (seed t u r s i : ℕ) → turn ≡ take 128 (drop i xs) → i + 128 ≤ length xs
    → fold (r + rest_at turn 64) ≡ fold (t + weigh true turn) → fold (s + rest_at turn 128) ≡ fold (u + rest_at turn 64)
    → fold (t + u + rest_at xs i) ≡ fold (seed + weigh true xs) → fold (r + s + rest_at xs (i + 128)) ≡ fold (seed + weigh true xs)
rest-turn xs turn seed t u r s i is h e f k =
    let w = weigh true turn in
    let q = rest_at turn 64 in
    let n = rest_at xs (i + 128) in
    let l : length turn ≡ 128 = ap length is ∙ length-take-le 128 (drop i xs) (omega (arith, length-drop i xs)) in
    let none : rest_at turn 128 ≡ 0 = rest-none turn 128 (omega arith) in
    let part : rest_at xs i ≡ w + n = rest-part xs i 128 _ h refl refl ∙ ap (λ l. weigh true l + n) (sym is) in
    let a : r + s + n ≡ s + rest_at turn 128 + (r + n) = omega arith in
    let b : u + q + (r + n) ≡ r + q + (u + n) = omega arith in
    let c : t + w + (u + n) ≡ t + u + rest_at xs i = omega arith in
    ap fold a ∙ fold-add (s + rest_at turn 128) (u + q) (r + n) f
    ∙ ap fold b ∙ fold-add (r + q) (t + w) (u + n) e
    ∙ ap fold c ∙ k

-- ---- a + v modulo 2 ^ 64, with the carry out of it added in again
pub carry-fold : (a v n : ℕ) → a < 2 ^ 64 → v < 2 ^ 64 → n ≡ (a + v) % 2 ^ 64 → fold (n + from_bool (ltb n v)) ≡ fold (a + v)
carry-fold a v n h k e =
    by_cases (ltb n v)
    (λ t. let l = ltb-true n v t in rw t (sym (ap fold (omega arith) ∙ fold-turns (n + 1) 281479271743489 (λ z. omega arith))))
    (λ t. let l = ltb-false n v t in rw t (ap fold (omega arith)))

-- ---- a full adder: n is the sum of a and v, m that of n and the carry c, each modulo 2 ^ 64
module _ (a c v n m : ℕ) (room : Room a c) (small : v < 2 ^ 64) (en : n ≡ (a + v) % 2 ^ 64) (em : m ≡ (n + c) % 2 ^ 64) where
  pub step-fold : fold (m + from_bool (ltb n v || ltb m n)) ≡ fold (a + c + v)
  step-fold =
      by_cases (ltb n v || ltb m n)
      (λ t. let e : a + c + v ≡ m + 2 ^ 64 =
      by_cases (ltb n v)
      (λ l. let k = ltb-true n v l in omega arith)
      (λ l. let k = ltb-true m n (simp l at t) in omega arith) in
      rw t (sym (ap fold (e ∙ omega arith) ∙ fold-turns (m + 1) 281479271743489 (λ z. omega arith))))
      (λ t. let o = or-false (ltb n v) (ltb m n) t in
      let k = ltb-false n v o.0 in
      let l = ltb-false m n o.1 in
      rw t (ap fold (omega arith)))

-- ---- the number of some bytes, and what is left of it where the lowest are shifted out
low-fold : (xs : List ℕ) (t : ℕ) → fold (t + number_l 256 xs) ≡ fold (t + weigh true xs)
unfolding weigh
low-fold [] t = refl
low-fold (x ∷ []) t = ap fold (omega arith)
low-fold (x ∷ y ∷ xs) t =
    let a : t + (x + 256 * (y + 256 * number_l 256 xs)) ≡ t + x + 256 * y + number_l 256 xs + 65535 * number_l 256 xs = omega arith in
    let b : t + x + 256 * y + weigh true xs ≡ t + (x + (256 * y + weigh true xs)) = omega arith in
    ap fold a ∙ fold-turns (t + x + 256 * y + number_l 256 xs) (number_l 256 xs) (λ z. omega arith) ∙ low-fold xs (t + x + 256 * y) ∙ ap fold b

-- eight bytes low byte first, with the k lowest shifted out
low-shift : (a b c d e f g h : ℕ) → (a < 256) × (b < 256) × (c < 256) × (d < 256) × (e < 256) × (f < 256) × (g < 256) × (h < 256) → (k : ℕ) → k < 8
    → (a + 256 * b + 65536 * (c + 256 * d) + 4294967296 * (e + 256 * f + 65536 * (g + 256 * h))) / 2 ^ (8 * k)
    ≡ number_l 256 (drop k (a ∷ b ∷ c ∷ d ∷ e ∷ f ∷ g ∷ h ∷ []))
low-shift a b c d e f g h s zero l = omega arith
low-shift a b c d e f g h s (suc zero) l = omega arith
low-shift a b c d e f g h s (suc (suc zero)) l = omega arith
low-shift a b c d e f g h s (suc (suc (suc zero))) l = omega arith
low-shift a b c d e f g h s (suc (suc (suc (suc zero)))) l = omega arith
low-shift a b c d e f g h s (suc (suc (suc (suc (suc zero))))) l = omega arith
low-shift a b c d e f g h s (suc (suc (suc (suc (suc (suc zero)))))) l = omega arith
low-shift a b c d e f g h s (suc (suc (suc (suc (suc (suc (suc zero))))))) l = omega arith
low-shift a b c d e f g h s (suc (suc (suc (suc (suc (suc (suc (suc k)))))))) l = absurd (omega arith)

-- so of the last eight bytes what is left from j on
module _ (xs : List ℕ) (i : ℕ) (long : i + 8 ≡ length xs) (small : (j : ℕ) → get_or xs j 0 < 256) where
  pub rest-shifted : (t k j : ℕ) → k < 8 → j ≡ i + k → fold (t + eight_at xs i / 2 ^ (8 * k)) ≡ fold (t + rest_at xs j)
  unfolding eight_at four_at two_at
  rest-shifted t k j h e =
      let end : length xs ≤ i + 8 = omega arith in
      let shifted =
      low-shift _ _ _ _ _ _ _ _ (small i, small (i + 1), small (i + 2), small (i + 2 + 1), small (i + 4), small (i + 4 + 1), small (i + 4 + 2), small (i + 4 + 2 + 1)) k h
      ∙ ap (λ l. number_l 256 (drop k l)) (sym (rw (drop_of_length-le xs end) at (eight-more xs i (omega arith)))) in
      ap (λ n. fold (t + n)) shifted ∙ low-fold (drop k (drop i xs)) t
      ∙ ap (λ l. fold (t + weigh true l)) (drop-drop k i xs ∙ ap (λ n. drop n xs) (sym e))

-- ---- where the multiples of m and of 2 * m in n end
module _ (n m : ℕ) (some : 0 < m) where
  half : n % (2 * m) % m ≡ n % m
  half = mod-mod_of_dvd m n (dvd-mul_left m 2)

  pub end-same : n % (2 * m) < m → n - n % m ≡ n - n % (2 * m)
  end-same h = ap (λ k. n - k) (sym half ∙ mod-eq_of_lt h)

  pub end-next : m ≤ n % (2 * m) → n - n % m ≡ n - n % (2 * m) + m
  end-next h =
      let r = n % (2 * m) in
      let k : r - m + m ≡ r = omega arith in
      let s : r < 2 * m = mod-lt n (omega arith) in
      let l : n % m ≡ r - m = sym half ∙ ap (λ i. i % m) (sym k) ∙ add-mod_right (r - m) m ∙ mod-eq_of_lt (omega arith) in
      omega (arith, mod-le n (2 * m))
