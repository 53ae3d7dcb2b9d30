-- Laws of what is put into a buffer, and of numbers in decimal.
use Rattle.std.proofs.Common.{◌≡◌, refl, sym, ap, ap₂, ◌∙◌, ℕ, zero, suc, ◌+◌, ◌-◌, ◌/◌, ◌^◌, ◌≤◌, ◌<◌, arith, zero-add, add-zero, pow-suc, List, [], ◌∷◌, ◌++◌, length, get_or, take, set, length-append, take_all}
use Rattle.std.specs.Prelude.{ltb}
use Rattle.std.specs.Borrow.{Bor}
use Rattle.std.proofs.lemmas.List.{take_more, flat_map_more}
use Rattle.std.proofs.lemmas.List.Sums.{sum_by_more, sum_by-take-le}
use Rattle.std.proofs.Math.Nat.{pow-le-pow_right}
use Rattle.std.proofs.Math.Seq.{sets}
use borrow.Author.Tests.{lt-ltb, le-ltb, ltb-true, ltb-false}
use Rattle.io.specs.Digits.{last_digits, IsDigitCount}
use Rattle.verdicts.proofs.Tests.{by_cases}
use Rattle.wire.specs.Bytes.{put}
use Rattle.lines.specs.Text.{places_by, decimal_of, Page, ◌then◌}
use Rattle.lines.specs.Lines.{parts_text, room_of}
use Rattle.lines.specs.Feed.{largest}

-- ---- bytes after bytes
sets-append : (l : List ℕ) (i : ℕ) (xs ys : List ℕ) → sets l i (xs ++ ys) ≡ sets (sets l i xs) (i + length xs) ys
sets-append l i [] ys = rw add-zero
sets-append l i (x ∷ xs) ys =
    let n : i + suc (length xs) ≡ suc i + length xs = omega arith in
    rw n (sets-append (set l i x) (suc i) xs ys)

pub then_append : (p : Page) (xs ys : List ℕ) → p then (xs ++ ys) ≡ p then xs then ys
unfolding ◌then◌ put
then_append p xs ys = ap₂ {C = Page} (λ n l. (n, l)) (omega (arith, length-append xs ys)) (sets-append p.1 p.0 xs ys)

-- a buffer's page from its first byte on
pub from_first : (w : ℕ) (l buffer text : List ℕ) → (w, l) ≡ (0, buffer) then text → (w ≡ length text) × (l ≡ put buffer 0 text)
unfolding ◌then◌
from_first w l buffer text e = (ap (λ (p : Page). p.0) e ∙ zero-add (length text), ap (λ (p : Page). p.1) e)

-- ---- the fewest digits
-- of a number of several digits, what is left without the last one takes one fewer
shorter : (n j : ℕ) → IsDigitCount 10 1 n (suc (suc j)) → IsDigitCount 10 1 (n / 10) (suc j)
shorter n j f =
    let up : 10 ^ suc j ≤ n = (let e : suc (suc j) - 1 ≡ suc j = omega arith in rw e at (f.2 (omega arith))) in
    let low : suc j - 1 ≡ j = omega arith in
    (omega arith, omega (arith, f.1, pow-suc 10 (suc j)), λ l. rw low (omega (arith, up, pow-suc 10 j)))

several : (n j : ℕ) → IsDigitCount 10 1 n (suc (suc j)) → 10 ≤ n
several n j f =
    let e : suc (suc j) - 1 ≡ suc j = omega arith in
    let one : 10 ^ 0 ≤ 10 ^ j = pow-le-pow_right (omega arith) {i = 0} (omega arith) in
    omega (arith, rw e at (f.2 (omega arith)), pow-suc 10 j)

fewest-is : (most n k : ℕ) → n ≤ most → IsDigitCount 10 1 n k → places_by most n ≡ k
unfolding places_by
fewest-is most n zero h f = absurd (omega (arith, f.0))
fewest-is zero n (suc zero) h f = refl
fewest-is (suc most) n (suc zero) h f = rw (lt-ltb n 10 (omega (arith, f.1)))
fewest-is zero n (suc (suc j)) h f = absurd (omega (arith, several n j f))
fewest-is (suc most) n (suc (suc j)) h f =
    let s = several n j f in
    rw (le-ltb n 10 s) (ap suc (fewest-is most (n / 10) (suc j) (omega arith) (shorter n j f)))

-- the fewest digits that hold a number are its decimal
pub decimal-is : (n k : ℕ) → IsDigitCount 10 1 n k → last_digits 10 k n ≡ decimal_of n
unfolding decimal_of
decimal-is n k f = ap (λ p. last_digits 10 p n) (sym (fewest-is n n k (omega arith) f))

-- a number of 64 bits takes at most 20 digits
pub few-digits : (n k : ℕ) → n ≤ largest → IsDigitCount 10 1 n k → k ≤ 20
few-digits n k h f =
    by_cases (ltb 20 k)
    (λ b.
    let long = ltb-true 20 k b in
    let most : 10 ^ 20 ≤ 10 ^ (k - 1) = pow-le-pow_right (omega arith) {i = 20} (omega arith) in
    absurd (omega (arith, f.2 (omega arith))))
    (λ b. ltb-false 20 k b)

-- ---- texts with a number behind each, one after the other
abbrev Part : Type 0
Part = Bor (List ℕ) × ℕ

-- where the next one is put, and what stands before it
pub record Spelling (parts : List Part) (buffer : List ℕ) (at : ℕ) (out : List ℕ) (i : ℕ) : Type 0 where
  pub page : (at, out) ≡ (0, buffer) then parts_text (take i parts)
  pub room : at ≤ room_of (take i parts)

pub spelling_start : (parts : List Part) (buffer : List ℕ) → Spelling parts buffer 0 buffer 0
unfolding ◌then◌ put
spelling_start parts buffer = record { page = refl; room = omega arith }

module _ (parts : List Part) {buffer out : List ℕ} {at i : ℕ} (s : Spelling parts buffer at out i) where
  module _ (d : Part) (h : i < length parts) where
    abbrev part : Part
    part = get_or parts i d

    room-more : room_of (take (i + 1) parts) ≡ room_of (take i parts) + (length part.0.now + 20)
    room-more = sum_by_more (λ (p : Part). length p.0.now + 20) parts i d h

    parts-more : parts_text (take (i + 1) parts) ≡ parts_text (take i parts) ++ (part.0.now ++ decimal_of part.1)
    parts-more = ap parts_text (take_more parts i d h) ∙ sym (flat_map_more (λ (p : Part). p.0.now ++ decimal_of p.1) [] (take i parts) part)

    pub spelling-room : at + length part.0.now + 20 ≤ room_of parts
    spelling-room = omega (arith, s.room, room-more, sum_by-take-le (λ (p : Part). length p.0.now + 20) parts (i + 1))

    pub spelling-more : (k : ℕ) (l : List ℕ) → (k, l) ≡ (at, out) then part.0.now then decimal_of part.1 → k ≤ at + length part.0.now + 20 → Spelling parts buffer k l (i + 1)
    spelling-more k l e r =
        record {
          page = e ∙ ap (λ p. p then part.0.now then decimal_of part.1) s.page ∙ sym (ap (λ t. (0, buffer) then t) parts-more ∙ then_append _ _ _ ∙ then_append _ _ _);
          room = omega (arith, s.room, room-more);
        }

  module _ (h : length parts ≤ i) where
    pub spelled-room : at ≤ room_of parts
    spelled-room = omega (arith, s.room, ap room_of (take_all i parts h))

    pub spelled : (k : ℕ) (l last : List ℕ) → (k, l) ≡ (at, out) then last → (k, l) ≡ (0, buffer) then (parts_text parts ++ last)
    spelled k l last e = e ∙ ap (λ p. p then last) (s.page ∙ ap (λ ps. (0, buffer) then parts_text ps) (take_all i parts h)) ∙ sym (then_append _ _ _)
