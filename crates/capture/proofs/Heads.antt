-- Laws of a capture's head.
use Rattle.std.proofs.Common.{◌≡◌, refl, sym, ◌∙◌, ℕ, ◌≤◌, arith, List, [], ◌∷◌, false, not, length, take, drop, length-take, get_or-take}
use Rattle.std.specs.Prelude.{ltb, eqb}
use Rattle.std.specs.Cmp.Lexicographic.{pointwise}
use Rattle.std.proofs.Math.Bool.{true≢false}
use borrow.Author.Tests.{le-ltb, lt-ltb, eq-eqb, ne_eqb, ltb-true, ltb-false, eqb-true, not-false}
use Rattle.verdicts.proofs.Tests.{by_cases, or-false, and-true}
use Rattle.wire.specs.Bytes.{byte_at, Bytes, word_at}
use Rattle.capture.specs.Records.{capture_head, other_mark, other_edition, capture_of}

-- ---- a capture that doesn't begin with the mark
twisted : (m n : ℕ) → eqb m n ≡ eqb n m
twisted m n = by_cases (eqb n m) (λ b. eq-eqb m n (sym (eqb-true n m b)) ∙ sym b) (λ b. ne_eqb m n (λ e. true≢false (sym (eq-eqb n m (sym e)) ∙ b)) ∙ sym b)

pub mark_begins : (c : List ℕ) → not (pointwise eqb (0x47 ∷ 0x4C ∷ 0x52 ∷ []) (take 3 c)) ≡ other_mark c
unfolding other_mark
mark_begins [] = refl
mark_begins (x ∷ []) = by_cases (eqb 0x47 x) (λ b. simp b) (λ b. simp b)
mark_begins (x ∷ y ∷ []) = by_cases (eqb 0x47 x) (λ b. by_cases (eqb 0x4C y) (λ e. simp (b, e)) (λ e. simp (b, e))) (λ b. simp b)
mark_begins (x ∷ y ∷ z ∷ xs) =
    let long = le-ltb (length (x ∷ y ∷ z ∷ xs)) 3 (omega arith) in
    rw (long, twisted 0x47 x, twisted 0x4C y, twisted 0x52 z) (by_cases (eqb z 0x52) (λ b. simp b) (λ b. simp b))

-- ---- the head of a layout
pub mark-laid : (ps : List (List ℕ)) → other_mark (capture_of ps) ≡ false
unfolding other_mark capture_of
mark-laid ps = simp (le-ltb (length (capture_of ps)) 3 (omega arith))

pub edition-laid : (ps : List (List ℕ)) → other_edition (capture_of ps) ≡ false
unfolding other_edition capture_of
edition-laid ps = simp (le-ltb (length (capture_of ps)) capture_head (omega arith))

five : (c : List ℕ) → capture_head ≤ length c → c ≡ byte_at c 0 ∷ byte_at c 1 ∷ byte_at c 2 ∷ byte_at c 3 ∷ byte_at c 4 ∷ drop capture_head c
five [] h = absurd (omega arith)
five (p ∷ []) h = absurd (omega arith)
five (p ∷ q ∷ []) h = absurd (omega arith)
five (p ∷ q ∷ r ∷ []) h = absurd (omega arith)
five (p ∷ q ∷ r ∷ s ∷ []) h = absurd (omega arith)
five (p ∷ q ∷ r ∷ s ∷ t ∷ xs) h = refl

-- a capture whose edition isn't refused has its whole head
pub edition_long : (c : List ℕ) → other_edition c ≡ false → capture_head ≤ length c
unfolding other_edition
edition_long c e = ltb-false (length c) capture_head (or-false (ltb (length c) capture_head) _ e).0

-- a head that isn't refused is the mark and version 1
pub head-laid : (c : List ℕ) → Bytes c → other_mark c ≡ false → other_edition c ≡ false → c ≡ 0x47 ∷ 0x4C ∷ 0x52 ∷ 0x00 ∷ 0x01 ∷ drop capture_head c
unfolding other_mark other_edition
head-laid c b m e =
    let long = or-false (ltb (length c) capture_head) _ e in
    let mark = and-true (eqb (byte_at c 0) 0x47) _ (not-false _ (or-false (ltb (length c) 3) _ m).1) in
    let rest = and-true (eqb (byte_at c 1) 0x4C) _ mark.1 in
    let version = eqb-true (word_at c 3) 1 (not-false _ long.1) in
    let p = eqb-true (byte_at c 0) 0x47 mark.0 in
    let q = eqb-true (byte_at c 1) 0x4C rest.0 in
    let r = eqb-true (byte_at c 2) 0x52 rest.1 in
    let s : byte_at c 3 ≡ 0 = omega (arith, b 3, b 4) in
    let t : byte_at c 4 ≡ 1 = omega (arith, b 3, b 4) in
    five c (edition_long c e) ∙ (cc)

-- ---- the head alone tells as much as the whole
same_test : (c : List ℕ) (n : ℕ) → n ≤ capture_head → ltb (length (take capture_head c)) n ≡ ltb (length c) n
same_test c n h =
    by_cases (ltb (length c) n)
    (λ b. lt-ltb (length (take capture_head c)) n (omega (arith, length-take capture_head c, ltb-true (length c) n b)) ∙ sym b)
    (λ b. le-ltb (length (take capture_head c)) n (omega (arith, length-take capture_head c, ltb-false (length c) n b)) ∙ sym b)

pub mark-taken : (c : List ℕ) → other_mark (take capture_head c) ≡ other_mark c
unfolding other_mark
mark-taken c =
    rw (same_test c 3 (omega arith), get_or-take capture_head c 0 0 (omega arith), get_or-take capture_head c 1 0 (omega arith), get_or-take capture_head c 2 0 (omega arith))

pub edition-taken : (c : List ℕ) → other_edition (take capture_head c) ≡ other_edition c
unfolding other_edition
edition-taken c = rw (same_test c capture_head (omega arith), get_or-take capture_head c 3 0 (omega arith), get_or-take capture_head c 4 0 (omega arith))
