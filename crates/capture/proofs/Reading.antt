-- Laws of reading: what a record's head says, what some bytes begin with, and the records one after the other.
use Rattle.std.proofs.Common.{◌≡◌, refl, ap, ◌∙◌, ℕ, zero, suc, ◌+◌, ◌-◌, ◌≤◌, ◌<◌, arith, add-zero, List, [], ◌∷◌, length, take, drop, length-drop, get_or-drop}
use Rattle.std.specs.Prelude.{ltb, eqb, Some, None, Ok, Err}
use borrow.Author.Tests.{le-ltb, eq-eqb, ne_eqb, ltb-true, ltb-false, eqb-true}
use Rattle.verdicts.proofs.Tests.{by_cases}
use Rattle.wire.specs.Bytes.{word_at}
use Rattle.capture.specs.Records.{record_head, most, Head, damaged, head_of, held, front_of, packet, behind, Records, none, ruin, ◌before◌, going, read_by, read_of}

-- ---- what a record's head says, from the facts that lead to it
module _ (xs : List ℕ) where
  pub head-none : length xs ≡ 0 → head_of xs ≡ Ok None
  unfolding head_of
  head-none e = simp (eq-eqb (length xs) 0 e)

  module _ (there : record_head ≤ length xs) where
    pub head-packet : (n : ℕ) → n ≡ word_at xs 0 → n ≤ most → head_of xs ≡ Ok (Some n)
    unfolding head_of
    head-packet n e h =
        rw e (simp (ne_eqb (length xs) 0 (λ z. omega arith), le-ltb (length xs) record_head there, le-ltb most (word_at xs 0) (omega arith)))

-- a head that is there, and says how long its packet is
pub record Headed (xs : List ℕ) (n : ℕ) : Type 0 where
  pub head : head_of xs ≡ Ok (Some n)
  pub size : n ≡ word_at xs 0
  pub small : n ≤ most
  pub there : record_head ≤ length xs

-- what each answer tells
abbrev pub Says : List ℕ → Head → Type 0
Says xs (Ok None) = length xs ≡ 0
Says xs (Err d) = Unit
Says xs (Ok (Some n)) = Headed xs n

pub head-says : (xs : List ℕ) → Says xs (head_of xs)
unfolding head_of
head-says xs =
    by_cases (eqb (length xs) 0)
    (λ z. simp z (eqb-true (length xs) 0 z))
    (λ z.
    by_cases (ltb (length xs) record_head)
    (λ c. simp (z, c) tt)
    (λ c.
    let there = ltb-false (length xs) record_head c in
    by_cases (ltb most (word_at xs 0))
    (λ l. simp (z, c, l) tt)
    (λ l.
    let small = ltb-false most (word_at xs 0) l in
    simp (z, c, l) (record { head = head-packet xs there _ refl small; size = refl; small = small; there = there }))))

-- ---- a head at a place
module _ (xs : List ℕ) (at : ℕ) where
  pub length_here : length (drop at xs) ≡ length xs - at
  length_here = length-drop at xs

  pub word_here : word_at (drop at xs) 0 ≡ word_at xs at
  word_here = simp (get_or-drop, add-zero)

  pub head_there : {n : ℕ} → head_of (drop at xs) ≡ Ok (Some n) → at + record_head ≤ length xs
  head_there e = omega (arith, length-drop at xs, (rw e at (head-says (drop at xs))).there)

-- the head's own bytes tell as much as all
pub head-taken : (xs : List ℕ) → head_of (take record_head xs) ≡ head_of xs
unfolding head_of
head-taken [] = refl
head-taken (x ∷ []) = refl
head-taken (x ∷ y ∷ xs) = rw (ne_eqb (length (x ∷ y ∷ xs)) 0 (λ e. omega arith), le-ltb (length (x ∷ y ∷ xs)) record_head (omega arith))

-- ---- what some bytes begin with
pub front-none : (xs : List ℕ) → length xs ≡ 0 → front_of xs ≡ Ok None
front-none xs e = rw (head-none xs e)

module _ (xs : List ℕ) (n : ℕ) (e : head_of xs ≡ Ok (Some n)) where
  pub front_whole : record_head + n ≤ length xs → front_of xs ≡ Ok (Some n)
  front_whole h = simp (e, le-ltb (length xs) (record_head + n) h)

-- what is damaged: the head, or the packet, which is cut
pub data Damage (xs : List ℕ) : Type 0 where
  in_head : head_of xs ≡ Err damaged → Damage xs
  in-packet : (n : ℕ) → Headed xs n → length xs < record_head + n → Damage xs

-- what each beginning tells
abbrev pub Begins : List ℕ → Head → Type 0
Begins xs (Ok None) = length xs ≡ 0
Begins xs (Err d) = Damage xs
Begins xs (Ok (Some n)) = Headed xs n × (record_head + n ≤ length xs)

begins-by : (xs : List ℕ) (h : Head) → head_of xs ≡ h → Says xs h → Begins xs (held (length xs) h)
begins-by xs (Ok None) e z = z
begins-by xs (Err d) e u = in_head e
begins-by xs (Ok (Some n)) e k =
    by_cases (ltb (length xs) (record_head + n))
    (λ c. simp c (in-packet n k (ltb-true (length xs) (record_head + n) c)))
    (λ c. simp c (k, ltb-false (length xs) (record_head + n) c))

pub begins : (xs : List ℕ) → Begins xs (front_of xs)
begins xs = begins-by xs (head_of xs) refl (head-says xs)

-- ---- the records one after the other
same-going : (f : Head) (a b : ℕ → Records) → ((n : ℕ) → f ≡ Ok (Some n) → a n ≡ b n) → going f a ≡ going f b
same-going (Ok None) a b e = refl
same-going (Err d) a b e = refl
same-going (Ok (Some n)) a b e = e n refl

-- as many turns as bytes are enough
enough : (j k : ℕ) (xs : List ℕ) → length xs ≤ j → length xs ≤ k → read_by j xs ≡ read_by k xs
unfolding read_by
enough zero zero xs h l = refl
enough zero (suc k) xs h l = rw (front-none xs (omega arith))
enough (suc j) zero xs h l = rw (front-none xs (omega arith))
enough (suc j) (suc k) xs h l =
    same-going (front_of xs) _ _ (λ n e. ap (λ r. packet xs n before r) (enough j k (behind xs n) (rw length-drop (omega arith)) (rw length-drop (omega arith))))

pub read_step : (xs : List ℕ) → read_of xs ≡ going (front_of xs) (λ n. packet xs n before read_of (behind xs n))
unfolding read_of read_by
read_step xs =
    enough (length xs) (suc (length xs)) xs (omega arith) (omega arith)
    ∙ same-going (front_of xs) _ _
    (λ n e. ap (λ r. packet xs n before r) (enough (length xs) (length (behind xs n)) (behind xs n) (rw length-drop (omega arith)) (omega arith)))

-- what holds of the end, of damage, and of a record before what it holds of, holds of all that is read
module _ (P : List ℕ → Records → Type 0)
    (end : (xs : List ℕ) → length xs ≡ 0 → P xs none)
    (break : (xs : List ℕ) → Damage xs → P xs ruin)
    (more : (xs : List ℕ) (n : ℕ) → Headed xs n → record_head + n ≤ length xs → P (behind xs n) (read_of (behind xs n)) → P xs (packet xs n before read_of (behind xs n))) where
  turn : (xs : List ℕ) (f : Head) → Begins xs f → front_of xs ≡ f → ((n : ℕ) → P (behind xs n) (read_of (behind xs n))) → P xs (read_of xs)
  turn xs (Ok None) z e on = rw (read_step xs, e) (end xs z)
  turn xs (Err d) g e on = rw (read_step xs, e) (break xs g)
  turn xs (Ok (Some n)) w e on = rw (read_step xs, e) (more xs n w.0 w.1 (on n))

  by_length : (k : ℕ) (xs : List ℕ) → length xs ≤ k → P xs (read_of xs)
  by_length zero xs h = let z : length xs ≡ 0 = omega arith in rw (read_step xs, front-none xs z) (end xs z)
  by_length (suc k) xs h = turn xs (front_of xs) (begins xs) refl (λ n. by_length k (behind xs n) (rw length-drop (omega arith)))

  pub by-reading : (xs : List ℕ) → P xs (read_of xs)
  by-reading xs = by_length (length xs) xs (omega arith)
