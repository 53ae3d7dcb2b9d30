-- The word behind an exchanged prefix: it is there, it is the only one, and with it the message's class is kept.
use mathlib.Core.Path.{◌≡◌, refl, sym, ap, ◌∙◌}
use mathlib.Core.Logic.{◌↔◌, inl}
use Prim.Native.Nat.{ℕ, zero, suc, ◌+◌, ◌-◌, ◌/◌, ◌%◌, ◌<◌, ◌≤◌}
use native.Mathlib.Omega.{arith}
use mathlib.Core.List.{List, [], ◌∷◌, ◌++◌}
use mathlib.Core.Bool.{Bool, true, false, true≢false}
use lib.ListN.{length, length-append}
use lib.Dec.{eqb}
use borrow.Author.Tests.{eqb-true, eq-eqb, not-false}
use Rattle.verdicts.specs.Rules.{IsClear}
use Rattle.verdicts.proofs.Tests.{by_cases}
use Rattle.verdicts.proofs.Rules.{clear_both}
use Rattle.verdicts.proofs.Telling.{Tells, yes-tells, eqb_tells, and-tells, as-tells}
use Rattle.sums.specs.Total.{odd, weigh, total}
use Rattle.sums.proofs.Totals.{weigh-even}
use Rattle.wire.specs.Bytes.{byte_at, word_at, part, put, Bytes}
use Rattle.wire.specs.Outer.{four, six, version_of, addresses_at, outer_rules}
use Rattle.wire.specs.Walk.{walk_rules}
use Rattle.wire.specs.Inner.{field_at, message_rules, whole_rules}
use Rattle.wire.proofs.Parts.{part_length, part-byte, part-add, bytes-append}
use Rattle.wire.proofs.Writes.{bytes_word, bytes-wrote, put-wrote, word-above}
use Rattle.wire.proofs.Held.{pseudo-six}
use Rattle.wire.proofs.Same.{same_self, same_step, soft-header}
use Rattle.cover.proofs.Around.{part-around, word-weigh}
use Rattle.cover.proofs.Blocks.{message-address}
use Rattle.judge.proofs.Kept.{Accepted}
use Rattle.mend.proofs.Mending.{outside}
use Rattle.kept.specs.Edits.{Addressed, side_at}
use Rattle.kept.specs.Prefix.{class, address_at, with_word, keeps_class, one_below, word_of, begins_with, six_rules, prefix_rules, prefix_new, prefix_left}
use Rattle.kept.specs.Cases.{Reads}
use Rattle.kept.proofs.Done.{header-none, message-class}
use Rattle.kept.proofs.Sides.{side-fits}
use Rattle.kept.proofs.Steps.{accepted, Kept}

-- ---- the one below
one_below-is : (n : ℕ) (test : ℕ → Bool) (w : ℕ) → w < n → test w ≡ true → ((v : ℕ) → v < n → test v ≡ true → v ≡ w) → one_below n test ≡ w
unfolding one_below
one_below-is zero test w l t u = absurd (omega arith)
one_below-is (suc n) test w l t u =
    by_cases (test n)
    (λ e. simp e (u n (omega arith) e))
    (λ e.
    let k : ¬ (w ≡ n) = λ h. true≢false (sym t ∙ ap test h ∙ e) in
    simp e (one_below-is n test w (omega arith) t (λ v h. u v (omega arith))))

-- ---- the word behind a new prefix of six bytes
module _ (p : List ℕ) (a : ℕ) (new : List ℕ) (fits : a + 16 ≤ length p) (six : length new ≡ 6) where
  pub with-length : (w : ℕ) → length (with_word new w) ≡ 8
  with-length w = length-append new (w / 256 ∷ w % 256 ∷ []) ∙ omega arith

  pub with-total : (w : ℕ) → total (with_word new w) ≡ total new + w
  unfolding odd weigh
  with-total w =
      let e : odd (length new) ≡ false = rw six refl in
      weigh-even false new (w / 256 ∷ w % 256 ∷ []) e ∙ omega arith

  -- in numbers: what is written has the class of what it is written over
  pub keeps-tells : (w : ℕ) → (keeps_class p a new w ≡ true) ↔ ((total new + w) % 65535 ≡ class (part p a 8))
  unfolding odd
  keeps-tells w =
      let n = with-length w in
      let even : odd 0 ≡ false = refl in
      let m : total (address_at (put p a (with_word new w)) a) + total (part p a 8) ≡ total (address_at p a) + (total new + w) =
      rw (even, n, with-total w) at (part-around (put-wrote p a (with_word new w) (omega arith)) a 16 0 (omega arith) (omega arith) fits) in
      let after = total (address_at (put p a (with_word new w)) a) in
      let before = total (address_at p a) in
      (λ t. let c = eqb-true (after % 65535) (before % 65535) t in omega (arith, m, c), λ c. eq-eqb (after % 65535) (before % 65535) (omega (arith, m, c)))

  abbrev remainder : ℕ
  remainder = (total (part p a 8) + (65535 - total new % 65535)) % 65535

  -- it is the remainder that is missing, so one value keeps the class, and no other
  pub word-as : word_of p a new ≡ remainder
  unfolding word_of
  word-as =
      one_below-is 65535 (keeps_class p a new) remainder (omega arith) ((keeps-tells remainder).1 (omega arith))
      (λ v l t. let c = (keeps-tells v).0 t in omega arith)

  pub word_small : word_of p a new < 65535
  word_small = omega (arith, word-as)

  pub word_keeps : keeps_class p a new (word_of p a new) ≡ true
  word_keeps = (keeps-tells (word_of p a new)).1 (rw word-as (omega arith))

  pub word-only : (w : ℕ) → w < 65535 → keeps_class p a new w ≡ true → w ≡ word_of p a new
  word-only w l t = let c = (keeps-tells w).0 t in omega (arith, word-as)

  -- of the values 0000 to FFFE exactly one
  pub word-exactly : (w : ℕ) → ((w < 65535) × (keeps_class p a new w ≡ true)) ↔ (w ≡ word_of p a new)
  word-exactly w = (λ h. word-only w h.0 h.1, λ e. (rw e word_small, rw e word_keeps))

  pub new-class : class (prefix_new p a new) ≡ class (part p a 8)
  new-class = ap (λ n. n % 65535) (with-total (word_of p a new)) ∙ (keeps-tells (word_of p a new)).0 word_keeps

-- what stands there: a prefix and its word
pub eight-total : (p : List ℕ) (a : ℕ) → a + 16 ≤ length p → total (part p a 8) ≡ total (part p a 6) + word_at p (a + 6)
unfolding odd
eight-total p a fits =
    let n : odd (length (part p a 6)) ≡ false = rw (part_length p a 6 (omega arith)) in
    ap total (part-add p a 6 2) ∙ weigh-even false (part p a 6) (part p (a + 6) 2) n
    ∙ ap (λ w. total (part p a 6) + w) (word-weigh p (a + 6) 0 refl (omega arith))

-- ---- the prefix that is expected
begins-tells : (xs ys : List ℕ) → length ys ≤ length xs → Tells (begins_with xs ys) ((i : ℕ) → i < length ys → byte_at xs i ≡ byte_at ys i)
begins-tells xs [] l = yes-tells (λ i h. absurd (omega arith))
begins-tells [] (y ∷ ys) l = absurd (omega arith)
begins-tells (x ∷ xs) (y ∷ ys) l =
    as-tells (and-tells (eqb x y) (begins_with xs ys) (eqb_tells x y) (begins-tells xs ys (omega arith)))
    (λ z i h. at z i h)
    (λ n. (n 0 (omega arith), λ i h. n (suc i) (omega arith)))
  where
    at : (x ≡ y) × ((i : ℕ) → i < length ys → byte_at xs i ≡ byte_at ys i) → (i : ℕ) → i < suc (length ys) → byte_at (x ∷ xs) i ≡ byte_at (y ∷ ys) i
    at z zero h = z.0
    at z (suc i) h = z.1 i (omega arith)

-- the address at a begins with those bytes
pub prefix-tells : (p : List ℕ) (a : ℕ) (expected : List ℕ) → a + 16 ≤ length p → length expected ≡ 6 → Tells (begins_with (address_at p a) expected) (Reads p a expected)
prefix-tells p a expected fits n =
    as-tells (begins-tells (address_at p a) expected (omega (arith, part_length p a 16 fits)))
    (λ r i l. sym (part-byte p a 16 i (omega arith)) ∙ r i l) (λ r i l. part-byte p a 16 i (omega arith) ∙ r i l)

-- ---- what is known where no rule refuses
pub record Exchanging (p : List ℕ) (side : ℕ) (new : List ℕ) : Type 0 where
  pub packet : Accepted p
  pub six : four p ≡ false
  pub place : Addressed p (side_at p side) 16
  pub size : length new ≡ 6

-- by the common rules alone the packet is IPv6's, and has both addresses
module _ (p : List ℕ) (c : IsClear (six_rules p)) where
  is-six : four p ≡ false
  is-six = let v = eqb-true (version_of p) 6 (not-false (six p) c.1.0) in rw v

  pub in_place : (side : ℕ) → Addressed p (side_at p side) 16
  in_place side = side-fits p side 16 (rw is-six)

  pub side-in : (side : ℕ) → side_at p side + 16 ≤ length p
  side-in side = let k = (accepted p c.1.1).facts in let l = in_place side in omega arith

pub six-clear : (p : List ℕ) (side : ℕ) (expected new : List ℕ) → IsClear (six_rules p ++ prefix_rules p side expected new) → Exchanging p side new
six-clear p side expected new c =
    let d = clear_both (six_rules p) (prefix_rules p side expected new) c in
    record {
      packet = accepted p d.0.1.1;
      six = is-six p d.0;
      place = in_place p d.0 side;
      size = eqb-true (length new) 6 (not-false (eqb (length new) 6) d.1.1.1.0);
    }

-- what the edit leaves: no sum is updated
module _ (p : List ℕ) (by : Bytes p) (c : Accepted p) (f : four p ≡ false) (a : ℕ) (l : Addressed p a 16) (new : List ℕ) (bn : Bytes new) (six : length new ≡ 6) where
  pub prefix-step : Kept false false p (prefix_left p a new) a (prefix_new p a new)
  unfolding whole_rules odd
  prefix-step =
      let k = c.facts in
      let at8 : 8 ≤ addresses_at p = rw f (omega arith) in
      let fits : a + 16 ≤ length p = omega arith in
      let z = same_self p in
      let n = with-length p a new fits six (word_of p a new) in
      let w = put-wrote p a (prefix_new p a new) (omega arith) in
      let s = same_step z w (soft-header k.outer a (length (prefix_new p a new)) (omega arith) (omega arith) (λ g. absurd (true≢false (sym g ∙ f)))) in
      let r = clear_both (outer_rules p) (walk_rules p ++ message_rules p) c.whole in
      let t = pseudo-six p r.0 (clear_both (walk_rules p) (message_rules p) r.1).1 f in
      let m = message-address k z s w (a - addresses_at p) t (omega arith) (omega arith) in
      let even : odd (a - addresses_at p) ≡ false = rw l.even in
      let m0 : _ = rw (even, n) at m in
      record {
        same = s;
        bytes = bytes-wrote w by (bytes-append new _ bn (bytes_word (word_of p a new) (omega (arith, word_small p a new fits six))));
        header = header-none s f;
        message = λ c. message-class k s (omega (arith, new-class p a new fits six)) (word-above w (field_at p) (omega arith)) t;
        others = λ i o. refl;
        apart = λ i g j. outside p i (λ h. absurd (true≢false (sym h ∙ f))) (inl (omega arith));
        fits = omega arith;
      }
