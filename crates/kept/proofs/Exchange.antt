-- A prefix exchanged: what changes, what is kept, and the way back.
use mathlib.Core.Path.{◌≡◌, refl, sym, ap, ap₂, ◌∙◌, subst}
use mathlib.Core.Logic.{◌⊎◌, ◌≢◌, inl, inr, ⊎_elim}
use Prim.Native.Nat.{ℕ, suc, ◌+◌, ◌-◌, ◌/◌, ◌%◌, ◌<◌, ◌≤◌}
use native.Mathlib.Omega.{arith}
use native.Mathlib.Numerals.{add-one}
use mathlib.Core.List.{List, [], ◌∷◌, ◌++◌}
use mathlib.Core.Bool.{true, false, not}
use lib.ListN.{length}
use lib.Seq.{ext_get_or}
use lib.Dec.{ltb, eqb}
use borrow.Author.Tests.{ne_eqb, eqb-true, eqb-false, ltb-true, ltb-false, not-false}
use Rattle.verdicts.specs.Rules.{IsClear}
use Rattle.verdicts.specs.declared.Verdict.TheVariants.{Good}
use Rattle.verdicts.proofs.Tests.{by_cases}
use Rattle.verdicts.proofs.Rules.{clear_both, clear-join}
use Rattle.sums.specs.Total.{odd, total}
use Rattle.sums.proofs.Folds.{mod_plus}
use Rattle.sums.proofs.Totals.{weigh-append}
use Rattle.wire.specs.Bytes.{byte_at, word_at, part, put, put_word, Bytes}
use Rattle.wire.specs.Outer.{addresses_at, addresses_length}
use Rattle.wire.specs.Inner.{addresses_of}
use Rattle.wire.proofs.Parts.{part_length, part-byte, length-same, part-add, each, part-each}
use Rattle.wire.proofs.Writes.{Wrote, put-wrote, word-wrote, put-append, part-they}
use Rattle.wire.proofs.Same.{same_layout, four_same, whole_same}
use Rattle.cover.proofs.Around.{part-around}
use Rattle.judge.specs.Judge.{judge_of}
use Rattle.mend.specs.Fresh.{Sum, Fresh}
use Rattle.kept.specs.Edits.{edit_rules, side_at}
use Rattle.kept.specs.Prefix.{class, address_at, word_of, begins_with, six_rules, prefix_rules, prefix_new, prefix_left}
use Rattle.kept.specs.Runs.{prefix, apply, rules_of}
use Rattle.kept.proofs.Prefix.{with-length, keeps-tells, word_small, word_keeps, word-only, new-class, eight-total, prefix-tells, Exchanging, six-clear}
use Rattle.kept.proofs.Steps.{Kept}
use Rattle.kept.proofs.Single.{accepted-done, accepted-clear, edit-either, kept, still}

-- ---- what changes
-- no byte but the eight of prefix and word
pub prefix-only : (p : List ℕ) (side : ℕ) (expected new : List ℕ) (i : ℕ) → (i < side_at p side) ⊎ (side_at p side + 8 ≤ i)
    → byte_at (apply (prefix side expected new) p).1 i ≡ byte_at p i
prefix-only p side expected new i h =
    edit-either (prefix side expected new) p (λ q. byte_at q i ≡ byte_at p i) refl
    (λ c.
    let d = six-clear p side expected new c in
    let a = side_at p side in
    let k = d.packet.facts in
    let l = d.place in
    let n = with-length p a new (omega arith) d.size (word_of p a new) in
    let w = put-wrote p a (prefix_new p a new) (omega arith) in
    ⊎_elim (λ g. w.below i g) (λ g. w.above i (omega arith)) h)

-- ---- what is kept
-- the address's class, and so that of any pseudo-header: the addresses before whatever follows them
pub prefix-class : (p : List ℕ) (side : ℕ) (expected new : List ℕ)
    → class (address_at (apply (prefix side expected new) p).1 (side_at p side)) ≡ class (address_at p (side_at p side))
prefix-class p side expected new =
    edit-either (prefix side expected new) p (λ q. class (address_at q (side_at p side)) ≡ class (address_at p (side_at p side))) refl
    (λ c.
    let d = six-clear p side expected new c in
    let k = d.packet.facts in
    let l = d.place in
    eqb-true _ _ (word_keeps p (side_at p side) new (omega arith) d.size))

appended-class : (xs ys rest : List ℕ) → length xs ≡ length ys → class xs ≡ class ys → class (xs ++ rest) ≡ class (ys ++ rest)
appended-class xs ys rest l c = rw (weigh-append false xs rest, weigh-append false ys rest, l) (mod_plus (total xs) (total ys) _ _ c refl)

pub prefix-pseudo : (p : List ℕ) (side : ℕ) (expected new rest : List ℕ) → Bytes p → Bytes new
    → class (addresses_of (apply (prefix side expected new) p).1 ++ rest) ≡ class (addresses_of p ++ rest)
unfolding odd
prefix-pseudo p side expected new rest b bn =
    let at = side_at p side in
    edit-either (prefix side expected new) p (λ q. class (addresses_of q ++ rest) ≡ class (addresses_of p ++ rest)) refl
    (λ c.
    let d = six-clear p side expected new c in
    let k = d.packet.facts in
    let l = d.place in
    let fits : at + 16 ≤ length p = omega arith in
    let q = prefix_left p at new in
    let n = with-length p at new fits d.size (word_of p at new) in
    let w = put-wrote p at (prefix_new p at new) (omega arith) in
    let f = four_same (kept (prefix side expected new) p bn b c).same.header in
    let even : odd (at - addresses_at p) ≡ false = rw l.even in
    let m = part-around w (addresses_at p) (addresses_length p) (at - addresses_at p) (omega arith) (omega arith) (omega arith) in
    let x = rw (even, n) at m in
    rw f
    (appended-class (part q (addresses_at p) (addresses_length p)) (part p (addresses_at p) (addresses_length p)) rest (length-same p q (addresses_at p) (addresses_length p) w.long) (omega (arith, x, new-class p at new fits d.size))))

-- the verdict of every packet, good or bad
pub prefix-verdict-kept : (p : List ℕ) (side : ℕ) (expected new : List ℕ) → Bytes p → Bytes new
    → judge_of (apply (prefix side expected new) p).1 ≡ judge_of p
prefix-verdict-kept p side expected new b bn = (still (prefix side expected new) p bn b).judged

-- and a fresh field, without a write to it
pub prefix-fresh-kept : (p : List ℕ) (side : ℕ) (expected new : List ℕ) → Bytes p → Bytes new
    → (s : Sum) → Fresh s p → Fresh s (apply (prefix side expected new) p).1
prefix-fresh-kept p side expected new b bn = (still (prefix side expected new) p bn b).fresh

-- ---- the way back
-- q is p but for the eight bytes at a, whose class it has
module _ (p q : List ℕ) (a : ℕ) (b : Bytes p) (fits : a + 16 ≤ length p) (long : length q ≡ length p)
    (others : (i : ℕ) → (i < a) ⊎ (a + 8 ≤ i) → byte_at q i ≡ byte_at p i) (same : class (part q a 8) ≡ class (part p a 8))
    (word : word_at p (a + 6) ≢ 65535) where
  -- the word that p's own prefix asks for is p's
  word_back : word_of q a (part p a 6) ≡ word_at p (a + 6)
  word_back =
      let w = word_at p (a + 6) in
      let x = b (a + 6) in
      let y = b (a + 6 + 1) in
      let l : a + 16 ≤ length q = omega arith in
      let n = part_length p a 6 (omega arith) in
      sym (word-only q a (part p a 6) l n w (omega arith) ((keeps-tells q a (part p a 6) l n w).1 (omega (arith, same, eight-total p a fits))))

  eight-back : prefix_new q a (part p a 6) ≡ part p a 8
  eight-back =
      let x = b (a + 6) in
      let y = b (a + 6 + 1) in
      let two : each p (a + 6) 2 ≡ part p (a + 6) 2 = part-each p (a + 6) 2 (omega arith) in
      rw word_back
      (ap (λ (l : List ℕ). part p a 6 ++ l) (ap₂ (λ (x y : ℕ). x ∷ y ∷ []) (omega arith) (rw add-one (omega (arith, b (suc (a + 6))))) ∙ two) ∙ sym (part-add p a 6 2))

  pub restored : prefix_left q a (part p a 6) ≡ p
  restored =
      let n = part_length p a 8 (omega arith) in
      let w = put-wrote q a (part p a 8) (omega arith) in
      ap (put q a) eight-back
      ∙ ext_get_or 0 _ p (w.long ∙ long)
      (λ i l.
      by_cases (ltb i a)
      (λ t. let h = ltb-true i a t in w.below i h ∙ others i (inl h))
      (λ t. let h = ltb-false i a t in
      by_cases (ltb i (a + 8))
      (λ u. let j : i ≡ a + (i - a) = omega arith in let g = ltb-true i (a + 8) u in
      w.inside (i - a) i j (omega arith) ∙ part-byte p a 8 (i - a) (omega arith) ∙ ap (byte_at p) (sym j))
      (λ u. let g = ltb-false i (a + 8) u in w.above i (omega arith) ∙ others i (inr g))))

-- ---- an exchange that was accepted
module _ (p : List ℕ) (side : ℕ) (expected new : List ℕ) (c : IsClear (rules_of (prefix side expected new) p)) where
  abbrev a : ℕ
  a = side_at p side

  abbrev q : List ℕ
  q = prefix_left p a new

  known : Exchanging p side new
  known = six-clear p side expected new c

  fits : a + 16 ≤ length p
  fits = let k = known.packet.facts in let l = known.place in omega arith

  own : IsClear (prefix_rules p side expected new)
  own = (clear_both (six_rules p) (prefix_rules p side expected new) c).1

  -- the prefix that was expected is the one that stood there
  old-size : length expected ≡ 6
  old-size = eqb-true (length expected) 6 (not-false _ own.1.0)

  old-is : part p a 6 ≡ expected
  old-is =
      let r = (prefix-tells p a expected fits old-size).0 (not-false _ own.1.1.1.0) in
      let n = part_length p a 6 (omega (arith, fits)) in
      ext_get_or 0 (part p a 6) expected (n ∙ sym old-size) (λ i l. part-byte p a 6 i (omega arith) ∙ r i (omega (arith, old-size)))

  old-word : word_at p (a + 6) ≢ 65535
  old-word = eqb-false (word_at p (a + 6)) 65535 own.1.1.1.1.0

  -- the new one stands there, with its word behind it
  in_two : q ≡ put_word (put p a new) (a + 6) (word_of p a new)
  in_two = sym (ap (λ n. put_word (put p a new) (a + n) (word_of p a new)) (sym known.size) ∙ put-append p a new _)

  new_wrote : Wrote p (put p a new) a new
  new_wrote = put-wrote p a new (omega (arith, fits, known.size))

  word-wrote-there : Wrote (put p a new) q (a + 6) (word_of p a new / 256 ∷ word_of p a new % 256 ∷ [])
  word-wrote-there = rw in_two (put-wrote (put p a new) (a + 6) _ (omega (arith, fits, new_wrote.long)))

  module _ (b : Bytes p) (bn : Bytes new) where
    left : Kept false false p q a (prefix_new p a new)
    left = kept (prefix side expected new) p bn b c

    stands : begins_with (address_at q a) new ≡ true
    stands =
        let l = left.same.long in
        by_cases (begins_with (address_at q a) new)
        (λ t. t)
        (λ t.
        absurd ((prefix-tells q a new (omega (arith, fits)) known.size).1 t
        (λ i h. word-wrote-there.below (a + i) (omega (arith, known.size)) ∙ new_wrote.inside i (a + i) refl h)))

    -- so nothing refuses the way back
    six-same : six_rules q ≡ six_rules p
    unfolding edit_rules
    six-same =
        let s = left.same in
        rw (s.long, s.header.reads 0 (inl (omega arith)), whole_same (same_layout s), (left.message known.packet.whole).heard.silent)

    at_same : side_at q side ≡ a
    at_same = rw (four_same left.same.header)

    back-clear : IsClear (rules_of (prefix side new expected) q)
    back-clear =
        let w = word-wrote (word_of p a new) word-wrote-there in
        let begins = ap (λ x. not (begins_with (address_at q x) new)) at_same ∙ ap not stands in
        let other = ap (λ x. eqb (word_at q (x + 6)) 65535) at_same ∙ ne_eqb (word_at q (a + 6)) 65535 (λ e. omega (arith, word_small p a new fits known.size)) in
        clear-join (six_rules q) (prefix_rules q side new expected)
        (subst IsClear (sym six-same) (clear_both (six_rules p) (prefix_rules p side expected new) c).0) (own.0, (own.1.1.0, (own.1.0, (begins, (other, tt)))))

    back : prefix_left q (side_at q side) expected ≡ p
    back =
        let n = with-length p a new fits known.size (word_of p a new) in
        let w = put-wrote p a (prefix_new p a new) (omega (arith, fits)) in
        let same : class (part q a 8) ≡ class (part p a 8) =
        ap class (ap (part q a) (sym n) ∙ part-they w (omega (arith, fits))) ∙ new-class p a new fits known.size in
        ap₂ (prefix_left q) at_same (sym old-is)
        ∙ restored p q a b fits left.same.long (λ i. ⊎_elim (w.below i) (λ h. w.above i (omega arith))) same old-word

-- exchanging back restores the packet to the byte
pub prefix_back : (p : List ℕ) (side : ℕ) (expected new : List ℕ) → Bytes p → Bytes new → (apply (prefix side expected new) p).0 ≡ Good
    → apply (prefix side new expected) (apply (prefix side expected new) p).1 ≡ (Good, p)
prefix_back p side expected new b bn g =
    let c = accepted-clear (prefix side expected new) p g in
    rw (accepted-done (prefix side expected new) p c)
    (accepted-done (prefix side new expected) (q p side expected new c) (back-clear p side expected new c b bn) ∙ ap (λ (x : List ℕ). (Good, x)) (back p side expected new c b bn))

-- the same prefix again changes nothing
pub prefix_same : (p : List ℕ) (side : ℕ) (expected : List ℕ) → Bytes p → (apply (prefix side expected expected) p).1 ≡ p
prefix_same p side expected b =
    edit-either (prefix side expected expected) p (λ q. q ≡ p) refl
    (λ c.
    ap (prefix_left p (side_at p side)) (sym (old-is p side expected expected c))
    ∙ restored p p (side_at p side) b (fits p side expected expected c) refl (λ i h. refl) refl (old-word p side expected expected c))
