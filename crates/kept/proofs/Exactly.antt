-- Each answer of an edit comes exactly in its stated case.
use mathlib.Core.Path.{◌≡◌, refl, sym, ap, ◌∙◌}
use mathlib.Core.Logic.{◌↔◌, ◌⊎◌, ◌≢◌, inl, inr, ⊎_elim}
use Prim.Native.Nat.{ℕ, zero, suc, ◌+◌, ◌-◌, ◌<◌, ◌≤◌}
use native.Mathlib.Omega.{arith}
use native.Mathlib.Decide.{ℕ_discrete}
use mathlib.Core.List.{List, [], ◌∷◌}
use mathlib.Core.Bool.{Bool, true, false, not, ◌&&◌, ◌||◌, true≢false}
use lib.ListN.{length}
use lib.Dec.{ltb, eqb}
use borrow.Author.Tests.{eqb-true, ltb-false, not-false}
use Rattle.verdicts.specs.Rules.{IsClear, Comes}
use Rattle.verdicts.specs.declared.Verdict.{Verdict}
use Rattle.verdicts.proofs.Tests.{by_cases}
use Rattle.verdicts.proofs.Rules.{clear_both}
use Rattle.verdicts.proofs.Calls.{call-answers}
use Rattle.verdicts.proofs.Telling.{Tells, eqb_tells, ltb-tells, not-tells, and-tells, or-tells, as-tells, Told, next, told-append, told-exactly}
use Rattle.wire.specs.Bytes.{byte_at, word_at, part, put, put_word}
use Rattle.wire.specs.Outer.{four, version_of, lifetime_at, address_size, outer_rules}
use Rattle.wire.specs.Inner.{protocol_of, start_of, end_of, length_of, field_at, body_of, whole_rules}
use Rattle.wire.proofs.Parts.{part_length, part-byte}
use Rattle.wire.proofs.Facts.{OuterFacts, Facts, outer-facts}
use Rattle.wire.proofs.Writes.{put-wrote, unwritten}
use Rattle.wire.proofs.Held.{whole-facts}
use Rattle.judge.specs.Judge.{missing_rule}
use Rattle.judge.specs.Cases.{outer_cases, whole_cases, missing_case}
use Rattle.judge.proofs.Accepts.{shaped}
use Rattle.judge.proofs.Exactly.{outer_told, whole-told, missing-told}
use Rattle.kept.specs.Edits.{edit_rules, lifetime_rules, side_at, address_rules, all_zero, blank, stretch_rules}
use Rattle.kept.specs.Prefix.{address_at, six_rules, begins_with, prefix_rules}
use Rattle.kept.specs.Runs.{Edit, lifetime, address, stretch, prefix, apply, rules_of}
use Rattle.kept.specs.Cases.{edit_cases, lifetime_cases, address_cases, Zeros, stretch_cases, six_cases, prefix_cases, cases_of}
use Rattle.kept.proofs.Prefix.{side-in, prefix-tells}
use Rattle.kept.proofs.Single.{made, apply-as}

-- ---- all zeros
pub zero-tells : (xs : List ℕ) → Tells (all_zero xs) ((i : ℕ) → i < length xs → byte_at xs i ≡ 0)
zero-tells [] = (λ e i h. absurd (omega arith), λ e n. true≢false e)
zero-tells (x ∷ xs) =
    as-tells (and-tells (eqb x 0) (all_zero xs) (eqb_tells x 0) (zero-tells xs))
    (λ z i h. at z i h)
    (λ n. (n 0 (omega arith), λ i h. n (suc i) (omega arith)))
  where
    at : (x ≡ 0) × ((i : ℕ) → i < length xs → byte_at xs i ≡ 0) → (i : ℕ) → i < suc (length xs) → byte_at (x ∷ xs) i ≡ 0
    at z zero h = z.0
    at z (suc i) h = z.1 i (omega arith)

-- the message of p's layout in q, its field read as 0000
module _ (p q : List ℕ) (k : Facts p) (l : length q ≡ length p) where
  blank-tells : Tells (blank p q) (Zeros p q)
  unfolding blank
  blank-tells =
      let r = put_word q (field_at p) 0 in
      let w = put-wrote q (field_at p) (0 ∷ 0 ∷ []) (omega arith) in
      let n : length (part r (start_of p) (length_of p)) ≡ length_of p = part_length r (start_of p) (length_of p) (let e = w.long in omega arith) in
      as-tells (zero-tells (part r (start_of p) (length_of p)))
      (λ z i low high a b.
      let j = i - start_of p in
      let e : start_of p + j ≡ i = omega arith in
      sym (unwritten w i (λ x y. elim (ℕ_discrete i (field_at p)) [ yes f ↦ a f | no f ↦ b (omega arith) ]))
      ∙ ap (byte_at r) (sym e) ∙ sym (part-byte r (start_of p) (length_of p) j (omega arith)) ∙ z j (omega arith))
      (λ z j h.
      let i = start_of p + j in
      part-byte r (start_of p) (length_of p) j (omega arith)
      ∙ elim (ℕ_discrete i (field_at p)) [
        | yes f ↦ w.inside 0 i (omega arith) (omega arith)
        | no f ↦ elim (ℕ_discrete i (field_at p + 1)) [
          | yes g ↦ w.inside 1 i g (omega arith)
          | no g ↦ unwritten w i (λ x y. g (omega arith)) ∙ z i (omega arith) (omega arith) f g
        ]
      ])

-- ---- the lifetime's own rule, where no outer one refuses
module _ (p : List ℕ) (k : OuterFacts p) where
  -- a test by family
  family-tells : {A B : Type 0} (b : Bool) → (four p ≡ true → Tells b A) → (four p ≡ false → Tells b B)
      → Tells b (((version_of p ≡ 4) × A) ⊎ ((version_of p ≡ 6) × B))
  family-tells b t u =
      by_cases (four p)
      (λ f. let v = eqb-true (version_of p) 4 f in as-tells (t f) (λ h. inl (v, h)) (⊎_elim (λ h. h.1) (λ h. absurd (omega arith))))
      (λ f. let v = (k.six f).1 in as-tells (u f) (λ h. inr (v, h)) (⊎_elim (λ h. absurd (omega arith)) (λ h. h.1)))

  lifetime-told : Told (lifetime_rules p) (lifetime_cases p)
  lifetime-told =
      next (family-tells (ltb (byte_at p (lifetime_at p)) 2) (λ f. simp f (ltb-tells (byte_at p 8) 2)) (λ f. simp f (ltb-tells (byte_at p 7) 2)), refl) λ e. tt

-- ---- and those of address and stretch, where no common one does
size-tells : (n size : ℕ) → Tells (not (eqb n size)) (n ≢ size)
size-tells n size = not-tells (eqb n size) (eqb_tells n size)

side-tells : (side : ℕ) → Tells (not (eqb side 0 || eqb side 1)) ((side ≢ 0) × (side ≢ 1))
side-tells side =
    as-tells (not-tells (eqb side 0 || eqb side 1) (or-tells (eqb side 0) (eqb side 1) (eqb_tells side 0) (eqb_tells side 1)))
    (λ n. (λ e. n (inl e), λ e. n (inr e))) (λ n. ⊎_elim n.0 n.1)

module _ (p : List ℕ) (c : IsClear (edit_rules p)) where
  known : Facts p
  unfolding edit_rules
  known = whole-facts p (clear_both (whole_rules p) (missing_rule p) c).0

  address-told : (side : ℕ) (new : List ℕ) → Told (address_rules p side new) (address_cases p side new)
  address-told side new =
      next (side-tells side, refl) λ a.
      next (family-tells p known.outer (not (eqb (length new) (address_size p))) (λ f. simp f (size-tells (length new) 4)) (λ f. simp f (size-tells (length new) 16)), refl) λ b.
      tt

  stretch-told : (place : ℕ) (new : List ℕ) → Told (stretch_rules p place new) (stretch_cases p place new)
  stretch-told place new =
      let k = known in
      let q = put p (body_of p + place) new in
      next (ltb-tells (end_of p - body_of p) (place + length new), refl) λ a.
      let fits = ltb-false (end_of p - body_of p) (place + length new) a in
      next (
        as-tells
            (and-tells (eqb (protocol_of p) 1 && not (eqb (length new) 0)) (blank p p || blank p q)
            (and-tells (eqb (protocol_of p) 1) (not (eqb (length new) 0)) (eqb_tells (protocol_of p) 1) (size-tells (length new) 0))
            (or-tells (blank p p) (blank p q) (blank-tells p p k refl) (blank-tells p q k (put-wrote p (body_of p + place) new (omega arith)).long)))
            (λ h. (h.0.0, h.0.1, h.1)) (λ h. ((h.0, h.1), h.2)),
        refl,
      ) λ b.
      tt

-- ---- and a prefix's
prefix-told : (p : List ℕ) (side : ℕ) (expected new : List ℕ) → side_at p side + 16 ≤ length p → Told (prefix_rules p side expected new) (prefix_cases p side expected new)
prefix-told p side expected new fits =
    let a = side_at p side in
    next (side-tells side, refl) λ s.
    next (size-tells (length expected) 6, refl) λ x.
    next (size-tells (length new) 6, refl) λ y.
    let n : length expected ≡ 6 = eqb-true (length expected) 6 (not-false (eqb (length expected) 6) x) in
    next (not-tells (begins_with (address_at p a) expected) (prefix-tells p a expected fits n), refl) λ b.
    next (eqb_tells (word_at p (a + 6)) 65535, refl) λ w.
    tt

-- ---- all of them
edit-told : (p : List ℕ) → Told (edit_rules p) (edit_cases p)
unfolding edit_rules
edit-told p =
    told-append (whole_rules p) (missing_rule p) (whole_cases p) (missing_case p) (whole-told p)
    (λ w. let s = shaped p w in missing-told p s.outer s.inner)

six-told : (p : List ℕ) → Told (six_rules p) (six_cases p)
six-told p =
    next (eqb_tells (length p) 0, refl) λ e.
    next (size-tells (version_of p) 6, refl) λ v.
    edit-told p

told : (e : Edit) (p : List ℕ) → Told (rules_of e p) (cases_of e p)
told lifetime p =
    told-append (outer_rules p) (lifetime_rules p) (outer_cases p) (lifetime_cases p) (outer_told p) (λ c. lifetime-told p (outer-facts p c))
told (address side new) p =
    told-append (edit_rules p) (address_rules p side new) (edit_cases p) (address_cases p side new) (edit-told p) (λ c. address-told p c side new)
told (stretch place new) p =
    told-append (edit_rules p) (stretch_rules p place new) (edit_cases p) (stretch_cases p place new) (edit-told p) (λ c. stretch-told p c place new)
told (prefix side expected new) p =
    told-append (six_rules p) (prefix_rules p side expected new) (six_cases p) (prefix_cases p side expected new) (six-told p)
    (λ c. prefix-told p side expected new (side-in p c side))

-- each refusal comes exactly in its case, in the paper's order, and good where there is none
pub edit-exactly : (e : Edit) (p : List ℕ) (v : Verdict) → ((apply e p).0 ≡ v) ↔ Comes (cases_of e p) v
edit-exactly e p v = rw (apply-as e p, call-answers (rules_of e p) p (made e p)) (told-exactly (rules_of e p) (cases_of e p) (told e p) v)
