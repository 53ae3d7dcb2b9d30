-- No edit reads the tail: packets that agree up to it are answered alike, and agree up to it afterwards.
use mathlib.Core.Path.{◌≡◌, refl, sym, ap, ◌∙◌}
use Prim.Native.Nat.{ℕ, ◌+◌, ◌-◌, ◌≤◌}
use native.Mathlib.Omega.{arith}
use mathlib.Core.List.{List, [], ◌∷◌}
use lib.ListN.{length}
use lib.Dec.{eqb}
use borrow.Author.Tests.{ltb-false, ne_eqb}
use Rattle.verdicts.specs.Rules.{IsClear}
use Rattle.verdicts.proofs.Tests.{by_cases}
use Rattle.verdicts.proofs.Rules.{clear_both}
use Rattle.verdicts.proofs.Calls.{RulesAlike, alike_self, alike-append, calls-alike}
use Rattle.wire.specs.Bytes.{byte_at, word_at, Bytes}
use Rattle.wire.specs.Outer.{four, header_field, lifetime_at, addresses_at}
use Rattle.wire.specs.Inner.{start_of, end_of, length_of, field_at, body_of, pseudo, silent_of, whole_rules, tail_at, UpToTail}
use Rattle.wire.proofs.Facts.{outer-facts}
use Rattle.wire.proofs.Writes.{Agree, agree-put, agree-part, agree-word}
use Rattle.wire.proofs.Same.{four_same, field-same, udp-same, start-same, end_same, body_same, pseudo-same, protocol-same, whole_same}
use Rattle.wire.proofs.Held.{clear-carries, whole-facts}
use Rattle.wire.proofs.Tails.{tail-end, tail-order, tail-layout, tail-agree, tail-still}
use Rattle.judge.specs.Judge.{missing_rule}
use Rattle.judge.proofs.Tail.{tail-silent}
use Rattle.kept.specs.Update.{updated_at, header_after, message_after}
use Rattle.kept.specs.Edits.{lowered, edit_rules, side_at, address_rules, all_zero, blank, stretch_rules}
use Rattle.kept.specs.Prefix.{address_at, word_of, six_rules, prefix_rules, prefix_new}
use Rattle.kept.specs.Runs.{Edit, lifetime, address, stretch, prefix, apply, run, rules_of, Fit, Fits}
use Rattle.kept.proofs.Steps.{accepted}
use Rattle.kept.proofs.Prefix.{word-as, six-clear, in_place}
use Rattle.kept.proofs.Single.{made, apply-as, before-tail, still}

module _ {p q : List ℕ} (a : UpToTail p q) where
  agree : Agree (tail_at p) p q
  agree = tail-agree a

  -- ---- the fields
  updated-alike : (f pos at : ℕ) (new : List ℕ) → f + 2 ≤ tail_at p → at + length new ≤ tail_at p → updated_at q f pos at new ≡ updated_at p f pos at new
  unfolding updated_at
  updated-alike f pos at new h l = rw (agree-word agree f h, agree-part agree at (length new) l)

  header-alike : (at : ℕ) (new : List ℕ) {x y : List ℕ} → at + length new ≤ tail_at p → Agree (tail_at p) x y
      → Agree (tail_at p) (header_after p at new x) (header_after q at new y)
  unfolding header_after
  header-alike at new l g =
      let k = outer-facts p a.outer in
      let o = tail-order k in
      rw (four_same (tail-layout a).header, updated-alike header_field at at new (omega arith) l)
      (by_cases (four p) (λ f. simp f (agree-put g header_field _ (omega arith))) (λ f. simp f g))

  module _ (w : IsClear (whole_rules p)) where
    field_in : field_at p + 2 ≤ tail_at p
    field_in = let k = whole-facts p w in omega (arith, tail-end p (clear-carries p w))

    message-alike : (pos at : ℕ) (new : List ℕ) {x y : List ℕ} → at + length new ≤ tail_at p → Agree (tail_at p) x y
        → Agree (tail_at p) (message_after p pos at new x) (message_after q pos at new y)
    unfolding message_after
    message-alike pos at new l g =
        let h = (tail-layout a).header in
        rw (tail-silent a w, udp-same h, field-same h, updated-alike (field_at p) pos at new field_in l)
        (by_cases (silent_of p) (λ s. simp s g) (λ s. simp s (agree-put g (field_at p) _ field_in)))

    -- ---- the rules behind those of the shape
    blank-alike : {x y : List ℕ} → Agree (tail_at p) x y → blank q y ≡ blank p x
    unfolding blank
    blank-alike g =
        let h = (tail-layout a).header in
        let k = whole-facts p w in
        rw (field-same h, start-same h, end_same (tail-layout a))
        (ap all_zero (agree-part (agree-put g (field_at p) (0 ∷ 0 ∷ []) field_in) (start_of p) (length_of p) (omega (arith, tail-end p (clear-carries p w)))))

    missing-alike : RulesAlike (missing_rule p) (missing_rule q)
    missing-alike = (rw (tail-silent a w, four_same (tail-layout a).header), refl, λ f. tt)

    -- what a stretch that fits would make blank
    stretch-alike : (place : ℕ) (new : List ℕ) → RulesAlike (stretch_rules p place new) (stretch_rules q place new)
    stretch-alike place new =
        let h = (tail-layout a).header in
        let k = whole-facts p w in
        let b = body_same (tail-layout a) in (
          rw (end_same (tail-layout a), b),
          refl,
          λ f.
              let l = ltb-false (end_of p - body_of p) (place + length new) f in
              let g = agree-put agree (body_of p + place) new (omega (arith, tail-end p (clear-carries p w))) in
              (rw (protocol-same h, b, blank-alike agree, blank-alike g), refl, λ z. tt),
        )

  edit-alike : RulesAlike (edit_rules p) (edit_rules q)
  unfolding edit_rules
  edit-alike =
      rw (whole_same (tail-layout a)) (alike-append (whole_rules p) (whole_rules p) (missing_rule p) (missing_rule q) (alike_self (whole_rules p)) missing-alike)

  lifetime-place : lifetime_at q ≡ lifetime_at p
  lifetime-place = rw (four_same (tail-layout a).header)

  lifetime-alike : byte_at q (lifetime_at p) ≡ byte_at p (lifetime_at p)
  lifetime-alike =
      let k = outer-facts p a.outer in
      let o = tail-order k in
      a.same (lifetime_at p) (by_cases (four p) (λ f. simp f (omega arith)) (λ f. simp f (omega arith)))

  -- a prefix's rules, and what it writes, are read off the address
  six-alike : RulesAlike (six_rules p) (six_rules q)
  six-alike =
      let k = outer-facts p a.outer in
      let z = a.same 0 (omega (arith, tail-order k)) in
      let l = a.long in
      (ne_eqb (length q) 0 (λ e. omega arith) ∙ sym (ne_eqb (length p) 0 (λ e. omega arith)), refl, λ f. (rw z, refl, λ g. edit-alike))

  module _ (c : IsClear (six_rules p)) (side : ℕ) where
    before : side_at p side + 16 ≤ tail_at p
    before = let l = in_place p c side in let k = outer-facts p a.outer in let o = tail-order k in omega arith

    address-alike : address_at q (side_at p side) ≡ address_at p (side_at p side)
    address-alike = agree-part agree (side_at p side) 16 before

    word-alike : word_at q (side_at p side + 6) ≡ word_at p (side_at p side + 6)
    word-alike = agree-word agree (side_at p side + 6) (omega (arith, before))

  rules-alike : (e : Edit) → RulesAlike (rules_of e p) (rules_of e q)
  rules-alike lifetime = rw ((tail-layout a).outer, lifetime-place, lifetime-alike) (alike_self (rules_of lifetime p))
  rules-alike (address side new) =
      rw (four_same (tail-layout a).header)
      (alike-append (edit_rules p) (edit_rules q) (address_rules p side new) (address_rules p side new) edit-alike (λ c. alike_self (address_rules p side new)))
  rules-alike (stretch place new) =
      alike-append (edit_rules p) (edit_rules q) (stretch_rules p place new) (stretch_rules q place new) edit-alike
      (λ c. stretch-alike (accepted p c).whole place new)
  rules-alike (prefix side expected new) =
      let at = side_at p side in
      alike-append (six_rules p) (six_rules q) (prefix_rules p side expected new) (prefix_rules q side expected new)
      six-alike
      (λ c. rw (four_same (tail-layout a).header, address-alike c side, word-alike c side) (alike_self (prefix_rules p side expected new)))

  -- ---- what an accepted edit makes
  made_alike : (e : Edit) → IsClear (rules_of e p) → Agree (tail_at p) (made e p) (made e q)
  made_alike lifetime c =
      let b = (before-tail lifetime p c).1 in
      rw (lifetime-place, lifetime-alike) (header-alike (lifetime_at p) (lowered p) b (agree-put agree (lifetime_at p) (lowered p) b))
  made_alike (address side new) c =
      let b = (before-tail (address side new) p c).1 in
      let h = (tail-layout a).header in
      let at = side_at p side in
      let w = (accepted p (clear_both (edit_rules p) (address_rules p side new) c).0).whole in
      let g = header-alike at new b (agree-put agree at new b) in
      rw (four_same h, pseudo-same h) (by_cases (pseudo p) (λ t. simp t (message-alike w (at - addresses_at p) at new b g)) (λ t. simp t g))
  made_alike (stretch place new) c =
      let b = (before-tail (stretch place new) p c).1 in
      let h = (tail-layout a).header in
      let at = body_of p + place in
      let w = (accepted p (clear_both (edit_rules p) (stretch_rules p place new) c).0).whole in
      rw (body_same (tail-layout a), start-same h)
      (by_cases (eqb (length new) 0)
      (λ z. simp z agree)
      (λ z. simp z (message-alike w (at - start_of p) at new b (agree-put agree at new b))))
  made_alike (prefix side expected new) c =
      let b = (before-tail (prefix side expected new) p c).1 in
      let d = (clear_both (six_rules p) (prefix_rules p side expected new) c).0 in
      let n = (six-clear p side expected new c).size in
      let at = side_at p side in
      let l = before d side in
      let o = tail-agree a in
      let e : word_of q at new ≡ word_of p at new =
      word-as q at new (let r = o.right in omega arith) n ∙ rw (agree-part agree at 8 (omega arith)) (sym (word-as p at new (let r = o.left in omega arith) n)) in
      rw (four_same (tail-layout a).header, e) (agree-put agree at (prefix_new p at new) b)

-- ---- one edit, and any sequence of them
pub edit-unread : (e : Edit) {p q : List ℕ} → Fit e → Bytes p → Bytes q → UpToTail p q
    → ((apply e q).0 ≡ (apply e p).0) × UpToTail (apply e p).1 (apply e q).1
edit-unread e {p} {q} f b d a =
    let g = calls-alike (Agree (tail_at p)) (rules_of e p) (rules_of e q) (rules-alike a e) (tail-agree a) (made_alike a e) in
    let x = rw (← apply-as e p, ← apply-as e q) at g in
    (x.0, tail-still a (still e p f b).layout (still e q f d).long x.1)

pub run-unread : (es : List Edit) {p q : List ℕ} → Fits es → Bytes p → Bytes q → UpToTail p q → UpToTail (run es p) (run es q)
run-unread [] f b d a = a
run-unread (e ∷ es) {p} {q} f b d a =
    run-unread es f.1 (still e p f.0 b).bytes (still e q f.0 d).bytes (edit-unread e f.0 b d a).1
