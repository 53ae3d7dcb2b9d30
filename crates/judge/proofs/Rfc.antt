-- Good and unsummed are what the RFCs say, for packets of bytes.
use Rattle.std.specs.Prelude.{Option}
use mathlib.Core.Path.{◌≡◌, refl, sym, ap, ◌∙◌}
use mathlib.Core.Logic.{◌↔◌, ◌⊎◌, ◌≢◌, inl, inr, ⊎_elim}
use Prim.Native.Nat.{ℕ, ◌+◌, ◌-◌, ◌≤◌}
use native.Mathlib.Omega.{arith}
use mathlib.Core.List.{List}
use mathlib.Core.Bool.{true, false, true≢false}
use lib.Dec.{eqb}
use borrow.Author.Tests.{eqb-true, eqb-false, eq-eqb, ne_eqb}
use Rattle.verdicts.specs.declared.Verdict.TheVariants.{Good, Unsummed}
use Rattle.verdicts.proofs.Tests.{by_cases, and-true}
use Rattle.wire.specs.Bytes.{byte_at, word_at, Bytes}
use Rattle.wire.specs.Outer.{four, family_of, version_of, outer_rules}
use Rattle.wire.specs.Table.{plan_of, row_of}
use Rattle.wire.specs.Messages.{shape_rules}
use Rattle.wire.specs.Inner.{protocol_of, start_of, length_of, pseudo, field_at, silent_of, udp, row_in, message_rules, covered_of}
use Rattle.wire.specs.declared.Plan.{Plan}
use Rattle.wire.proofs.Facts.{Facts, facts}
use Rattle.wire.proofs.Same.{same_self, silent-at}
use Rattle.cover.specs.Sums.{message_sums}
use Rattle.judge.specs.Judge.{judge_of}
use Rattle.judge.specs.Cases.{Listed}
use Rattle.judge.specs.Rfc.{Right, ihl, data4, Extension, upper_length, Right4, RightAt, Right6, IsGoodByRfc, IsUnsummedByRfc}
use Rattle.judge.proofs.Answers.{good, unsummed, sums6}
use Rattle.judge.proofs.Accepts.{Shaped, shaped, accepted, accepting, verdict-good, verdict-unsummed}
use Rattle.judge.proofs.Covered.{start4, length4, protocol4, covered4, plain4, length6, covered6, rightly, header4}
use Rattle.judge.proofs.Leads.{led, led-one}
use Rattle.judge.proofs.Protocols.{plan, kind, listed}

-- what the judge asks of a message
abbrev Tests : List ℕ → Type 0
Tests p = (silent_of p ≡ false) × (message_sums p ≡ true)

-- one of three numbers, each with what it asks
choose : {A B C D T : Type 0} {n i j k : ℕ} → (n ≡ i → A ↔ T) → (n ≡ j → B ↔ T) → (n ≡ k → (C × D) ↔ T) → (n ≡ i) ⊎ (n ≡ j) ⊎ (n ≡ k)
    → (((n ≡ i) × A) ⊎ ((n ≡ j) × B) ⊎ ((n ≡ k) × C × D)) ↔ T
choose a b c d = (
  ⊎_elim (λ h. (a h.0).0 h.1) (⊎_elim (λ h. (b h.0).0 h.1) (λ h. (c h.0).0 (h.1, h.2))),
  λ t. ⊎_elim (λ e. inl (e, (a e).1 t)) (⊎_elim (λ e. inr (inl (e, (b e).1 t))) (λ e. let q = (c e).1 t in inr (inr (e, q.0, q.1)))) d,
)

turn : {A B C : Type 0} → A ⊎ B ⊎ C → C ⊎ A ⊎ B
turn = ⊎_elim (λ a. inr (inl a)) (⊎_elim (λ b. inr (inr b)) inl)

-- ---- the message's tests, of a packet whose shape nothing refuses
module _ (p : List ℕ) (b : Bytes p) (s : Shaped p) where
  known : Facts p
  known = facts p s.outer s.inner

  with-pseudo : protocol_of p ≢ 1 → pseudo p ≡ true
  with-pseudo n = by_cases (pseudo p) (λ t. t) (λ t. absurd (n (known.plain t)))

  not-udp : protocol_of p ≢ 17 → udp p ≡ false
  not-udp n = ne_eqb (protocol_of p) 17 n

  -- a message that isn't UDP's, and one that is
  plain : (block : List ℕ) → protocol_of p ≢ 17 → covered_of p ≡ block → Right block ↔ Tests p
  plain block n e =
      let r = rightly p b known block e in
      (λ h. (silent-at (same_self p) known ∙ simp (not-udp n), r.0 h), λ h. r.1 h.1)

  summing : (block : List ℕ) (at : ℕ) → protocol_of p ≡ 17 → at ≡ start_of p + 6 → covered_of p ≡ block
      → ((word_at p at ≢ 0) × Right block) ↔ Tests p
  summing block at n a e =
      let r = rightly p b known block e in
      let u : udp p ≡ true = eq-eqb (protocol_of p) 17 n in
      let z : silent_of p ≡ eqb (word_at p at) 0 = silent-at (same_self p) known ∙ simp (u, (known.udp u).0 ∙ sym a) in
      (λ h. (z ∙ ne_eqb (word_at p at) 0 h.0, r.0 h.1), λ h. (eqb-false (word_at p at) 0 (sym z ∙ h.0), r.1 h.1))

  own-length : protocol_of p ≡ 17 → length_of p ≡ word_at p (start_of p + 4)
  own-length n = sym (known.udp (eq-eqb (protocol_of p) 17 n)).2

  AllLined : Listed (version_of p) (protocol_of p)
  unfolding outer_rules message_rules shape_rules
  AllLined = ⊎_elim (λ h. h.1) (λ h. absurd (true≢false (sym h.0 ∙ s.inner.0))) (listed p (kind p s.outer.1.0))

  icmp-plain : four p ≡ true → protocol_of p ≡ 1 → pseudo p ≡ false
  unfolding pseudo row_of family_of
  icmp-plain f n = let row : row_in p ≡ plan 8 2 false = simp (f, n) in ap (λ (r : Option Plan). (plan_of r).pseudo) row

  right4 : version_of p ≡ 4 → Right4 p ↔ Tests p
  right4 v =
      let f : four p ≡ true = eq-eqb (version_of p) 4 v in
      let n = protocol4 p f known in
      choose
      (λ e. plain (data4 p) (λ h. omega arith) (plain4 p f known (icmp-plain f (n ∙ e)) (not-udp (λ h. omega arith))))
      (λ e. plain _ (λ h. omega arith) (covered4 p f known (with-pseudo (λ h. omega arith)) 6 (word_at p 2 - ihl p) (n ∙ e) (length4 p f known (not-udp (λ h. omega arith)))))
      (λ e. summing _ (ihl p + 6) (n ∙ e) (ap (λ x. x + 6) (sym (start4 p f)))
      (covered4 p f known (with-pseudo (λ h. omega arith)) 17 (word_at p (ihl p + 4)) (n ∙ e) (own-length (n ∙ e) ∙ ap (λ x. word_at p (x + 4)) (start4 p f))))
      (⊎_elim (λ h. rw n at h.1) (λ h. absurd (omega arith)) AllLined)

  module _ (v : version_of p ≡ 6) where
    six : four p ≡ false
    six = ne_eqb (version_of p) 4 (λ e. omega arith)

    upper-small : upper_length p (start_of p) ≤ 65535
    upper-small = omega (arith, b 4, b 5)

    right-at : RightAt p (protocol_of p) (start_of p) ↔ Tests p
    right-at =
        let first = start_of p in
        choose
        (λ e. plain _ (λ h. omega arith) (covered6 p six known (with-pseudo (λ h. omega arith)) 58 (upper_length p first) upper-small e (length6 p six known (not-udp (λ h. omega arith)))))
        (λ e. plain _ (λ h. omega arith) (covered6 p six known (with-pseudo (λ h. omega arith)) 6 (upper_length p first) upper-small e (length6 p six known (not-udp (λ h. omega arith)))))
        (λ e. summing _ (first + 6) e refl
        (covered6 p six known (with-pseudo (λ h. omega arith)) 17 (word_at p (first + 4)) (omega (arith, b (first + 4), b (first + 4 + 1))) e (own-length e)))
        (⊎_elim (λ h. absurd (omega arith)) (λ h. turn h.1) AllLined)

    -- none of the three is an extension header
    final : (n first : ℕ) → RightAt p n first → Extension n → ⊥
    final n first r x =
        ⊎_elim (λ h. ⊎_elim (λ e. omega arith) (⊎_elim (λ e. omega arith) (λ e. omega arith)) x)
        (⊎_elim (λ h. ⊎_elim (λ e. omega arith) (⊎_elim (λ e. omega arith) (λ e. omega arith)) x)
        (λ h. ⊎_elim (λ e. omega arith) (⊎_elim (λ e. omega arith) (λ e. omega arith)) x)) r

    right6 : Right6 p ↔ Tests p
    right6 = (
      λ u.
          let o = led-one known six u.leads (final u.k u.first u.said) in
          right-at.0 (rw (o.0, o.1) u.said),
      λ t. record { k = protocol_of p; first = start_of p; leads = led known six; said = right-at.1 t },
    )

  -- UDP's zero over IPv4
  zero4 : four p ≡ true → udp p ≡ true → field_at p ≡ ihl p + 6
  zero4 f u = (known.udp u).0 ∙ ap (λ x. x + 6) (start4 p f)

  silent4 : four p ≡ true → (silent_of p ≡ true) ↔ ((byte_at p 9 ≡ 17) × (word_at p (ihl p + 6) ≡ 0))
  silent4 f = (
    λ h.
        let q = and-true (udp p) (eqb (word_at p (field_at p)) 0) (sym (silent-at (same_self p) known) ∙ h) in
        (sym (protocol4 p f known) ∙ eqb-true (protocol_of p) 17 q.0, ap (word_at p) (sym (zero4 f q.0)) ∙ eqb-true (word_at p (field_at p)) 0 q.1),
    λ h.
        let u : udp p ≡ true = eq-eqb (protocol_of p) 17 (protocol4 p f known ∙ h.0) in
        silent-at (same_self p) known ∙ simp (u, zero4 f u) (eq-eqb (word_at p (ihl p + 6)) 0 h.1),
  )

-- good is what the RFCs ask
pub good-by-rfc : (p : List ℕ) → Bytes p → (judge_of p ≡ Good) ↔ IsGoodByRfc p
good-by-rfc p b = (there, back)
  where
    there : judge_of p ≡ Good → IsGoodByRfc p
    there e =
        let a = accepted p Good (omega arith) e in
        let s = shaped p a.0 in
        let t = verdict-good p a.2 in (
          a.0,
          by_cases (four p)
              (λ f. let v = eqb-true (version_of p) 4 f in inl ((v, (header4 p b f).1 a.1), (right4 p b s v).1 t))
              (λ f. let v = s.six f in inr (v, (right6 p b s v).1 t)),
        )

    back : IsGoodByRfc p → judge_of p ≡ Good
    back g =
        let s = shaped p g.0 in
        ⊎_elim
        (λ h. let f = eq-eqb (version_of p) 4 h.0.0 in let t = (right4 p b s h.0.0).0 h.1 in
        sym (good p t.0 t.1 ∙ accepting p g.0 ((header4 p b f).0 h.0.1)))
        (λ h. let f = ne_eqb (version_of p) 4 (λ e. omega arith) in let t = (right6 p b s h.0).0 h.1 in
        sym (good p t.0 t.1 ∙ accepting p g.0 (sym (sums6 p f))))
        g.1

-- and so is unsummed
pub unsummed-by-rfc : (p : List ℕ) → Bytes p → (judge_of p ≡ Unsummed) ↔ IsUnsummedByRfc p
unsummed-by-rfc p b = (there, back)
  where
    there : judge_of p ≡ Unsummed → IsUnsummedByRfc p
    there e =
        let a = accepted p Unsummed (omega arith) e in
        let s = shaped p a.0 in
        let t = verdict-unsummed p a.2 in
        let z = (silent4 p b s t.1).0 t.0 in
        (a.0, (eqb-true (version_of p) 4 t.1, (header4 p b t.1).1 a.1), z.0, z.1)

    back : IsUnsummedByRfc p → judge_of p ≡ Unsummed
    back g =
        let f = eq-eqb (version_of p) 4 g.1.0 in
        sym (unsummed p ((silent4 p b (shaped p g.0) f).1 (g.2, g.3)) f ∙ accepting p g.0 ((header4 p b f).0 g.1.1))
