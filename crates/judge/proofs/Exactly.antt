-- Each verdict comes exactly in its stated case.
use Rattle.std.specs.Prelude.{if◌then◌else◌}
use mathlib.Core.Path.{◌≡◌, refl, sym, ◌∙◌}
use mathlib.Core.Logic.{◌↔◌, ◌⊎◌, ◌≢◌, inl, inr, ⊎_elim}
use Prim.Native.Nat.{ℕ, ◌+◌, ◌-◌, ◌*◌, ◌/◌, ◌%◌, ◌<◌, ◌≤◌}
use native.Mathlib.Omega.{arith}
use mathlib.Core.List.{List, ◌++◌}
use mathlib.Core.Bool.{Bool, false, not, ◌&&◌, ◌||◌, true≢false}
use lib.ListN.{length}
use lib.Dec.{ltb, eqb}
use borrow.Author.Tests.{ltb-false, eqb-true, eqb-false, eq-eqb, ne_eqb, not-false}
use Rattle.verdicts.specs.Numbers.{number_of}
use Rattle.verdicts.specs.Rules.{IsClear, Decides, Comes}
use Rattle.verdicts.specs.declared.Verdict.{Verdict}
use Rattle.verdicts.specs.declared.Verdict.TheVariants.{Shape, Fragment, Uncovered}
use Rattle.verdicts.proofs.Tests.{by_cases}
use Rattle.verdicts.proofs.Rules.{decides, decided, ranked}
use Rattle.verdicts.proofs.Telling.{Tells, yes-tells, no_tells, eqb_tells, ltb-tells, not-tells, and-tells, or-tells, as-tells, Told, next, told-append, told-exactly}
use Rattle.sums.specs.Fold.{passes}
use Rattle.sums.proofs.Passing.{passing, passed}
use Rattle.wire.specs.Bytes.{byte_at, word_at}
use Rattle.wire.specs.Outer.{version_of, family_of, four, six, least_of, header4_of, declared_end, split_of, fragment_of, outer_rules}
use Rattle.wire.specs.Walk.{refused, walk_of, ends, walk_rules}
use Rattle.wire.specs.Chain.{WalksTo}
use Rattle.wire.specs.Table.{uncovered, plan_of}
use Rattle.wire.specs.Messages.{shape_rules}
use Rattle.wire.specs.Inner.{protocol_of, start_of, row_in, udp, silent_of, header_bytes, message_rules, whole_rules}
use Rattle.wire.proofs.Lines.{covered, row-lined}
use Rattle.wire.proofs.Facts.{outer-facts, walk-four, carried-length, facts}
use Rattle.wire.proofs.Held.{Three}
use Rattle.wire.proofs.Walks.{walk_ends, ends-walk, walk-ends-in}
use Rattle.wire.proofs.InnerCases.{said_at}
use Rattle.wire.proofs.Same.{same_self, silent-at}
use Rattle.cover.specs.Sums.{header_total, message_total, header_sums, message_sums}
use Rattle.judge.specs.Judge.{header_sum_rule, missing_rule, sum_rules, judge_rules, judge_of}
use Rattle.judge.specs.Cases.{Pass, Listed, outer_cases, header_sum_case, walk_cases, message_cases, missing_case, unsummed_case, message_sum_case, judge_cases, whole_cases}
use Rattle.judge.proofs.Protocols.{Kind, icmp, tcp4, udp4, none4, tcp6, udp6, icmp6, none6, kind, listed}

-- the general law: v is that of the first rule that holds
pub judged : (p : List ℕ) (v : Verdict) → (judge_of p ≡ v) ↔ Decides (judge_rules p) v
unfolding judge_of
judged p v = (decides (judge_rules p) v, decided (judge_rules p) v)

-- ---- each test tells its condition
passes-tells : (t : ℕ) → Tells (passes t) ((0 < t) × (t % 65535 ≡ 0))
passes-tells t = (passed t, λ e h. true≢false (sym (passing t h.0 h.1) ∙ e))

abbrev Short : ℕ → ℕ → Type 0
Short n size = (((n ≡ 1) ⊎ (n ≡ 17)) × (size < 8)) ⊎ ((n ≡ 6) × (size < 20)) ⊎ ((n ≡ 58) × (size < 4))

-- the table's fixed header for a protocol
abbrev Fixed : ℕ → ℕ → Type 0
Fixed n fixed = (n ≡ 1 → fixed ≡ 8) × (n ≡ 17 → fixed ≡ 8) × (n ≡ 6 → fixed ≡ 20) × (n ≡ 58 → fixed ≡ 4)

fixed-tells : (n size fixed : ℕ) → Fixed n fixed → (size < fixed → Short n size) → Tells (ltb size fixed) (Short n size)
fixed-tells n size fixed t short =
    as-tells (ltb-tells size fixed) short
    (⊎_elim (λ h. ⊎_elim (λ e. omega (arith, t.0 e)) (λ e. omega (arith, t.1 e)) h.0)
    (⊎_elim (λ h. omega (arith, t.2 h.0)) (λ h. omega (arith, t.3 h.0))))

-- what TCP or UDP says of its length, or what is carried
abbrev Said : ℕ → ℕ → ℕ → ℕ → ℕ
Said n offset datagram size = if eqb n 6 then offset else if eqb n 17 then datagram else size

strays-tells : (said least size : ℕ) → Tells (ltb said least || ltb size said) ((said < least) ⊎ (size < said))
strays-tells said least size = or-tells (ltb said least) (ltb size said) (ltb-tells said least) (ltb-tells size said)

said-tells : (n o u size fixed : ℕ) → (n ≡ 6 → fixed ≡ 20) → (n ≡ 17 → fixed ≡ 8) → fixed ≤ size
    → Tells (ltb (Said n o u size) fixed || ltb size (Said n o u size)) (((n ≡ 6) × ((o < 20) ⊎ (size < o))) ⊎ ((n ≡ 17) × ((u < 8) ⊎ (size < u))))
said-tells n o u size fixed t d l =
    by_cases (eqb n 6)
    (λ e. let h = eqb-true n 6 e in simp (e, t h) (as-tells (strays-tells o 20 size) (λ x. inl (h, x)) (⊎_elim (λ x. x.1) (λ x. absurd (omega arith)))))
    (λ e. by_cases (eqb n 17)
    (λ f. let h = eqb-true n 17 f in simp (e, f, d h) (as-tells (strays-tells u 8 size) (λ x. inr (h, x)) (⊎_elim (λ x. absurd (omega arith)) (λ x. x.1))))
    (λ f. simp (e, f) (as-tells (strays-tells size fixed size)
    (⊎_elim (λ x. absurd (omega arith)) (λ x. absurd (omega arith)))
    (⊎_elim (λ x. absurd (eqb-false n 6 e x.0)) (λ x. absurd (eqb-false n 17 f x.0))))))

module _ (p : List ℕ) where
  four-tells : Tells (four p) (version_of p ≡ 4)
  four-tells = eqb_tells (version_of p) 4

  six-tells : Tells (six p) (version_of p ≡ 6)
  six-tells = eqb_tells (version_of p) 6

  other-tells : Tells (not (four p || six p)) ((version_of p ≢ 4) × (version_of p ≢ 6))
  other-tells =
      as-tells (not-tells (four p || six p) (or-tells (four p) (six p) four-tells six-tells))
      (λ n. (λ e. n (inl e), λ e. n (inr e)))
      (λ n. ⊎_elim n.0 n.1)

  least-tells : not (four p || six p) ≡ false → Tells (ltb (length p) (least_of p)) (((version_of p ≡ 4) × (length p < 20)) ⊎ ((version_of p ≡ 6) × (length p < 40)))
  least-tells e =
      by_cases (four p)
      (λ f. let v = eqb-true (version_of p) 4 f in
      simp f (as-tells (ltb-tells (length p) 20) (λ h. inl (v, h)) (⊎_elim (λ h. h.1) (λ h. absurd (omega arith)))))
      (λ f. let v = eqb-true (version_of p) 6 (simp f at (not-false (four p || six p) e)) in
      simp f (as-tells (ltb-tells (length p) 40) (λ h. inr (v, h)) (⊎_elim (λ h. absurd (omega arith)) (λ h. h.1))))

  header-tells : Tells (not (header_sums p)) ((version_of p ≡ 4) × (¬ Pass (header_bytes p)))
  unfolding header_sums header_total
  header-tells =
      by_cases (four p)
      (λ f. simp f (as-tells (not-tells _ (passes-tells (header_total p))) (λ h. (eqb-true (version_of p) 4 f, h)) (λ h. h.1)))
      (λ f. simp f (no_tells (λ h. eqb-false (version_of p) 4 f h.0)))

  split-tells : Tells (split_of (word_at p 6)) ((word_at p 6 / 8192 % 2 ≡ 1) ⊎ (word_at p 6 % 8192 ≢ 0))
  split-tells =
      let w = word_at p 6 in
      or-tells (eqb (w / 8192 % 2) 1) (not (eqb (w % 8192) 0)) (eqb_tells (w / 8192 % 2) 1) (not-tells (eqb (w % 8192) 0) (eqb_tells (w % 8192) 0))

  not6 : (A : Type 0) → version_of p ≡ 4 → ¬ ((version_of p ≡ 6) × A)
  not6 A v h = omega arith

  -- over IPv4 a fragment alone ends the walk
  walk-tells4 : version_of p ≡ 4 → Told (walk_rules p) (walk_cases p)
  unfolding walk_rules fragment_of
  walk-tells4 v =
      let f = eq-eqb (version_of p) 4 v in
      by_cases (fragment_of p)
      (λ s. rw (walk-four p f, s)
      (next (yes-tells (inl (v, split-tells.0 (simp f at s))), refl) λ a. absurd (true≢false a)))
      (λ s. rw (walk-four p f, s)
      (next (no_tells (⊎_elim (λ h. split-tells.1 (simp f at s) h.1) (not6 _ v)), refl) λ a.
      next (no_tells (not6 _ v), refl) λ b.
      next (no_tells (not6 _ v), refl) λ c.
      tt))

  -- over IPv6 it ends as a chain of at most eight headers does
  ends-tells : (v : Verdict) → Three v → version_of p ≡ 6 → Tells (ends (walk_of p) v) ((version_of p ≡ 6) × WalksTo p (refused v))
  ends-tells v t i =
      let f = ne_eqb (version_of p) 4 (λ e. omega arith) in (
        λ e. (i, rw (walk-ends-in p v t e) at (walk_ends p f)),
        λ e h. true≢false (sym (eq-eqb (number_of v) (number_of v) refl) ∙ rw (ends-walk p f h.1) at e),
      )

  walk-tells6 : version_of p ≡ 6 → Told (walk_rules p) (walk_cases p)
  unfolding walk_rules
  walk-tells6 v =
      next (as-tells (ends-tells Fragment (inl refl) v) inr (⊎_elim (λ h. absurd (omega arith)) (λ h. h)), refl) λ a.
      next (ends-tells Uncovered (inr (inl refl)) v, refl) λ b.
      next (ends-tells Shape (inr (inr refl)) v, refl) λ c.
      tt

  listed-tells : Kind p → Tells (uncovered (row_in p)) (¬ Listed (version_of p) (protocol_of p))
  listed-tells k =
      ⊎_elim
      (λ h. rw h.0 (no_tells (λ n. n h.1)))
      (λ h. rw h.0 (yes-tells h.1))
      (listed p k)

  short-tells : Kind p → (size : ℕ) → uncovered (row_in p) ≡ false → Tells (ltb size (plan_of (row_in p)).fixed) (Short (protocol_of p) size)
  short-tells (icmp l) size u = let e = l.protocol in rw l.row (fixed-tells (protocol_of p) size 8 (omega arith) (λ h. inl (inl e, h)))
  short-tells (tcp4 l) size u = let e = l.protocol in rw l.row (fixed-tells (protocol_of p) size 20 (omega arith) (λ h. inr (inl (e, h))))
  short-tells (udp4 l) size u = let e = l.protocol in rw l.row (fixed-tells (protocol_of p) size 8 (omega arith) (λ h. inl (inr e, h)))
  short-tells (none4 l a b c) size u = absurd (true≢false (rw l.row at u))
  short-tells (tcp6 l) size u = let e = l.protocol in rw l.row (fixed-tells (protocol_of p) size 20 (omega arith) (λ h. inr (inl (e, h))))
  short-tells (udp6 l) size u = let e = l.protocol in rw l.row (fixed-tells (protocol_of p) size 8 (omega arith) (λ h. inl (inr e, h)))
  short-tells (icmp6 l) size u = let e = l.protocol in rw l.row (fixed-tells (protocol_of p) size 4 (omega arith) (λ h. inr (inr (e, h))))
  short-tells (none6 l a b c) size u = absurd (true≢false (rw l.row at u))

  -- ---- list by list
  pub outer_told : Told (outer_rules p) (outer_cases p)
  unfolding outer_rules
  outer_told =
      next (eqb_tells (length p) 0, refl) λ a.
      next (other-tells, refl) λ b.
      next (least-tells b, refl) λ c.
      next (and-tells (four p) (ltb (byte_at p 0 % 16) 5) four-tells (ltb-tells (byte_at p 0 % 16) 5), refl) λ d.
      next (and-tells (four p) (ltb (word_at p 2) (header4_of p)) four-tells (ltb-tells (word_at p 2) (header4_of p)), refl) λ e.
      next (ltb-tells (length p) (declared_end p), refl) λ f.
      tt

  module _ (o : IsClear (outer_rules p)) where
    walk-told : Told (walk_rules p) (walk_cases p)
    walk-told = by_cases (four p) (λ f. walk-tells4 (eqb-true (version_of p) 4 f)) (λ f. walk-tells6 ((outer-facts p o).six f).1)

    message-told : Told (message_rules p) (message_cases p)
    unfolding outer_rules message_rules shape_rules
    message-told =
        let k = outer-facts p o in
        let size = declared_end p - start_of p in
        next (listed-tells (kind p o.1.0), refl) λ i.
        next (rw (carried-length k) (short-tells (kind p o.1.0) size i), refl) λ j.
        let plan = plan_of (row_in p) in
        let row = covered (row_in p) i in
        let line = row-lined (family_of p) (protocol_of p) plan row in
        let long = ltb-false size plan.fixed (rw (carried-length k) at j) in
        next (
          rw (carried-length k, said_at p k plan row long)
              (said-tells (protocol_of p) (byte_at p (start_of p + 12) / 16 * 4) (word_at p (start_of p + 4)) size plan.fixed (λ e. (line.tcp e).1) (λ e. (line.udp e).1) long),
          refl,
        ) λ l.
        tt

    module _ (m : IsClear (message_rules p)) where
      silent-tells : Tells (silent_of p) ((protocol_of p ≡ 17) × (word_at p (start_of p + 6) ≡ 0))
      silent-tells =
          let k = facts p o m in
          rw (silent-at (same_self p) k)
          (by_cases (udp p)
          (λ u. simp (u, (k.udp u).0) (as-tells (eqb_tells (word_at p (start_of p + 6)) 0) (λ h. (eqb-true (protocol_of p) 17 u, h)) (λ h. h.1)))
          (λ u. simp u (no_tells (λ h. eqb-false (protocol_of p) 17 u h.0))))

      zero-tells : (b : Bool) (v : ℕ) → Tells b (version_of p ≡ v)
          → Tells (silent_of p && b) ((version_of p ≡ v) × (protocol_of p ≡ 17) × (word_at p (start_of p + 6) ≡ 0))
      zero-tells b v t = as-tells (and-tells (silent_of p) b silent-tells t) (λ z. (z.1, z.0.0, z.0.1)) (λ z. ((z.1, z.2), z.0))

      over6-tells : Tells (not (four p)) (version_of p ≡ 6)
      over6-tells =
          as-tells (not-tells (four p) four-tells)
          (λ n. by_cases (four p) (λ f. absurd (n (eqb-true (version_of p) 4 f))) (λ f. ((outer-facts p o).six f).1))
          (λ e n. omega arith)

      pub missing-told : Told (missing_rule p) (missing_case p)
      missing-told = ((zero-tells (not (four p)) 6 over6-tells, refl), λ e. tt)

      sum_told : Told (sum_rules p) (missing_case p ++ (unsummed_case p ++ message_sum_case p))
      unfolding sum_rules message_sums message_total
      sum_told =
          next (zero-tells (not (four p)) 6 over6-tells, refl) λ a.
          next (zero-tells (four p) 4 four-tells, refl) λ b.
          next (not-tells (message_sums p) (passes-tells (message_total p)), refl) λ c.
          tt

  judge-told : Told (judge_rules p) (judge_cases p)
  unfolding judge_rules
  judge-told =
      let sums = missing_case p ++ (unsummed_case p ++ message_sum_case p) in
      told-append (outer_rules p) (header_sum_rule p ++ (walk_rules p ++ (message_rules p ++ sum_rules p)))
      (outer_cases p) (header_sum_case p ++ (walk_cases p ++ (message_cases p ++ sums))) outer_told λ o.
      next (header-tells, refl) λ h.
      told-append (walk_rules p) (message_rules p ++ sum_rules p) (walk_cases p) (message_cases p ++ sums) (walk-told o) λ w.
      told-append (message_rules p) (sum_rules p) (message_cases p) sums (message-told o) (sum_told o)

  pub whole-told : Told (whole_rules p) (whole_cases p)
  unfolding whole_rules
  whole-told =
      told-append (outer_rules p) (walk_rules p ++ message_rules p) (outer_cases p) (walk_cases p ++ message_cases p) outer_told λ o.
      told-append (walk_rules p) (message_rules p) (walk_cases p) (message_cases p) (walk-told o) λ w.
      message-told o

-- each verdict exactly in its case
pub exactly : (v : Verdict) (p : List ℕ) → (judge_of p ≡ v) ↔ Comes (judge_cases p) v
unfolding judge_of
exactly v p = told-exactly (judge_rules p) (judge_cases p) (judge-told p) v

-- 10 to 16 never come from the judge
pub at-most-nine : (p : List ℕ) → number_of (judge_of p) ≤ 9
unfolding judge_of judge_rules outer_rules walk_rules message_rules shape_rules sum_rules
at-most-nine p = ranked (λ v. number_of v ≤ 9) (judge_rules p) (omega arith) (omega arith)

-- a promise that is one equation, as every one of the layout's and the judge's is, allows one answer
pub one_answer : {A : Type 0} {promised r s : A} → r ≡ promised → s ≡ promised → r ≡ s
one_answer e h = e ∙ sym h
