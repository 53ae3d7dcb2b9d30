-- The theorems of mending: what it answers, what it changes, what the judge says of it, and that a good packet stands.
use Rattle.std.specs.Prelude.{if◌then◌else◌}
use mathlib.Core.Path.{◌≡◌, refl, sym, ap, ◌∙◌}
use mathlib.Core.Logic.{◌↔◌, ◌⊎◌, inl, inr, ⊎_elim}
use Prim.Native.Nat.{ℕ, suc, ◌+◌, ◌/◌, ◌%◌, ◌<◌, ◌≤◌}
use native.Mathlib.Omega.{arith}
use native.Mathlib.Decide.{ℕ_discrete, dec_lt}
use native.Mathlib.Numerals.{add-one}
use mathlib.Core.List.{List}
use mathlib.Core.Bool.{true, false, ◌&&◌, true≢false}
use lib.ListN.{length}
use lib.Seq.{set-get_or}
use borrow.Author.Tests.{eqb-false}
use Rattle.verdicts.specs.Rules.{IsClear, Comes}
use Rattle.verdicts.specs.declared.Verdict.{Verdict}
use Rattle.verdicts.specs.declared.Verdict.TheVariants.{Good, Unsummed}
use Rattle.verdicts.proofs.Tests.{by_cases, and-true}
use Rattle.verdicts.proofs.Rules.{first_either}
use Rattle.verdicts.proofs.Telling.{told-exactly}
use Rattle.verdicts.proofs.Calls.{call-answers, call-refused, call-clear, call-done, call-either}
use Rattle.sums.specs.Fold.{passes}
use Rattle.wire.specs.Bytes.{byte_at, word_at, put, put_word, Bytes}
use Rattle.wire.specs.Outer.{four, header_field, outer_rules}
use Rattle.wire.specs.Walk.{walk_of, walk_rules}
use Rattle.wire.specs.Messages.{shape_rules}
use Rattle.wire.specs.Inner.{field_at, message_rules, silent_of, udp, whole_rules, carries, tail_at}
use Rattle.wire.proofs.Facts.{OuterFacts}
use Rattle.wire.proofs.Writes.{word_small}
use Rattle.wire.proofs.Same.{same_layout, silent-at, four_same, same_self, walk_same, whole_same}
use Rattle.wire.proofs.Held.{carries-clear, clear-carries, whole-facts}
use Rattle.wire.proofs.Tails.{tail-end, tail-order}
use Rattle.cover.specs.Sums.{header_total, message_total, header_sums, message_sums}
use Rattle.judge.specs.Judge.{judge_of}
use Rattle.judge.specs.Cases.{whole_cases}
use Rattle.judge.proofs.Exactly.{whole-told}
use Rattle.judge.proofs.Answers.{good, unsummed, sums4}
use Rattle.judge.proofs.Accepts.{accepted, accepting, verdict-good, verdict-unsummed}
use Rattle.mend.specs.Fresh.{sent, fresh_header, fresh_message, Sum, header, message, used, placed, Fresh}
use Rattle.mend.specs.Mend.{mended_header, mended_message, mend_of, Outside, Full}
use Rattle.mend.proofs.Numbers.{passing-fresh}
use Rattle.mend.proofs.Fresh.{each, used-whole, aside_h, aside_f, header-right, message-right}
use Rattle.mend.proofs.Mended.{Mended, both-set}

-- no byte of the tail is one of a sum field in use
pub tail-outside : (p : List ℕ) (i : ℕ) → OuterFacts p → tail_at p ≤ i → Outside p i
tail-outside p i k h header u = let o = tail-order k in inr (omega arith)
tail-outside p i k h message u =
    let c = used-whole p u in
    let f = whole-facts p c in
    inr (omega (arith, tail-end p (clear-carries p c)))

-- ---- what it answers, and what it changes
module _ (p : List ℕ) where
  -- each refusal comes exactly in its case, in the judge's order
  pub mend-exactly : (v : Verdict) → ((mend_of p).0 ≡ v) ↔ Comes (whole_cases p) v
  unfolding mend_of
  mend-exactly v = rw (call-answers (whole_rules p) p (mended_message (mended_header p))) (told-exactly (whole_rules p) (whole_cases p) (whole-told p) v)

  -- an answer other than good leaves the packet as it was
  pub mend-refused : ((mend_of p).0 ≡ Good → ⊥) → (mend_of p).1 ≡ p
  unfolding mend_of
  mend-refused n = call-refused (whole_rules p) p (mended_message (mended_header p)) n

  -- nothing but the two fields ever changes
  pub mend-only-fields : (i : ℕ) → Outside p i → byte_at (mend_of p).1 i ≡ byte_at p i
  unfolding mend_of
  mend-only-fields i o =
      call-either (whole_rules p) p (mended_message (mended_header p)) (λ q. byte_at q i ≡ byte_at p i) refl
      (λ c. (both-set p c).others i o)

  pub mend-length : length (mend_of p).1 ≡ length p
  unfolding mend_of
  mend-length =
      call-either (whole_rules p) p (mended_message (mended_header p)) (λ q. length q ≡ length p) refl
      (λ c. (both-set p c).same.long)

  -- nor any byte of the tail
  pub mend-tail : (i : ℕ) → tail_at p ≤ i → byte_at (mend_of p).1 i ≡ byte_at p i
  unfolding mend_of
  mend-tail i h =
      call-either (whole_rules p) p (mended_message (mended_header p)) (λ q. byte_at q i ≡ byte_at p i) refl
      (λ c. (both-set p c).others i (tail-outside p i (whole-facts p c).outer h))

  -- the walk leads to where it led
  pub mend-walk : walk_of (mend_of p).1 ≡ walk_of p
  unfolding mend_of
  mend-walk = call-either (whole_rules p) p (mended_message (mended_header p)) (λ q. walk_of q ≡ walk_of p) refl (λ c. walk_same (both-set p c).same.header)

  done : IsClear (whole_rules p) → mend_of p ≡ (Good, mended_message (mended_header p))
  unfolding mend_of
  done c = call-done (whole_rules p) p (mended_message (mended_header p)) c

  mended-clear : (mend_of p).0 ≡ Good → IsClear (whole_rules p)
  unfolding mend_of whole_rules outer_rules walk_rules message_rules shape_rules
  mended-clear g = call-clear (whole_rules p) p (mended_message (mended_header p)) (omega arith) g

  pub mended : IsClear (whole_rules p) → Mended p (mend_of p).1
  mended c = rw (done c) (both-set p c)

-- ---- what the judge says of it
fresh-judged : (p : List ℕ) → IsClear (whole_rules p) → ((s : Sum) → Fresh s p) → (silent_of p ≡ true → four p ≡ true)
    → judge_of p ≡ (if silent_of p then Unsummed else Good)
fresh-judged p c f quiet =
    sym (accepting p c (header-right (whole-facts p c).outer (f header)))
    ∙ by_cases (silent_of p)
    (λ u. simp u (sym (unsummed p u (quiet u))))
    (λ u. simp u (sym (good p u (message-right p c (f message) u))))

-- afterwards the judge says good, or unsummed where UDP's 0000 over IPv4 was kept
pub mended-judged : (p : List ℕ) → (mend_of p).0 ≡ Good → judge_of (mend_of p).1 ≡ (if silent_of p && four p then Unsummed else Good)
mended-judged p g =
    let c = mended-clear p g in
    let m = mended p c in
    fresh-judged (mend_of p).1 (rw (whole_same (same_layout m.same)) c) m.fresh
    (λ u. four_same m.same.header ∙ (and-true (silent_of p) (four p) (sym m.silent ∙ u)).1)
    ∙ ap (λ b. if b then Unsummed else Good) m.silent

-- ---- where it changes nothing
-- a word written where it stands
word-put : (p : List ℕ) (f : ℕ) → Bytes p → put_word p f (word_at p f) ≡ p
unfolding put
word-put p f b =
    let x : word_at p f / 256 ≡ byte_at p f = omega (arith, b (f + 1)) in
    let y : word_at p f % 256 ≡ byte_at p (f + 1) = omega (arith, b (f + 1)) in
    rw (x, y, set-get_or p f 0, add-one f) (set-get_or p (suc f) 0)

fresh-stands : (p : List ℕ) → Bytes p → IsClear (whole_rules p) → ((s : Sum) → Fresh s p) → mended_message (mended_header p) ≡ p
unfolding mended_header mended_message
fresh-stands p b c fresh =
    let e : mended_header p ≡ p = by_cases (four p) (λ f. simp f (rw (sym (fresh header f)) (word-put p header_field b))) (λ f. simp f) in
    ap mended_message e
    ∙ by_cases (silent_of p && four p)
    (λ u. simp u)
    (λ u. simp u (rw (sym (fresh message (simp (clear-carries p c, u)))) (word-put p (field_at p) b)))

-- to leave a packet as it is means, if it carries a message, that its fields in use stand fresh
pub mend-fresh : (p : List ℕ) → Bytes p → ((mend_of p).1 ≡ p) ↔ (carries p ≡ true → (s : Sum) → Fresh s p)
unfolding mend_of
mend-fresh p b = (
  λ e c s u. ap (λ q. word_at q (placed s p)) (sym e) ∙ (mended p (carries-clear p c)).sets s u,
  λ f. call-either (whole_rules p) p (mended_message (mended_header p)) (λ q. q ≡ p) refl (λ c. fresh-stands p b c (f (clear-carries p c))),
)

-- mending twice is mending once, in the answer and in every byte
pub mended-twice : (p : List ℕ) → Bytes p → mend_of (mend_of p).1 ≡ mend_of p
unfolding mend_of
mended-twice p b =
    first_either {A = Verdict × List ℕ} (λ x. mend_of p ≡ x → mend_of x.1 ≡ x) (whole_rules p) (λ v. (v, p)) (Good, mended_message (mended_header p))
    (λ v e. e)
    (λ c e.
    let m = both-set p c in
    let q = mended_message (mended_header p) in
    done q (rw (whole_same (same_layout m.same)) c) ∙ ap (λ r. (Good, r)) (fresh-stands q (m.bytes b) (rw (whole_same (same_layout m.same)) c) m.fresh))
    refl

-- ---- a good packet
pub outside : (p : List ℕ) (i : ℕ) → (four p ≡ true → (i < header_field) ⊎ (header_field + 1 < i)) → (i < field_at p) ⊎ (field_at p + 1 < i) → Outside p i
outside p i h m = each (λ s. used s p ≡ true → (i < placed s p) ⊎ (placed s p + 1 < i)) h (λ u. m)

-- every i is a byte of the header's field, of the message's, or of neither
where-stands : (p : List ℕ) (i : ℕ) → Outside p i ⊎ ((four p ≡ true) × ((i ≡ header_field) ⊎ (i ≡ header_field + 1))) ⊎ ((i ≡ field_at p) ⊎ (i ≡ field_at p + 1))
where-stands p i =
    elim (ℕ_discrete i (field_at p)) [
      | yes e ↦ inr (inr (inl e))
      | no e ↦ elim (ℕ_discrete i (field_at p + 1)) [
        | yes g ↦ inr (inr (inr g))
        | no g ↦
            let m : (i < field_at p) ⊎ (field_at p + 1 < i) = elim (dec_lt i (field_at p)) [ yes l ↦ inl l | no l ↦ inr (omega arith) ] in
            by_cases (four p)
            (λ f. elim (ℕ_discrete i header_field) [
              | yes h ↦ inr (inl (f, inl h))
              | no h ↦ elim (ℕ_discrete i (header_field + 1)) [
                | yes j ↦ inr (inl (f, inr j))
                | no j ↦ inl (outside p i (λ u. elim (dec_lt i header_field) [ yes l ↦ inl l | no l ↦ inr (omega arith) ]) m)
              ]
            ])
            (λ f. inl (outside p i (λ u. absurd (true≢false (sym u ∙ f))) m))
      ]
    ]

-- two packets of bytes that agree in a word agree in its bytes
word_bytes : (p q : List ℕ) (f i : ℕ) → Bytes p → Bytes q → (i ≡ f) ⊎ (i ≡ f + 1) → word_at q f ≡ word_at p f → byte_at q i ≡ byte_at p i
word_bytes p q f i a b w e =
    ⊎_elim
    (λ j. ap (byte_at q) j ∙ omega (arith, a (f + 1), b (f + 1)) ∙ ap (byte_at p) (sym j))
    (λ j. ap (byte_at q) j ∙ omega (arith, a (f + 1), b (f + 1)) ∙ ap (byte_at p) (sym j))
    w

-- and so do those of a word that is 0
zero-bytes : (q : List ℕ) (f i : ℕ) → (i ≡ f) ⊎ (i ≡ f + 1) → word_at q f ≡ 0 → byte_at q i ≡ 0
zero-bytes q f i w e = ⊎_elim (λ j. ap (byte_at q) j ∙ omega arith) (λ j. ap (byte_at q) j ∙ omega arith) w

module _ (p : List ℕ) (b : Bytes p) (c : IsClear (whole_rules p)) where
  header-either : header_sums p ≡ true → four p ≡ true → (word_at p header_field ≡ fresh_header p) ⊎ ((word_at p header_field ≡ 65535) × (fresh_header p ≡ 0))
  unfolding fresh_header sent
  header-either s f =
      ⊎_elim inl (λ x. inr (x.1, x.2))
      (passing-fresh (header_total (put_word p header_field 0)) (word_at p header_field) false (word_small p header_field b)
      (ap passes (aside_h (whole-facts p c).outer (same_self p)) ∙ sums4 p f ∙ s) (λ e. absurd (true≢false (sym e))))

  message-either : silent_of p ≡ false → message_sums p ≡ true
      → (word_at p (field_at p) ≡ fresh_message p) ⊎ ((udp p ≡ false) × (word_at p (field_at p) ≡ 65535) × (fresh_message p ≡ 0))
  unfolding fresh_message message_sums
  message-either u s =
      passing-fresh (message_total (put_word p (field_at p) 0)) (word_at p (field_at p)) (udp p) (word_small p (field_at p) b)
      (ap passes (aside_f (whole-facts p c) (same_self p)) ∙ s)
      (λ e. let n : ¬ (word_at p (field_at p) ≡ 0) = eqb-false (word_at p (field_at p)) 0 (simp e at (sym (silent-at (same_self p) (whole-facts p c)) ∙ u)) in omega arith)

-- the sums in use pass
record Passes (p : List ℕ) : Type 0 where
  whole : IsClear (whole_rules p)
  header : header_sums p ≡ true
  message : (silent_of p && four p) ≡ false → (silent_of p ≡ false) × (message_sums p ≡ true)

good-passes : (p : List ℕ) → (judge_of p ≡ Good) ⊎ (judge_of p ≡ Unsummed) → Passes p
good-passes p =
    ⊎_elim
    (λ e.
    let a = accepted p Good (omega arith) e in
    record { whole = a.0; header = a.1; message = λ u. verdict-good p a.2 })
    (λ e.
    let a = accepted p Unsummed (omega arith) e in
    let v = verdict-unsummed p a.2 in
    record { whole = a.0; header = a.1; message = λ u. absurd (true≢false (simp (v.0, v.1) at u)) })

-- of a good packet, or an unsummed one, a byte can change only where a field other than UDP's stands at FFFF and the fresh
-- one is 0000; it becomes 0
pub good-stands : (p : List ℕ) → Bytes p → (judge_of p ≡ Good) ⊎ (judge_of p ≡ Unsummed) → (i : ℕ)
    → (byte_at (mend_of p).1 i ≡ byte_at p i) ⊎ (Full p i × (byte_at (mend_of p).1 i ≡ 0))
good-stands p b g i =
    let s = good-passes p g in
    let c = s.whole in
    let m = mended p c in
    let q = (mend_of p).1 in
    let bq = m.bytes b in
    ⊎_elim (λ o. inl (mend-only-fields p i o))
    (⊎_elim
    (λ w.
    let e = m.sets header w.0 in
    ⊎_elim
    (λ x. inl (word_bytes p q header_field i b bq w.1 (e ∙ sym x)))
    (λ x. inr (inl (w.0, w.1, x.0, x.1), zero-bytes q header_field i w.1 (e ∙ x.1)))
    (header-either p b c s.header w.0))
    (λ w.
    by_cases (silent_of p && four p)
    (λ u. inl (word_bytes p q (field_at p) i b bq w (m.kept u)))
    (λ u.
    let t = s.message u in
    let e = m.sets message (simp (clear-carries p c, u)) in
    ⊎_elim
    (λ x. inl (word_bytes p q (field_at p) i b bq w (e ∙ sym x)))
    (λ x. inr (inr (x.0, w, x.1, x.2), zero-bytes q (field_at p) i w (e ∙ x.2)))
    (message-either p b c t.0 t.1))))
    (where-stands p i)
