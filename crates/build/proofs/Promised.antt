-- What is promised of a packet that is built.
use Rattle.std.proofs.Common.{if◌then◌else◌, ◌≡◌, refl, sym, ap, subst, ◌∙◌, ◌↔◌, ◌⊎◌, ◌≢◌, inl, inr, ⊎_elim, ℕ, ◌+◌, ◌<◌, ◌≤◌, arith, List, ◌++◌, true, false, ◌&&◌, ◌||◌, length, take, drop, ltb, eqb, take_at, ltb-false, eqb-true}
use borrow.Author.Tests.{eqb-false}
use Rattle.verdicts.specs.Rules.{Rule, verdict_by, IsClear, Comes}
use Rattle.verdicts.specs.declared.Verdict.{Verdict}
use Rattle.verdicts.specs.declared.Verdict.TheVariants.{Good, Unsummed}
use Rattle.verdicts.proofs.Tests.{by_cases}
use Rattle.verdicts.proofs.Rules.{first-map, first_either, clear-join}
use Rattle.verdicts.proofs.Calls.{Refusals, verdict-clear, call-done}
use Rattle.verdicts.proofs.Telling.{Tells, Told, not-tells, or-tells, eqb_tells, ltb-tells, as-tells, next, told-exactly}
use Rattle.wire.specs.Bytes.{byte_at, put}
use Rattle.wire.specs.Outer.{four, outer_rules}
use Rattle.wire.specs.Walk.{refusals, walk_of, walk_rules}
use Rattle.wire.specs.Inner.{silent_of, message_rules, whole_rules}
use Rattle.wire.specs.declared.Family.{Family}
use Rattle.wire.proofs.Writes.{Wrote, put-wrote}
use Rattle.judge.specs.Judge.{judge_of}
use Rattle.judge.proofs.Tail.{tail-added}
use Rattle.mend.specs.Fresh.{fresh_header, fresh_message}
use Rattle.mend.specs.Mend.{mended_header, mended_message, mend_of}
use Rattle.mend.proofs.Numbers.{sent-some}
use Rattle.mend.proofs.Mending.{mended-judged}
use Rattle.build.specs.Layout.{Asked, asked, family_for, laid, packet_of, size_of}
use Rattle.build.specs.Build.{neither, unfit, misfit, build_rules, Built, refusal, done, verdict_in, length_in, built_of}
use Rattle.build.specs.Reads.{Builds, Reads, Plain, build_cases}
use Rattle.build.proofs.Laid.{Read, read, start_is, protocol-is, end_is, inner-clear, silent-is, source-port-is, destination-port-is, data_is}
use Rattle.build.proofs.Summed.{fresh-message-is, laid-mended}
use Rattle.build.proofs.Steps.{put_first}
use Rattle.build.proofs.Answers.{fits, packet-long, at-good}

-- ---- of the packet itself
module _ (a : Asked) (u : misfit a ≡ false) where
  abbrev f : Family
  f = family_for a.source

  abbrev p : List ℕ
  p = packet_of a

  abbrev blank : List ℕ
  blank = laid f a 0 0

  read-packet : Read f a (fresh_message blank) p
  unfolding packet_of
  read-packet = read f a (fresh_header blank) (fresh_message blank) (fits a u)

  whole : IsClear (whole_rules p)
  unfolding whole_rules walk_rules
  whole =
      let r = read-packet in
      clear-join (outer_rules p) (refusals (walk_of p) ++ message_rules p) r.outer
      (clear-join (refusals (walk_of p)) (message_rules p) (rw r.walk (refl, (refl, (refl, tt)))) (inner-clear r))

  summed : silent_of p ≡ false
  summed = silent-is read-packet ∙ ap (λ w. eqb w 0) (fresh-message-is a 0 0 (fits a u)) ∙ sent-some true _

  stands : mended_message (mended_header p) ≡ p
  unfolding packet_of
  stands = laid-mended f a (fresh_header blank) (fresh_message blank) (fits a u) summed

  mended : mend_of p ≡ (Good, p)
  unfolding mend_of
  mended = call-done (whole_rules p) p (mended_message (mended_header p)) whole ∙ ap (λ (q : List ℕ). (Good, q)) stands

  judged : judge_of p ≡ Good
  judged = rw mended at (mended-judged p (ap (λ (x : Verdict × List ℕ). x.0) mended)) ∙ ap (λ s. if s && four p then Unsummed else Good) summed

  reads : Reads a p
  reads =
      let r = read-packet in
      record {
        family = r.family;
        protocol = protocol-is r;
        source = r.source;
        destination = r.destination;
        lifetime = r.lifetime;
        source_port = source-port-is r;
        destination_port = destination-port-is r;
        body = data_is r;
        whole = (end_is r ∙ sym r.long, r.declared ∙ sym r.long);
      }

-- ---- of a call
neither-tells : (n : ℕ) → Tells (neither n) ((n ≢ 4) × (n ≢ 16))
neither-tells n =
    as-tells (not-tells (eqb n 4 || eqb n 16) (or-tells (eqb n 4) (eqb n 16) (eqb_tells n 4) (eqb_tells n 16)))
    (λ h. (λ e. h (inl e), λ e. h (inr e)))
    (λ h. ⊎_elim h.0 h.1)

module _ (a : Asked) (buffer : List ℕ) where
  abbrev rules : List Rule
  rules = build_rules a (length buffer)

  answers : verdict_in (built_of a buffer).0 ≡ verdict_by rules
  unfolding built_of
  answers = first-map (λ (x : Built × List ℕ). verdict_in x.0) rules (λ v. (refusal v, buffer)) (done (length (packet_of a)), put buffer 0 (packet_of a))

  refusing : Refusals rules
  unfolding build_rules
  refusing = (omega arith, (omega arith, (omega arith, tt)))

  -- an answer other than good leaves the buffer, and its length is 0
  pub build-refused : (verdict_in (built_of a buffer).0 ≡ Good → ⊥) → (length_in (built_of a buffer).0 ≡ 0) × ((built_of a buffer).1 ≡ buffer)
  unfolding built_of
  build-refused =
      first_either {A = Built × List ℕ} (λ x. (verdict_in x.0 ≡ Good → ⊥) → (length_in x.0 ≡ 0) × (x.1 ≡ buffer)) rules (λ v. (refusal v, buffer)) (done (length (packet_of a)), put buffer 0 (packet_of a))
      (λ v n. (refl, refl))
      (λ c n. absurd (n refl))

  -- the packet's size, by the source's
  size4 : length a.source ≡ 4 → size_of a ≡ 28 + length a.body
  size4 e = rw e (omega arith)

  size6 : length a.source ≡ 16 → size_of a ≡ 48 + length a.body
  size6 e = rw e (omega arith)

  abbrev Small : ℕ → Type 0
  Small room = ((length a.source ≡ 4) × (room < 28 + length a.body)) ⊎ ((length a.source ≡ 16) × (room < 48 + length a.body))

  small-tells : (room : ℕ) → misfit a ≡ false → Tells (ltb room (size_of a)) (Small room)
  small-tells room u =
      as-tells (ltb-tells room (size_of a))
      (λ h. by_cases (eqb (length a.source) 4)
      (λ t. let e = eqb-true (length a.source) 4 t in inl (e, omega (arith, size4 e)))
      (λ t. let e : length a.source ≡ 16 = simp t at (fits a u).source in inr (e, omega (arith, size6 e))))
      (⊎_elim (λ h. omega (arith, size4 h.0)) (λ h. omega (arith, size6 h.0)))

  told : Told rules (build_cases a (length buffer))
  unfolding build_rules unfit
  told =
      let s = length a.source in
      let d = length a.destination in
      next (or-tells _ _ (neither-tells s) (or-tells _ _ (neither-tells d) (or-tells _ _ (not-tells (eqb s d) (eqb_tells s d)) (ltb-tells 1400 (length a.body)))), refl)
      (λ u. next (eqb_tells a.lifetime 0, refl) (λ z. next (small-tells (length buffer) u, refl) (λ l. tt)))

  -- the verdict is that of the first of the request's conditions that holds
  pub build-exactly : (v : Verdict) → (verdict_in (built_of a buffer).0 ≡ v) ↔ Comes (build_cases a (length buffer)) v
  build-exactly v = rw answers (told-exactly rules (build_cases a (length buffer)) told v)

  module _ {n : ℕ} {q : List ℕ} (e : Builds a buffer n q) where
    none : IsClear rules
    none = verdict-clear rules refusing (sym answers ∙ ap (λ (x : Built × List ℕ). verdict_in x.0) e)

    pub fit : misfit a ≡ false
    unfolding build_rules
    fit = none.0

    room : size_of a ≤ length buffer
    unfolding build_rules
    room = ltb-false (length buffer) (size_of a) none.1.1.0

    left : ◌≡◌ {A = Built × List ℕ} (done (size_of a), packet_of a ++ drop (size_of a) buffer) (done n, q)
    unfolding build_rules
    left = at-good a buffer fit (eqb-false a.lifetime 0 none.1.0) room ∙ e

    size : n ≡ size_of a
    size = sym (ap (λ (x : Built × List ℕ). length_in x.0) left)

    after : q ≡ packet_of a ++ drop n buffer
    after = rw size (sym (ap (λ (x : Built × List ℕ). x.1) left))

    pub is : take n q ≡ packet_of a
    is = rw after (take_at (packet_of a) (drop n buffer) n (packet-long a fit ∙ sym size))

    pub built-good : (judge_of (take n q) ≡ Good) × (judge_of q ≡ Good)
    built-good = (rw is (judged a fit), rw after (tail-added (packet_of a) (drop n buffer) (read-packet a fit).outer ∙ judged a fit))

    pub built-read : Reads a (take n q) × Plain (take n q)
    built-read = rw is (reads a fit, let r = read-packet a fit in r.plain (start_is r))

    pub built-fresh : mend_of (take n q) ≡ (Good, take n q)
    built-fresh = rw is (mended a fit)

    pub built-past : (length q ≡ length buffer) × ((i : ℕ) → n ≤ i → byte_at q i ≡ byte_at buffer i)
    built-past =
        let l = packet-long a fit in
        let k = room in
        let w : Wrote buffer q 0 (packet_of a) =
        subst (λ x. Wrote buffer x 0 (packet_of a)) (put_first buffer (packet_of a) (omega arith) ∙ rw (l, sym size) (sym after)) (put-wrote buffer 0 (packet_of a) (omega arith)) in
        (w.long, λ i h. w.above i (omega (arith, size)))

-- ---- of two calls: that leave the same packet, asked for the same
pub built-apart : (a b : Asked) (buffer other : List ℕ) {q r : List ℕ} {n m : ℕ} → Builds a buffer n q → Builds b other m r → take n q ≡ take m r → a ≡ b
built-apart a b buffer other {q} {r} {n} i j e =
    let x = (built-read a buffer i).0 in
    let y : Reads b (take n q) = rw e (built-read b other j).0 in
    same (sym x.source ∙ y.source) (sym x.destination ∙ y.destination) (sym x.source_port ∙ y.source_port) (sym x.destination_port ∙ y.destination_port)
    (sym x.lifetime ∙ y.lifetime) (sym x.body ∙ y.body)
  where
    same : {s t d e : List ℕ} {g h i j k l : ℕ} {x y : List ℕ} → s ≡ t → d ≡ e → g ≡ h → i ≡ j → k ≡ l → x ≡ y → asked s d g i k x ≡ asked t e h j l y
    same u v w x y z = rw (u, v, w, x, y, z)
