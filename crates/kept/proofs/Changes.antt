-- What the address edit and the stretch keep.
use mathlib.Core.Path.{◌≡◌, refl, sym, ◌∙◌}
use mathlib.Core.Logic.{inl, inr}
use Prim.Native.Nat.{ℕ, suc, ◌+◌, ◌-◌, ◌<◌, ◌≤◌}
use native.Mathlib.Omega.{arith}
use mathlib.Core.List.{List, [], ◌∷◌}
use mathlib.Core.Bool.{Bool, true, false, not, ◌&&◌, true≢false}
use lib.ListN.{length}
use lib.Dec.{eqb}
use borrow.Author.Tests.{ltb-false, eqb-false, eq-eqb, ne_eqb}
use Rattle.verdicts.specs.Rules.{IsClear}
use Rattle.verdicts.proofs.Tests.{by_cases, or-false}
use Rattle.sums.specs.Total.{weigh, total}
use Rattle.wire.specs.Bytes.{part, put, put_word, Bytes}
use Rattle.wire.specs.Outer.{addresses_at, four, header_field}
use Rattle.wire.specs.Inner.{protocol_of, body_of, end_of, field_at, length_of, pseudo, silent_of, start_of}
use Rattle.wire.proofs.Facts.{Facts}
use Rattle.wire.proofs.Writes.{bytes-wrote, put-wrote, word-above, word_below}
use Rattle.wire.proofs.Same.{Same, same_self, same_step, soft-header, soft-message}
use Rattle.cover.specs.Sums.{message_total}
use Rattle.cover.proofs.Totals.{address_total, rest_total, message-parts}
use Rattle.cover.proofs.Blocks.{header-out, message-out, message-address, message-in, message-some}
use Rattle.judge.proofs.Kept.{Accepted}
use Rattle.mend.specs.Mend.{Outside}
use Rattle.mend.specs.Fresh.{header, message}
use Rattle.mend.proofs.Fresh.{same_f}
use Rattle.mend.proofs.Mending.{outside}
use Rattle.kept.specs.Update.{message_after}
use Rattle.kept.specs.Edits.{Addressed, address_left, all_zero, blank, stretch_rules, stretch_left}
use Rattle.kept.proofs.Done.{header-carry, message-carry, header-self, message-self}
use Rattle.kept.proofs.Steps.{Kept, header-step, message-step}

-- ---- the address
addresses-low : (p : List ℕ) → (8 ≤ addresses_at p) × (four p ≡ true → addresses_at p ≡ 12)
addresses-low p =
    by_cases (four p)
    (λ f. simp f (omega arith, λ g. refl))
    (λ f. simp f (omega arith, λ g. absurd (true≢false (sym g))))

module _ (p : List ℕ) (by : Bytes p) (c : Accepted p) (at : ℕ) (new : List ℕ) (bn : Bytes new) (l : Addressed p at (length new)) where
  pub address_step : Kept (four p) (pseudo p && not (silent_of p)) p (address_left p at new) at new
  address_step =
      let k = c.facts in
      let z = same_self p in
      let low = addresses-low p in
      let w = put-wrote p at new (omega arith) in
      let s = same_step z w (soft-header k.outer at (length new) (omega arith) (omega arith) (λ f. (omega arith, inr (let e = low.1 f in omega arith)))) in
      let h = header-step k.outer by s (bytes-wrote w by bn) at new w (omega arith) (λ f. inr (let e = low.1 f in omega arith)) in
      let word = h.word k ∙ word-above w (field_at p) (omega arith) in
      let apart : (i : ℕ) → at ≤ i → i < at + length new → Outside p i =
      λ i g j. outside p i (λ f. inr (let e = low.1 f in omega arith)) (inl (omega arith)) in
      by_cases (pseudo p)
      (λ t.
      let m = message-step c by h.same h.bytes (at - addresses_at p) at new
      (rw (h.total k) (message-address k z s w (at - addresses_at p) t (omega arith) l.to)) word h.kept
      (message-some k (same_f k z 0) t) (message-some k (same_f k h.same 0) t) in
      simp t
      (record {
        same = m.same;
        bytes = m.bytes;
        header = m.header;
        message = λ w. m.kept;
        others = λ i o. m.others i (o message) ∙ h.others i (o header);
        apart = apart;
        fits = omega arith;
      }))
      (λ t.
      simp t
      (record {
        same = h.same;
        bytes = h.bytes;
        header = h.kept;
        message = λ c. message-carry k z h.same
            (h.total k ∙ message-out k z s w (omega arith) (λ u. absurd (true≢false (sym u ∙ t)))) word (message-self p);
        others = λ i o. h.others i (o header);
        apart = apart;
        fits = omega arith;
      }))

-- ---- the stretch
pub some-weigh : (b : Bool) (xs : List ℕ) → all_zero xs ≡ false → 0 < weigh b xs
unfolding weigh
some-weigh b [] e = absurd (true≢false e)
some-weigh false (x ∷ xs) e =
    by_cases (eqb x 0)
    (λ t. omega (arith, some-weigh true xs (simp t at e)))
    (λ t. let n : ¬ (x ≡ 0) = eqb-false x 0 t in omega arith)
some-weigh true (x ∷ xs) e =
    by_cases (eqb x 0)
    (λ t. omega (arith, some-weigh false xs (simp t at e)))
    (λ t. let n : ¬ (x ≡ 0) = eqb-false x 0 t in omega arith)

module _ {p q : List ℕ} (k : Facts p) (a : Same p q) where
  unblank : blank p q ≡ false → pseudo p ≡ false → 0 < message_total (put_word q (field_at p) 0)
  unfolding address_total rest_total blank
  unblank b t =
      let r = put_word q (field_at p) 0 in
      let e : message_total r ≡ 0 + 0 + total (part r (start_of p) (length_of p)) = message-parts k (same_f k a 0) ∙ simp t in
      omega (arith, some-weigh false (part r (start_of p) (length_of p)) b)

module _ (p : List ℕ) (by : Bytes p) (c : Accepted p) (place : ℕ) where
  stretch-some : (new : List ℕ) → Bytes new → 0 < length new → IsClear (stretch_rules p place new)
      → Kept false (not (silent_of p)) p (message_after p (body_of p + place - start_of p) (body_of p + place) new (put p (body_of p + place) new)) (body_of p + place) new
  stretch-some new bn some r =
      let k = c.facts in
      let at = body_of p + place in
      let z = same_self p in
      let fits = ltb-false (end_of p - body_of p) (place + length new) r.0 in
      let w = put-wrote p at new (omega arith) in
      let s = same_step z w (soft-message k at (length new) (omega arith)) in
      let blanks : (pseudo p ≡ false) → (blank p p ≡ false) × (blank p (put p at new) ≡ false) =
      λ t. or-false (blank p p) (blank p (put p at new))
      (simp (eq-eqb (protocol_of p) 1 (k.plain t), ne_eqb (length new) 0 (λ e. omega arith)) at r.1.0) in
      let at0 : 0 < message_total (put_word p (field_at p) 0) = by_cases (pseudo p) (λ t. message-some k (same_f k z 0) t) (λ t. unblank k z (blanks t).0 t) in
      let at1 : 0 < message_total (put_word (put p at new) (field_at p) 0) = by_cases (pseudo p) (λ t. message-some k (same_f k s 0) t) (λ t. unblank k s (blanks t).1 t) in
      let h = header-carry k.outer z s (header-out k.outer z s w (omega arith)) (word_below w header_field (omega arith)) (header-self p) in
      let m = message-step c by s (bytes-wrote w by bn) (at - start_of p) at new
      (message-in k z s w (at - start_of p) (omega arith) (omega arith)) (word_below w (field_at p) (omega arith)) h at0 at1 in
      record {
        same = m.same;
        bytes = m.bytes;
        header = m.header;
        message = λ w. m.kept;
        others = λ i o. m.others i (o message);
        apart = λ i g j. outside p i (λ f. inr (omega arith)) (inr (omega arith));
        fits = omega arith;
      }

  pub stretch-step : (new : List ℕ) → Bytes new → IsClear (stretch_rules p place new)
      → Kept false (not (eqb (length new) 0) && not (silent_of p)) p (stretch_left p (body_of p + place) new) (body_of p + place) new
  unfolding put
  stretch-step [] bn r =
      let k = c.facts in
      let fits = ltb-false (end_of p - body_of p) (place + 0) r.0 in
      record {
        same = same_self p;
        bytes = by;
        header = header-self p;
        message = λ w. message-self p;
        others = λ i o. refl;
        apart = λ i g j. absurd (omega arith);
        fits = omega arith;
      }
  stretch-step (x ∷ new) bn r =
      rw (ne_eqb (suc (length new)) 0 (λ e. omega arith)) (stretch-some (x ∷ new) bn (omega arith) r)
