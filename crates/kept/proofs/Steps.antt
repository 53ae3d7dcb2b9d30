-- What an edit keeps: the steps that update the header's field and the message's, and the lifetime edit as a whole.
use mathlib.Core.Path.{◌≡◌, refl, sym, ap, ◌∙◌}
use mathlib.Core.Logic.{◌⊎◌, inl, ⊎_elim}
use Prim.Native.Nat.{ℕ, zero, suc, ◌+◌, ◌<◌, ◌≤◌}
use native.Mathlib.Omega.{arith}
use mathlib.Core.List.{List}
use mathlib.Core.Bool.{Bool, true, false, not, ◌&&◌, true≢false}
use lib.ListN.{length}
use Rattle.verdicts.specs.Rules.{IsClear}
use Rattle.verdicts.proofs.Tests.{by_cases}
use Rattle.verdicts.proofs.Rules.{clear_both}
use Rattle.sums.specs.Total.{odd, weigh}
use Rattle.sums.specs.Fold.{fold}
use Rattle.sums.proofs.Updates.{update-small}
use Rattle.wire.specs.Bytes.{byte_at, word_at, part, put, put_word, Bytes}
use Rattle.wire.specs.Outer.{addresses_at, four, header_end, header_field, lifetime_at}
use Rattle.wire.specs.Inner.{field_at, silent_of, udp, whole_rules}
use Rattle.wire.proofs.Facts.{OuterFacts, Facts, field-behind}
use Rattle.wire.proofs.Held.{clear-carries, whole-facts}
use Rattle.wire.proofs.Writes.{Wrote, bytes_word, bytes-wrote, put-wrote, word-above, word_below}
use Rattle.wire.proofs.Same.{Same, same_self, same_step, soft-header}
use Rattle.cover.specs.Sums.{message_total}
use Rattle.cover.proofs.Blocks.{header-in, header-out, message-out}
use Rattle.judge.specs.Judge.{missing_rule}
use Rattle.judge.proofs.Kept.{Accepted, accepted-whole}
use Rattle.mend.specs.Fresh.{sent, header, message, used}
use Rattle.mend.specs.Mend.{Outside}
use Rattle.mend.proofs.Numbers.{sent-small}
use Rattle.mend.proofs.Fresh.{used-sums, write_h, write_f, same_h, same_f, silent-carry, used-carry}
use Rattle.mend.proofs.Mending.{outside}
use Rattle.kept.specs.Update.{updated_at, header_after, message_after}
use Rattle.kept.specs.Edits.{edit_rules, lowered}
use Rattle.kept.proofs.Done.{HeaderKept, MessageKept, header-done, message-done, header-carry, message-carry, header-none, message-self}

-- a packet that no rule of the edits' common order refuses: a silent one is IPv4's
pub accepted : (p : List ℕ) → IsClear (edit_rules p) → Accepted p
unfolding edit_rules
accepted p c =
    let w = clear_both (whole_rules p) (missing_rule p) c in
    accepted-whole p w.0
    (λ u. by_cases (four p)
    (λ f. f)
    (λ f. absurd (true≢false (simp (u, f) at w.1.0))))

-- where the message's field is in use
pub in_use : {p : List ℕ} → Accepted p → used message p ≡ not (silent_of p)
in_use {p} c =
    by_cases (silent_of p)
    (λ u. simp (clear-carries p c.whole, u, c.quiet u))
    (λ u. simp (clear-carries p c.whole, u))

-- what an edit leaves: new bytes at a place, and beside them only the fields; h says whether the header's is updated, and m whether
-- the message's
pub record Kept (h m : Bool) (p q : List ℕ) (at : ℕ) (new : List ℕ) : Type 0 where
  pub same : Same p q
  pub bytes : Bytes q
  pub header : HeaderKept h p q
  pub message : IsClear (whole_rules p) → MessageKept m p q
  pub others : (i : ℕ) → Outside p i → byte_at q i ≡ byte_at (put p at new) i
  pub apart : (i : ℕ) → at ≤ i → i < at + length new → Outside p i
  pub fits : at + length new ≤ length p

updated-bytes : (p : List ℕ) (f pos at : ℕ) (new : List ℕ) → updated_at p f pos at new ≤ 65535
unfolding updated_at
updated-bytes p f pos at new = omega (arith, update-small (word_at p f) (fold (weigh (odd pos) (part p at (length new)))) (fold (weigh (odd pos) new)))

-- ---- the header's field
module _ {p q : List ℕ} (k : OuterFacts p) (by : Bytes p) (a : Same p q) (bq : Bytes q) (at : ℕ) (new : List ℕ) (w : Wrote p q at new)
    (low : at + length new ≤ header_end p) (off : four p ≡ true → (at + length new ≤ header_field) ⊎ (header_field + 2 ≤ at)) where
  pub record HeaderStep (r : List ℕ) : Type 0 where
    pub same : Same p r
    pub bytes : Bytes r
    pub kept : HeaderKept (four p) p r
    pub total : Facts p → message_total r ≡ message_total q
    pub word : Facts p → word_at r (field_at p) ≡ word_at q (field_at p)
    pub others : (i : ℕ) → (four p ≡ true → (i < header_field) ⊎ (header_field + 1 < i)) → byte_at r i ≡ byte_at q i

  header-step4 : four p ≡ true → HeaderStep (put_word q header_field (updated_at p header_field at at new))
  header-step4 f =
      let v = updated_at p header_field at at new in
      let x = write_h k a v in
      let s = same_h k a v in
      record {
        same = s;
        bytes = bytes-wrote x bq (bytes_word v (updated-bytes p header_field at at new));
        kept = header-done k by a at new (header-in k (same_self p) a w low)
            (⊎_elim (λ l. word-above w header_field l) (λ l. word_below w header_field l) (off f));
        total = λ m. message-out m a s x (omega arith) (λ t. simp f (omega arith));
        word = λ m. word-above x (field_at p) (omega arith);
        others = λ i o. ⊎_elim (λ l. x.below i l) (λ l. x.above i (omega arith)) (o f);
      }

  header-step6 : four p ≡ false → HeaderStep q
  header-step6 f = record { same = a; bytes = bq; kept = header-none a f; total = λ m. refl; word = λ m. refl; others = λ i o. refl }

  pub header-step : HeaderStep (header_after p at new q)
  unfolding header_after
  header-step = by_cases (four p) (λ f. simp f (header-step4 f)) (λ f. simp f (header-step6 f))

-- ---- the message's field
module _ {p q : List ℕ} {hu : Bool} (c : Accepted p) (by : Bytes p) (a : Same p q) (bq : Bytes q) (pos at : ℕ) (new : List ℕ)
    (total : message_total q + weigh (odd pos) (part p at (length new)) ≡ message_total p + weigh (odd pos) new)
    (word : word_at q (field_at p) ≡ word_at p (field_at p)) (h : HeaderKept hu p q)
    (some0 : 0 < message_total (put_word p (field_at p) 0)) (some1 : 0 < message_total (put_word q (field_at p) 0)) where
  pub record MessageStep (r : List ℕ) : Type 0 where
    pub same : Same p r
    pub bytes : Bytes r
    pub header : HeaderKept hu p r
    pub kept : MessageKept (not (silent_of p)) p r
    pub others : (i : ℕ) → (used message p ≡ true → (i < field_at p) ⊎ (field_at p + 1 < i)) → byte_at r i ≡ byte_at q i

  message-summed : silent_of p ≡ false → MessageStep (put_word q (field_at p) (sent (udp p) (updated_at p (field_at p) pos at new)))
  message-summed u =
      let k = c.facts in
      let v = sent (udp p) (updated_at p (field_at p) pos at new) in
      let x = write_f k a v in
      let s = same_f k a v in
      record {
        same = s;
        bytes = bytes-wrote x bq (bytes_word v (sent-small (udp p) (updated_at p (field_at p) pos at new) (updated-bytes p (field_at p) pos at new)));
        header = header-carry k.outer a s (header-out k.outer a s x (omega arith)) (word_below x header_field (omega arith)) h;
        kept = message-done c.whole by a at new pos total word u some0 some1;
        others = λ i o. ⊎_elim (λ l. x.below i l) (λ l. x.above i (omega arith)) (o (in_use c ∙ ap not u));
      }

  message-silent : silent_of p ≡ true → MessageStep q
  message-silent u =
      let k = c.facts in
      let z = silent-carry k (same_self p) a word in
      let still : (silent_of p && four p) ≡ true = simp (u, c.quiet u) in
      record {
        same = a;
        bytes = bq;
        header = h;
        kept = record {
          heard = record { silent = z; sums = λ g. absurd (true≢false (sym still ∙ g)) };
          fresh = λ f g. absurd (true≢false (sym still ∙ used-sums p (sym (used-carry k (same_self p) a word) ∙ g)));
          renewed = λ n. absurd (true≢false (sym n ∙ ap not u));
          stays = λ n. word;
        };
        others = λ i o. refl;
      }

  pub message-step : MessageStep (message_after p pos at new q)
  unfolding message_after
  message-step = by_cases (silent_of p) (λ u. simp u (message-silent u)) (λ u. simp u (message-summed u))

-- ---- the lifetime
life-places : (p : List ℕ) → (7 ≤ lifetime_at p) × (lifetime_at p ≤ 8) × (lifetime_at p + 1 ≤ addresses_at p) × (four p ≡ true → lifetime_at p ≡ 8)
life-places p =
    by_cases (four p)
    (λ f. simp f (omega arith, omega arith, omega arith, λ g. refl))
    (λ f. simp f (omega arith, omega arith, omega arith, λ g. absurd (true≢false (sym g))))

module _ (p : List ℕ) (by : Bytes p) (k : OuterFacts p) where
  pub lifetime-step : Kept (four p) false p (header_after p (lifetime_at p) (lowered p) (put p (lifetime_at p) (lowered p))) (lifetime_at p) (lowered p)
  lifetime-step =
      let at = lifetime_at p in
      let l = life-places p in
      let z = same_self p in
      let w = put-wrote p at (lowered p) (omega arith) in
      let s = same_step z w (soft-header k at 1 l.0 (omega arith) (λ f. let e = l.3 f in (omega arith, inl (omega arith)))) in
      let b = bytes-wrote w by (lowered-bytes) in
      let h = header-step k by s b at (lowered p) w (omega arith) (λ f. inl (let e = l.3 f in omega arith)) in
      record {
        same = h.same;
        bytes = h.bytes;
        header = h.kept;
        message = λ c.
            let m = whole-facts p c in
            message-carry m z h.same (h.total m ∙ message-out m z s w (omega arith) (λ t. l.2))
            (h.word m ∙ word-above w (field_at p) (omega arith)) (message-self p);
        others = λ i o. h.others i (o header);
        apart = λ i g j. outside p i (λ f. inl (omega arith)) (inl (omega (arith, field-behind k)));
        fits = omega arith;
      }
    where
      lowered-bytes : Bytes (lowered p)
      lowered-bytes zero = omega (arith, by (lifetime_at p))
      lowered-bytes (suc i) = omega arith
