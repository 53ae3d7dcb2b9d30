-- What the writes of an edit keep of a sum whose field they update, and of one whose field they leave.
use mathlib.Core.Path.{◌≡◌, refl, sym, ap, ◌∙◌}
use Prim.Native.Nat.{ℕ, ◌+◌, ◌%◌, ◌<◌, ◌≤◌}
use native.Mathlib.Omega.{arith}
use mathlib.Core.List.{List}
use mathlib.Core.Bool.{Bool, true, false, not, true≢false}
use lib.ListN.{length}
use Rattle.verdicts.specs.Rules.{IsClear}
use Rattle.sums.specs.Total.{odd, weigh}
use Rattle.sums.specs.Fold.{fold, field_of, passes}
use Rattle.sums.specs.Update.{updated}
use Rattle.sums.proofs.Folds.{fold-as, fold_same}
use Rattle.sums.proofs.Passing.{pass-alike}
use Rattle.sums.proofs.Updates.{update-passes, update-renews}
use Rattle.wire.specs.Bytes.{word_at, part, put_word, Bytes}
use Rattle.wire.specs.Outer.{four, header_field}
use Rattle.wire.specs.Inner.{field_at, pseudo, silent_of, udp, whole_rules}
use Rattle.wire.proofs.Facts.{OuterFacts, Facts}
use Rattle.wire.proofs.Writes.{word_small, word-wrote}
use Rattle.wire.proofs.Same.{Same, silent-at, field-same, four_same, same_self}
use Rattle.wire.proofs.Held.{whole-facts}
use Rattle.cover.specs.Sums.{header_total, message_total, header_sums, message_sums}
use Rattle.cover.proofs.Blocks.{header-word, message-field, header-some, message-some}
use Rattle.judge.proofs.Answers.{sums4}
use Rattle.judge.proofs.Kept.{Heard}
use Rattle.mend.specs.Fresh.{sent, fresh_header, header, message, Fresh}
use Rattle.mend.proofs.Numbers.{sent-some, sent-mod}
use Rattle.mend.proofs.Fresh.{write_h, write_f, same_h, same_f, aside_h, aside_f, fresh_f, header-right, message-right, header-fresh, silent-carry, aside-carry, message-fresh}
use Rattle.kept.specs.Update.{updated_at}

-- from p to q; u says whether the field is updated
pub record HeaderKept (u : Bool) (p q : List ℕ) : Type 0 where
  pub sums : header_sums q ≡ header_sums p
  pub fresh : Fresh header p → Fresh header q
  pub renewed : u ≡ true → header_sums p ≡ true → Fresh header q
  pub stays : u ≡ false → four p ≡ true → word_at q header_field ≡ word_at p header_field

pub record MessageKept (u : Bool) (p q : List ℕ) : Type 0 where
  pub heard : Heard p q
  pub fresh : Fresh message p → Fresh message q
  pub renewed : u ≡ true → message_sums p ≡ true → Fresh message q
  pub stays : u ≡ false → word_at q (field_at p) ≡ word_at p (field_at p)

-- ---- the field is updated
-- a block's total is t, s with a part of it replaced, and r with the field as it is sent too; x and y are t and r but for the field
block-done : (t s r x y m n hc v : ℕ) (u : Bool) → hc ≤ 65535 → s + m ≡ t + n → r + hc ≡ s + v → v ≡ sent u (updated hc (fold m) (fold n))
    → x + hc ≡ t → y + v ≡ r → 0 < t → 0 < y → (passes r ≡ passes t) × (passes t ≡ true → v ≡ sent u (field_of (fold y)))
block-done t s r x y m n hc v u small bytes field e a b there some =
    let w : field_of (fold y) % 65535 ≡ field_of (fold y) = omega (arith, fold-as y) in (
      update-passes t r hc m n v small (ap (λ d. d % 65535) e ∙ sent-mod u (updated hc (fold m) (fold n))) (omega arith) (omega arith) there,
      λ p. e ∙ ap (sent u) (update-renews x y hc m n small (omega arith) (ap passes a ∙ p) ∙ w),
    )

module _ {p q : List ℕ} (k : OuterFacts p) (by : Bytes p) (a : Same p q) (at : ℕ) (new : List ℕ) where
  pub header-done : header_total q + weigh (odd at) (part p at (length new)) ≡ header_total p + weigh (odd at) new
      → word_at q header_field ≡ word_at p header_field → HeaderKept (four p) p (put_word q header_field (updated_at p header_field at at new))
  unfolding updated_at header_sums fresh_header sent
  header-done t e =
      let v = updated_at p header_field at at new in
      let r = put_word q header_field v in
      let sr = same_h k a v in
      let f = header-word v k a sr (write_h k a v) in
      let f' : header_total r + word_at p header_field ≡ header_total q + v = rw e at f in
      let w : word_at r header_field ≡ v = word-wrote v (write_h k a v) in
      let z = same_self p in
      let b = block-done (header_total p) (header_total q) (header_total r) (header_total (put_word p header_field 0)) (header_total (put_word r header_field 0)) _ _
      (word_at p header_field) v false (word_small p header_field by) t f' refl
      (aside_h k z) (ap (λ n. header_total (put_word r header_field 0) + n) (sym w) ∙ aside_h k sr) (header-some k z) (header-some k (same_h k sr 0)) in
      let renewed : header_sums p ≡ true → Fresh header r = λ s y. w ∙ b.1 (sums4 p (sym (four_same sr.header) ∙ y) ∙ s) in
      record {
        sums = rw (four_same sr.header, b.0);
        fresh = λ g. renewed (header-right k g);
        renewed = λ u. renewed;
        stays = λ n f. absurd (true≢false (sym f ∙ n));
      }

module _ {p q : List ℕ} (c : IsClear (whole_rules p)) (by : Bytes p) (a : Same p q) (at : ℕ) (new : List ℕ) where
  pub message-done : (pos : ℕ) → message_total q + weigh (odd pos) (part p at (length new)) ≡ message_total p + weigh (odd pos) new
      → word_at q (field_at p) ≡ word_at p (field_at p) → silent_of p ≡ false
      → 0 < message_total (put_word p (field_at p) 0) → 0 < message_total (put_word q (field_at p) 0)
      → MessageKept (not (silent_of p)) p (put_word q (field_at p) (sent (udp p) (updated_at p (field_at p) pos at new)))
  unfolding updated_at message_sums
  message-done pos t e s some0 some1 =
      let k = whole-facts p c in
      let v = sent (udp p) (updated_at p (field_at p) pos at new) in
      let r = put_word q (field_at p) v in
      let r0 = message_total (put_word r (field_at p) 0) in
      let sr = same_f k a v in
      let f = message-field v k a sr (write_f k a v) in
      let f' : message_total r + word_at p (field_at p) ≡ message_total q + v = rw e at f in
      let w : word_at r (field_at p) ≡ v = word-wrote v (write_f k a v) in
      let z = aside_f k (same_self p) in
      let aside : r0 + v ≡ message_total r = ap (λ n. r0 + n) (sym w) ∙ aside_f k sr in
      let q0 = message_total (put_word q (field_at p) 0) in
      let some2 : 0 < r0 =
      there r0 v (message_total r) (word_at p (field_at p)) (message_total q) q0 aside f' (ap (λ n. q0 + n) (sym e) ∙ aside_f k a) some1 in
      let b = block-done (message_total p) (message_total q) (message_total r) (message_total (put_word p (field_at p) 0)) r0 _ _
      (word_at p (field_at p)) v (udp p) (word_small p (field_at p) by) t f' refl z aside (more _ _ (message_total p) z some0) some2 in
      let renewed : message_sums p ≡ true → Fresh message r = λ m u. ap (word_at r) (field-same sr.header) ∙ w ∙ b.1 m ∙ sym (fresh_f k sr) in
      record {
        heard = record {
          silent = silent-at sr k ∙ rw w (sent-some (udp p) (updated_at p (field_at p) pos at new)) ∙ sym s;
          sums = λ g. b.0;
        };
        fresh = λ g. renewed (message-right p c g s);
        renewed = λ u. renewed;
        stays = λ n. absurd (true≢false (simp s at n));
      }
    where
      more : (a b c : ℕ) → a + b ≡ c → 0 < a → 0 < c
      more a b c h l = omega arith

      there : (r0 v r hc q q0 : ℕ) → r0 + v ≡ r → r + hc ≡ q + v → q0 + hc ≡ q → 0 < q0 → 0 < r0
      there r0 v r hc q q0 h1 h2 h3 h4 = omega arith

-- ---- total and field are left as they are
module _ {p q r : List ℕ} {u : Bool} (k : OuterFacts p) (a : Same p q) (b : Same p r)
    (t : header_total r ≡ header_total q) (e : word_at r header_field ≡ word_at q header_field) where
  pub header-carry : HeaderKept u p q → HeaderKept u p r
  unfolding header_sums
  header-carry h =
      let y : header_sums r ≡ header_sums q = rw (four_same b.header, t, four_same a.header) in
      let fresh = header-fresh k a b t e in
      record { sums = y ∙ h.sums; fresh = λ g. fresh (h.fresh g); renewed = λ n s. fresh (h.renewed n s); stays = λ n f. e ∙ h.stays n f }

module _ {p q r : List ℕ} {u : Bool} (k : Facts p) (a : Same p q) (b : Same p r)
    (t : message_total r ≡ message_total q) (e : word_at r (field_at p) ≡ word_at q (field_at p)) where
  pub message-carry : MessageKept u p q → MessageKept u p r
  unfolding message_sums
  message-carry h =
      let fresh = message-fresh k a b (aside-carry k a b t e) e in
      record {
        heard = record { silent = silent-carry k a b e ∙ h.heard.silent; sums = λ s. rw t (h.heard.sums s) };
        fresh = λ g. fresh (h.fresh g);
        renewed = λ n s. fresh (h.renewed n s);
        stays = λ n. e ∙ h.stays n;
      }

pub header-self : (p : List ℕ) → HeaderKept false p p
header-self p = record { sums = refl; fresh = λ g. g; renewed = λ n. absurd (true≢false (sym n)); stays = λ n f. refl }

pub message-self : (p : List ℕ) → MessageKept false p p
message-self p = record { heard = record { silent = refl; sums = λ s. refl }; fresh = λ g. g; renewed = λ n. absurd (true≢false (sym n)); stays = λ n. refl }

-- ---- IPv6 has no header's
pub header-none : {p q : List ℕ} {u : Bool} → Same p q → four p ≡ false → HeaderKept u p q
unfolding header_sums
header-none a f =
    record {
      sums = rw (four_same a.header, f);
      fresh = λ g h. absurd (true≢false (sym h ∙ four_same a.header ∙ f));
      renewed = λ n s g. absurd (true≢false (sym g ∙ four_same a.header ∙ f));
      stays = λ n g. absurd (true≢false (sym g ∙ f));
    }

-- ---- a message behind a pseudo-header keeps its class, and the field is left as it is
module _ {p q : List ℕ} (k : Facts p) (b : Same p q) (t : message_total q % 65535 ≡ message_total p % 65535)
    (e : word_at q (field_at p) ≡ word_at p (field_at p)) (s : pseudo p ≡ true) where
  aside-class : fold (message_total (put_word q (field_at p) 0)) ≡ fold (message_total (put_word p (field_at p) 0))
  aside-class =
      let z = same_self p in
      let x = message-some k (same_f k z 0) s in
      let y = message-some k (same_f k b 0) s in
      fold_same _ _ (omega (arith, aside_f k z, aside_f k b)) (λ h. omega arith) (λ h. omega arith)

  pub message-class : MessageKept false p q
  unfolding message_sums
  message-class =
      let z = same_self p in
      record {
        heard = record { silent = silent-carry k z b e; sums = λ g. pass-alike (message_total q) (message_total p) (message-some k b s) (message-some k z s) t };
        fresh = message-fresh k z b aside-class e;
        renewed = λ n. absurd (true≢false (sym n));
        stays = λ n. e;
      }
