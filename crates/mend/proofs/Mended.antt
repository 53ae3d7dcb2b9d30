-- What mending leaves: the header's field set, and then the message's.
use mathlib.Core.Path.{◌≡◌, refl, sym, ap, ap₂, ◌∙◌}
use mathlib.Core.Logic.{◌⊎◌, ⊎_elim}
use Prim.Native.Nat.{ℕ, ◌+◌, ◌<◌}
use native.Mathlib.Omega.{arith}
use mathlib.Core.List.{List}
use mathlib.Core.Bool.{true, false, ◌&&◌, true≢false}
use lib.Dec.{eqb}
use Rattle.verdicts.specs.Rules.{IsClear}
use Rattle.verdicts.proofs.Tests.{by_cases, and-true}
use Rattle.sums.specs.Fold.{fold, field_of}
use Rattle.wire.specs.Bytes.{byte_at, word_at, put_word, Bytes}
use Rattle.wire.specs.Outer.{four, header_field}
use Rattle.wire.specs.Inner.{field_at, silent_of, udp, whole_rules}
use Rattle.wire.proofs.Facts.{Facts}
use Rattle.wire.proofs.Writes.{bytes_word, bytes-wrote, word-above, word_below, word-wrote}
use Rattle.wire.proofs.Same.{silent-at, Same, field-same, four_same, same_self}
use Rattle.wire.proofs.Held.{clear-carries, whole-facts}
use Rattle.cover.specs.Sums.{header_total, message_total}
use Rattle.cover.proofs.Blocks.{header-out, header-word, message-out, message-field}
use Rattle.mend.specs.Fresh.{sent, fresh_header, fresh_message, Sum, header, message, used, placed, fresh_of, Fresh}
use Rattle.mend.specs.Mend.{mended_header, mended_message, Outside}
use Rattle.mend.proofs.Numbers.{sent-some, sent-small}
use Rattle.mend.proofs.Fresh.{each, used-sums, write_h, write_f, same_h, same_f, aside_h, aside_f, fresh_f, header-fresh, silent-carry, aside-carry, fresh-carry}

-- ---- the header's field set
record HeaderSet (p q : List ℕ) : Type 0 where
  same : Same p q
  bytes : Bytes p → Bytes q
  word : four p ≡ true → word_at q header_field ≡ fresh_header p
  fresh : Fresh header q
  total : message_total q ≡ message_total p
  field : word_at q (field_at p) ≡ word_at p (field_at p)
  others : (i : ℕ) → (four p ≡ true → (i < header_field) ⊎ (header_field + 1 < i)) → byte_at q i ≡ byte_at p i

header-set : {p : List ℕ} → Facts p → HeaderSet p (mended_header p)
unfolding mended_header fresh_header
header-set {p} k =
    let z = same_self p in
    let v = fresh_header p in
    let w = write_h k.outer z v in
    let s = same_h k.outer z v in
    let q = put_word p header_field v in
    let x : header_total (put_word q header_field 0) ≡ header_total (put_word p header_field 0) =
    omega (arith, aside_h k.outer s, aside_h k.outer z, header-word v k.outer z s w, word-wrote v w) in
    by_cases (four p)
    (λ f. simp f (record {
      same = s;
      bytes = λ b. bytes-wrote w b (bytes_word v (omega arith));
      word = λ g. word-wrote v w;
      fresh = λ g. word-wrote v w ∙ rw x;
      total = message-out k z s w (omega arith) (λ t. simp f (omega arith));
      field = word-above w (field_at p) (omega arith);
      others = λ i o. ⊎_elim (λ l. w.below i l) (λ l. w.above i (omega arith)) (o f);
    }))
    (λ f. simp f (record {
      same = z;
      bytes = λ b. b;
      word = λ g. absurd (true≢false (sym g ∙ f));
      fresh = λ g. absurd (true≢false (sym g ∙ f));
      total = refl;
      field = refl;
      others = λ i o. refl;
    }))

-- ---- and the message's, in q of p's layout
record MessageSet (p q r : List ℕ) : Type 0 where
  same : Same p r
  bytes : Bytes q → Bytes r
  kept : (silent_of q && four q) ≡ true → word_at r (field_at p) ≡ word_at q (field_at p)
  word : (silent_of q && four q) ≡ false → word_at r (field_at p) ≡ fresh_message q
  fresh : Fresh message r
  silent : silent_of r ≡ (silent_of q && four q)
  header : Fresh header q → Fresh header r
  field : word_at r header_field ≡ word_at q header_field
  others : (i : ℕ) → ((silent_of q && four q) ≡ false → (i < field_at p) ⊎ (field_at p + 1 < i)) → byte_at r i ≡ byte_at q i

message-set : {p q : List ℕ} → Facts p → Same p q → MessageSet p q (mended_message q)
unfolding mended_message
message-set {p} {q} k a =
    let t = field_of (fold (message_total (put_word q (field_at p) 0))) in
    let v = fresh_message q in
    let e : v ≡ sent (udp p) t = fresh_f k a in
    let w = write_f k a v in
    let s = same_f k a v in
    let r = put_word q (field_at p) v in
    let x : message_total (put_word r (field_at p) 0) ≡ message_total (put_word q (field_at p) 0) =
    omega (arith, aside_f k s, aside_f k a, message-field v k a s w, word-wrote v w) in
    let y : (udp p && eqb v 0) ≡ false = rw e (sent-some (udp p) t) in
    let silent : silent_of r ≡ false = silent-at s k ∙ rw (word-wrote v w) y in
    by_cases (silent_of q && four q)
    (λ u. simp u (record {
      same = a;
      bytes = λ b. b;
      kept = λ n. refl;
      word = λ n. absurd (true≢false (sym u ∙ n));
      fresh = λ n. absurd (true≢false (sym u ∙ used-sums q n));
      silent = (and-true (silent_of q) (four q) u).0 ∙ sym u;
      header = λ h. h;
      field = refl;
      others = λ i o. refl;
    }))
    (λ u. simp u (rw (field-same a.header) (record {
      same = s;
      bytes = λ b. bytes-wrote w b (bytes_word v (rw e (sent-small (udp p) t (omega arith))));
      kept = λ n. absurd (true≢false (sym n ∙ u));
      word = λ n. word-wrote v w;
      fresh = λ n. ap (word_at r) (field-same s.header) ∙ word-wrote v w ∙ e ∙ sym (fresh_f k s ∙ rw x);
      silent = silent ∙ sym u;
      header = header-fresh k.outer a s (header-out k.outer a s w (omega arith)) (word_below w header_field (omega arith));
      field = word_below w header_field (omega arith);
      others = λ i o. ⊎_elim (λ l. w.below i l) (λ l. w.above i (omega arith)) (o u);
    })))

-- ---- both
pub record Mended (p q : List ℕ) : Type 0 where
  pub same : Same p q
  pub bytes : Bytes p → Bytes q
  pub sets : (s : Sum) → used s p ≡ true → word_at q (placed s p) ≡ fresh_of s p
  pub kept : (silent_of p && four p) ≡ true → word_at q (field_at p) ≡ word_at p (field_at p)
  pub fresh : (s : Sum) → Fresh s q
  pub silent : silent_of q ≡ (silent_of p && four p)
  pub others : (i : ℕ) → Outside p i → byte_at q i ≡ byte_at p i

pub both-set : (p : List ℕ) → IsClear (whole_rules p) → Mended p (mended_message (mended_header p))
both-set p c =
    let k = whole-facts p c in
    let z = same_self p in
    let h = header-set k in
    let m = message-set k h.same in
    let s : (silent_of (mended_header p) && four (mended_header p)) ≡ (silent_of p && four p) =
    ap₂ ◌&&◌ (silent-carry k z h.same h.field) (four_same h.same.header) in
    record {
      same = m.same;
      bytes = λ b. m.bytes (h.bytes b);
      sets = each (λ s. used s p ≡ true → word_at (mended_message (mended_header p)) (placed s p) ≡ fresh_of s p)
          (λ f. m.field ∙ h.word f)
          (λ u. m.word (s ∙ used-sums p u) ∙ fresh-carry k z h.same (aside-carry k z h.same h.total h.field));
      kept = λ u. m.kept (s ∙ u) ∙ h.field;
      fresh = each (λ s. Fresh s (mended_message (mended_header p))) (m.header h.fresh) m.fresh;
      silent = m.silent ∙ s;
      others = λ i o. m.others i (λ u. o message (simp (clear-carries p c, sym s ∙ u))) ∙ h.others i (o header);
    }
