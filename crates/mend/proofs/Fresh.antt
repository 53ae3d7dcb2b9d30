-- Fields that stand fresh: their sums are right, and what keeps them so.
use mathlib.Core.Path.{◌≡◌, refl, sym, ap, ap₂, ◌∙◌}
use mathlib.Core.Logic.{inr}
use Prim.Native.Nat.{ℕ, ◌+◌, ◌-◌, ◌*◌, ◌/◌, ◌%◌, ◌≤◌}
use native.Mathlib.Omega.{arith}
use mathlib.Core.List.{List, [], ◌∷◌}
use mathlib.Core.Bool.{Bool, true, false, not, ◌&&◌}
use borrow.Author.Tests.{not-true}
use Rattle.verdicts.specs.Rules.{IsClear}
use Rattle.verdicts.proofs.Tests.{by_cases, and-true}
use Rattle.sums.specs.Total.{weigh, total}
use Rattle.sums.specs.Fold.{fold, field_of, swap}
use Rattle.sums.specs.Low.{two_at}
use Rattle.wire.specs.Bytes.{byte_at, word_at, put_word}
use Rattle.wire.specs.Outer.{four, header_field}
use Rattle.wire.specs.Inner.{message_bytes, field_at, silent_of, udp, before_of, whole_rules, carries, Holds}
use Rattle.wire.specs.declared.Message.{Message}
use Rattle.wire.proofs.Facts.{OuterFacts, Facts}
use Rattle.wire.proofs.Writes.{Wrote, put-wrote}
use Rattle.wire.proofs.Same.{SameHeader, Same, same_layout, field-same, four_same, same_self, same_step, silent-at, soft-header, soft-message, udp-same}
use Rattle.wire.proofs.Held.{carries-clear, clear-carries, carries_same, whole-facts, known}
use Rattle.cover.specs.Sums.{header_total, message_total, header_sums, message_sums}
use Rattle.cover.proofs.Before.{message-low}
use Rattle.cover.proofs.Blocks.{header-word, message-field}
use Rattle.judge.proofs.Answers.{sums4, sums6}
use Rattle.mend.specs.Mend.{mended_header}
use Rattle.mend.specs.Fresh.{sent, fresh_header, fresh_message, Sum, header, message, placed, used, Fresh}
use Rattle.mend.proofs.Numbers.{sent-passes, less-field}

-- what holds of both fields
pub each : (P : Sum → Type 0) → P header → P message → (s : Sum) → P s
each P h m header = h
each P h m message = m

-- a field's place, in packets whose headers say the same
pub placed_same : {p q : List ℕ} → SameHeader p q → (s : Sum) → placed s q ≡ placed s p
placed_same e = each (λ s. placed s _ ≡ placed s _) refl (field-same e)

-- the message's is in use: there is a message, and it isn't UDP's 0000 over IPv4
module _ (p : List ℕ) (u : used message p ≡ true) where
  pub used-whole : IsClear (whole_rules p)
  used-whole = carries-clear p (and-true (carries p) _ u).0

  pub used-sums : (silent_of p && four p) ≡ false
  used-sums = not-true (silent_of p && four p) (and-true (carries p) (not (silent_of p && four p)) u).1

-- ---- the message's field, as it is worked out
-- what is sent for the total without the field
pub fresh-is : (p : List ℕ) (u : Bool) → udp p ≡ u → (w : ℕ) → w ≡ sent u (field_of (fold (message_total (put_word p (field_at p) 0)))) → swap w ≡ w → swap w ≡ fresh_message p
unfolding fresh_message
fresh-is p u e w h s = s ∙ h ∙ ap (λ u. sent u (field_of (fold (message_total (put_word p (field_at p) 0))))) (sym e)

-- ---- a word written over a field; a field read as 0000
-- the header's
module _ {p q : List ℕ} (k : OuterFacts p) (a : Same p q) where
  pub write_h : (v : ℕ) → Wrote q (put_word q header_field v) header_field (v / 256 ∷ v % 256 ∷ [])
  write_h v = put-wrote q header_field (v / 256 ∷ v % 256 ∷ []) (let l = a.long in omega arith)

  pub same_h : (v : ℕ) → Same p (put_word q header_field v)
  same_h v = same_step a (write_h v) (soft-header k header_field 2 (omega arith) (omega arith) (λ f. (omega arith, inr (omega arith))))

  pub aside_h : header_total (put_word q header_field 0) + word_at q header_field ≡ header_total q
  aside_h = header-word 0 k a (same_h 0) (write_h 0) ∙ omega arith

-- the message's
module _ {p q : List ℕ} (k : Facts p) (a : Same p q) where
  pub write_f : (v : ℕ) → Wrote q (put_word q (field_at p) v) (field_at p) (v / 256 ∷ v % 256 ∷ [])
  write_f v = put-wrote q (field_at p) (v / 256 ∷ v % 256 ∷ []) (let l = a.long in omega arith)

  pub same_f : (v : ℕ) → Same p (put_word q (field_at p) v)
  same_f v = same_step a (write_f v) (soft-message k (field_at p) 2 (omega arith))

  pub aside_f : message_total (put_word q (field_at p) 0) + word_at q (field_at p) ≡ message_total q
  aside_f = message-field 0 k a (same_f 0) (write_f 0) ∙ omega arith

  pub fresh_f : fresh_message q ≡ sent (udp p) (field_of (fold (message_total (put_word q (field_at p) 0))))
  unfolding fresh_message
  fresh_f = rw (udp-same a.header, field-same a.header)

-- ---- a fresh field makes its sum right
pub header-right : {p : List ℕ} → OuterFacts p → Fresh header p → header_sums p ≡ true
unfolding fresh_header sent
header-right {p} k h =
    by_cases (four p)
    (λ f. sym (sums4 p f) ∙ rw (sym (aside_h k (same_self p)), h f) (sent-passes (header_total (put_word p header_field 0)) false))
    (λ f. sym (sums6 p f))

pub message-right : (p : List ℕ) → IsClear (whole_rules p) → Fresh message p → silent_of p ≡ false → message_sums p ≡ true
unfolding message_sums
message-right p w m u =
    let k = whole-facts p w in
    let z = same_self p in
    rw (sym (aside_f k z), m (simp (clear-carries p w, u)), fresh_f k z) (sent-passes (message_total (put_word p (field_at p) 0)) (udp p))

-- ---- what decides: the totals, and the fields
module _ {p q r : List ℕ} (k : OuterFacts p) (a : Same p q) (b : Same p r)
    (t : header_total r ≡ header_total q) (e : word_at r header_field ≡ word_at q header_field) where
  pub header-fresh : Fresh header q → Fresh header r
  unfolding fresh_header
  header-fresh h f =
      let x : header_total (put_word r header_field 0) ≡ header_total (put_word q header_field 0) = omega (arith, aside_h k a, aside_h k b) in
      e ∙ h (four_same a.header ∙ sym (four_same b.header) ∙ f) ∙ ap (λ t. field_of (fold t)) (sym x)

module _ {p q r : List ℕ} (k : Facts p) (a : Same p q) (b : Same p r) where
  pub silent-carry : word_at r (field_at p) ≡ word_at q (field_at p) → silent_of r ≡ silent_of q
  silent-carry e = silent-at b k ∙ rw e (sym (silent-at a k))

  -- and so it is in use or not
  pub used-carry : word_at r (field_at p) ≡ word_at q (field_at p) → used message r ≡ used message q
  used-carry e =
      ap₂ (λ c s. c && not s) (carries_same (same_layout b) ∙ sym (carries_same (same_layout a)))
      (ap₂ ◌&&◌ (silent-carry e) (four_same b.header ∙ sym (four_same a.header)))

  -- the fold but for the field decides what is fresh, and equal totals have one
  pub aside-carry : message_total r ≡ message_total q → word_at r (field_at p) ≡ word_at q (field_at p)
      → fold (message_total (put_word r (field_at p) 0)) ≡ fold (message_total (put_word q (field_at p) 0))
  aside-carry t e =
      let x : message_total (put_word r (field_at p) 0) ≡ message_total (put_word q (field_at p) 0) = omega (arith, aside_f k a, aside_f k b) in
      ap fold x

  module _ (t : fold (message_total (put_word r (field_at p) 0)) ≡ fold (message_total (put_word q (field_at p) 0))) where
    pub fresh-carry : fresh_message r ≡ fresh_message q
    fresh-carry = fresh_f k b ∙ rw t (sym (fresh_f k a))

    pub message-fresh : word_at r (field_at p) ≡ word_at q (field_at p) → Fresh message q → Fresh message r
    message-fresh e m u =
        ap (word_at r) (field-same b.header) ∙ e ∙ ap (word_at q) (sym (field-same a.header)) ∙ m (sym (used-carry e) ∙ u) ∙ sym fresh-carry

-- mending the header leaves the layout
pub mended-same : {p : List ℕ} → OuterFacts p → Same p (mended_header p)
unfolding mended_header
mended-same {p} k = by_cases (four p) (λ f. simp f (same_h k (same_self p) (fresh_header p))) (λ f. simp f (same_self p))

-- the total of a message at hand less its field
pub held-rest : {p q s : List ℕ} {m : Message} → Holds p m → (f b t r : ℕ) → q ≡ p → f ≡ two_at q m.field → f ≤ 65535
    → s ≡ message_bytes p → fold b ≡ fold (256 * total (before_of p)) → fold t ≡ fold (b + weigh true s) → fold r ≡ fold (t + (65535 - f))
    → r % 65535 ≡ (256 * message_total (put_word p (field_at p) 0)) % 65535
unfolding two_at
held-rest {p} {q} {s} {m} h f b t r eq ef sf es eb et er =
    let k = known h in
    let i = field_at p in
    let w : f ≡ two_at p i = ef ∙ ap₂ two_at eq k.field in
    let low : 256 * word_at p i ≡ f + 65535 * byte_at p i = omega (arith, w) in
    less-field _ (word_at p i) (byte_at p i) t f r
    (message-low p k.facts b t es eb et ∙ ap (λ (n : ℕ). fold (256 * n)) (sym (aside_f k.facts (same_self p)))) low sf er
