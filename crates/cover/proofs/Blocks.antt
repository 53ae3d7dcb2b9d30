-- What writing bytes does to the two totals.
use mathlib.Core.Path.{◌≡◌, refl, sym, ap, ◌∙◌}
use Prim.Native.Nat.{ℕ, ◌+◌, ◌-◌, ◌/◌, ◌%◌, ◌<◌, ◌≤◌}
use native.Mathlib.Omega.{arith}
use mathlib.Core.Logic.{inl}
use mathlib.Core.List.{List, [], ◌∷◌}
use mathlib.Core.Bool.{true}
use lib.ListN.{length}
use Rattle.verdicts.proofs.Tests.{by_cases}
use Rattle.sums.specs.Total.{odd, weigh, total}
use Rattle.wire.specs.Bytes.{word_at, part}
use Rattle.wire.specs.Outer.{header_end, header_field, addresses_at, addresses_length}
use Rattle.wire.specs.Inner.{start_of, end_of, length_of, field_at, pseudo}
use Rattle.wire.proofs.Facts.{OuterFacts, Facts}
use Rattle.wire.proofs.Writes.{Wrote, part-below, part-above}
use Rattle.wire.proofs.Same.{Same}
use Rattle.cover.specs.Sums.{header_total, message_total}
use Rattle.cover.proofs.Around.{part-around, word-weigh, part-some}
use Rattle.cover.proofs.Totals.{address_total, rest_some, header-part, message-parts}

-- a word that is written
new-weigh : (w pos : ℕ) → pos % 2 ≡ 0 → weigh (odd pos) (w / 256 ∷ w % 256 ∷ []) ≡ w
unfolding odd weigh
new-weigh w pos e = rw e (omega arith)

-- ---- the header
module _ {p q r : List ℕ} {at : ℕ} {new : List ℕ} (k : OuterFacts p) (a : Same p q) (b : Same p r) (w : Wrote q r at new) where
  pub header-out : header_end p ≤ at → header_total r ≡ header_total q
  header-out h = header-part b ∙ ap total (part-below w 0 (header_end p) (omega arith) (let l = a.long in omega arith)) ∙ sym (header-part a)

  pub header-in : at + length new ≤ header_end p
      → header_total r + weigh (odd at) (part q at (length new)) ≡ header_total q + weigh (odd at) new
  header-in h = rw (header-part a, header-part b) (part-around w 0 (header_end p) at (omega arith) (omega arith) (let l = a.long in omega arith))

-- ---- the message
module _ {p q r : List ℕ} {at : ℕ} {new : List ℕ} (k : Facts p) (a : Same p q) (b : Same p r) (w : Wrote q r at new) where
  address-out : (pseudo p ≡ true → part r (addresses_at p) (addresses_length p) ≡ part q (addresses_at p) (addresses_length p)) → address_total p r ≡ address_total p q
  unfolding address_total
  address-out h = by_cases (pseudo p) (λ t. simp t (ap total (h t))) (λ t. simp t)

  behind : at + length new ≤ start_of p → total (part r (start_of p) (length_of p)) ≡ total (part q (start_of p) (length_of p))
  behind h = ap total (part-above w (start_of p) (length_of p) h (let l = a.long in omega arith))

  pub message-out : at + length new ≤ start_of p → (pseudo p ≡ true → at + length new ≤ addresses_at p) → message_total r ≡ message_total q
  message-out h l =
      let x = address-out (λ t. part-above w (addresses_at p) (addresses_length p) (l t) (let l = a.long in omega arith)) in
      let y = behind h in
      rw (message-parts k a, message-parts k b) (omega arith)

  pub message-address : (pos : ℕ) → pseudo p ≡ true → at ≡ addresses_at p + pos → at + length new ≤ addresses_at p + addresses_length p
      → message_total r + weigh (odd pos) (part q at (length new)) ≡ message_total q + weigh (odd pos) new
  unfolding address_total
  message-address pos t e h =
      let l = a.long in
      let x = part-around w (addresses_at p) (addresses_length p) pos e h (omega arith) in
      let y = behind (omega arith) in
      rw (message-parts k a, message-parts k b) (simp t (omega arith))

  pub message-in : (pos : ℕ) → at ≡ start_of p + pos → at + length new ≤ end_of p
      → message_total r + weigh (odd pos) (part q at (length new)) ≡ message_total q + weigh (odd pos) new
  message-in pos e h =
      let l = a.long in
      let x = part-around w (start_of p) (length_of p) pos e (omega arith) (omega arith) in
      let y = address-out (λ t. part-below w (addresses_at p) (addresses_length p) (omega arith) (omega arith)) in
      rw (message-parts k a, message-parts k b) (omega arith)

-- ---- a word written
-- the header's field
pub header-word : {p q r : List ℕ} (v : ℕ) → OuterFacts p → Same p q → Same p r → Wrote q r header_field (v / 256 ∷ v % 256 ∷ [])
    → header_total r + word_at q header_field ≡ header_total q + v
header-word {q = q} v k a b w =
    let l = a.long in
    let x = header-in k a b w (omega arith) in
    omega (arith, word-weigh q header_field header_field refl (omega arith), new-weigh v header_field refl)

-- a word of the message at an even distance from its start, as its field is
module _ {p q r : List ℕ} (v : ℕ) (k : Facts p) (a : Same p q) (b : Same p r) where
  pub message-word : (at : ℕ) → start_of p ≤ at → (at - start_of p) % 2 ≡ 0 → at + 2 ≤ end_of p → Wrote q r at (v / 256 ∷ v % 256 ∷ [])
      → message_total r + word_at q at ≡ message_total q + v
  message-word at h e g w =
      let l = a.long in
      let pos = at - start_of p in
      let x = message-in k a b w pos (omega arith) (omega arith) in
      omega (arith, word-weigh q at pos e (omega arith), new-weigh v pos e)

  pub message-field : Wrote q r (field_at p) (v / 256 ∷ v % 256 ∷ []) → message_total r + word_at q (field_at p) ≡ message_total q + v
  message-field = message-word (field_at p) (omega arith) k.even (omega arith)

-- ---- neither total is 0, but for a message without a pseudo-header
pub header-some : {p q : List ℕ} → OuterFacts p → Same p q → 0 < header_total q
header-some {p} {q} k a = rw (header-part a) (part-some q 0 (header_end p) (omega arith) (omega (arith, a.header.reads 0 (inl (omega arith)))))

pub message-some : {p q : List ℕ} → Facts p → Same p q → pseudo p ≡ true → 0 < message_total q
message-some k a t = omega (arith, message-parts k a, rest_some k t)
