-- The tail: where it begins, and packets that differ in it alone.
use mathlib.Core.Path.{◌≡◌, sym, ◌∙◌}
use mathlib.Core.Logic.{⊎_elim}
use Prim.Native.Nat.{ℕ, ◌<◌, ◌≤◌}
use native.Mathlib.Omega.{arith}
use mathlib.Core.List.{List}
use mathlib.Core.Bool.{true}
use lib.ListN.{length}
use lib.Dec.{ltb, eqb}
use borrow.Author.Tests.{le-ltb, ne_eqb}
use Rattle.verdicts.proofs.Tests.{by_cases}
use Rattle.wire.specs.Bytes.{byte_at}
use Rattle.wire.specs.Outer.{four, least_of, header_end, declared_end, outer_rules}
use Rattle.wire.specs.Walk.{walked_of}
use Rattle.wire.specs.Inner.{end_of, carries, tail_at, UpToTail}
use Rattle.wire.proofs.Facts.{OuterFacts, Facts, outer-facts, carried-length}
use Rattle.wire.proofs.Writes.{Agree}
use Rattle.wire.proofs.Same.{walked-within, walked_start, SameHeader, MessageReads, SameLayout, declared_same, start-same, end_same}
use Rattle.wire.proofs.Held.{carries-clear, carries_same, whole-facts}

-- ---- where it begins
pub carries-facts : (p : List ℕ) → carries p ≡ true → Facts p
carries-facts p t = whole-facts p (carries-clear p t)

pub tail-end : (p : List ℕ) → carries p ≡ true → tail_at p ≡ end_of p
unfolding tail_at
tail-end p t = rw t

pub tail-same : {p q : List ℕ} → SameLayout p q → tail_at q ≡ tail_at p
unfolding tail_at
tail-same s = simp (carries_same s, end_same s, declared_same s.header)

-- behind the header, and no later than the declared end
pub tail-order : {p : List ℕ} → OuterFacts p → (header_end p ≤ tail_at p) × (tail_at p ≤ declared_end p)
unfolding tail_at
tail-order {p} k =
    by_cases (carries p)
    (λ t. let m = carries-facts p t in simp t (omega arith))
    (λ t. simp t (omega arith))

-- the walk reads nothing of it
walked-order : {p : List ℕ} → OuterFacts p → walked_of p ≤ tail_at p
unfolding tail_at
walked-order {p} k =
    by_cases (carries p)
    (λ t. let m = carries-facts p t in simp t (omega (arith, walked_start m)))
    (λ t. simp t (walked-within k))

-- ---- packets that agree up to it
module _ {p q : List ℕ} (a : UpToTail p q) where
  known : OuterFacts p
  known = outer-facts p a.outer

  header : SameHeader p q
  header =
      let k = known in
      let o = tail-order k in
      record { reads = λ i r. a.same i (⊎_elim (λ h. omega arith) (⊎_elim (λ h. ⊎_elim (λ e. omega arith) (λ e. omega arith) h.1) (λ h. omega (arith, walked-order k))) r) }

  early : (i : ℕ) → i < 7 → byte_at q i ≡ byte_at p i
  early i h = let k = known in let o = tail-order k in a.same i (omega arith)

  -- each outer test is false of both
  outer : outer_rules q ≡ outer_rules p
  unfolding outer_rules
  outer =
      let k = known in
      let c = a.outer in
      let least : least_of p ≤ header_end p = by_cases (four p) (λ f. simp f k.least) (λ f. simp f (let e = k.six f in omega arith)) in
      let none : eqb (length q) 0 ≡ eqb (length p) 0 = ne_eqb (length q) 0 (λ e. omega arith) ∙ sym c.0 in
      let few : ltb (length q) (least_of p) ≡ ltb (length p) (least_of p) = le-ltb (length q) (least_of p) (omega arith) ∙ sym c.1.1.0 in
      let cut : ltb (length q) (declared_end p) ≡ ltb (length p) (declared_end p) = le-ltb (length q) (declared_end p) a.long ∙ sym c.1.1.1.1.1.0 in
      rw (early 0 (omega arith), early 2 (omega arith), early 3 (omega arith), declared_same header, none, few, cut)

  -- what the message's shape is read from comes before the tail
  read : (i : ℕ) → MessageReads p i → i < declared_end p → i < tail_at p
  unfolding tail_at
  read i r l =
      by_cases (carries p)
      (λ t. let m = carries-facts p t in simp t (⊎_elim
      (λ x. let f = m.tcp x.0 in omega arith)
      (λ x. let f = m.udp x.0 in ⊎_elim (λ e. omega arith) (λ e. omega arith) x.1) r))
      (λ t. simp t l)

  pub tail-layout : SameLayout p q
  tail-layout =
      record {
        header = header;
        outer = outer;
        size = carried-length (outer-facts q (rw outer a.outer)) ∙ rw (declared_same header, start-same header) (sym (carried-length known));
        message = λ i r l. a.same i (read i r l);
      }

  pub tail-agree : Agree (tail_at p) p q
  tail-agree =
      let k = known in
      let o = tail-order k in
      let l = a.long in
      record { left = omega arith; right = omega arith; same = a.same }

-- and still do, where each keeps its layout, its length and what the two have in common
pub tail-still : {p q r s : List ℕ} → UpToTail p q → SameLayout p r → length s ≡ length q → Agree (tail_at p) r s → UpToTail r s
tail-still a l e g =
    record {
      outer = rw l.outer a.outer;
      long = rw (declared_same l.header, e) a.long;
      same = λ i h. g.same i (rw (tail-same l) at h);
    }
