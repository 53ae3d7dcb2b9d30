-- The two sides' places.
use Prim.Native.Nat.{ℕ, ◌+◌, ◌-◌, ◌%◌}
use mathlib.Core.Path.{◌≡◌, refl}
use mathlib.Core.List.{List}
use native.Mathlib.Omega.{arith}
use lib.ListN.{length}
use lib.Dec.{eqb}
use borrow.Author.Tests.{eqb-true, not-false}
use Rattle.verdicts.specs.Rules.{IsClear}
use Rattle.verdicts.proofs.Tests.{by_cases}
use Rattle.wire.specs.Outer.{four, addresses_at, address_size, addresses_length}
use Rattle.kept.specs.Edits.{Addressed, side_at, address_rules}

module _ (p : List ℕ) where
  -- source and destination fill the addresses
  two-sizes : (address_size p + address_size p ≡ addresses_length p) × (address_size p % 2 ≡ 0)
  two-sizes = by_cases (four p) (λ f. simp f (refl, refl)) (λ f. simp f (refl, refl))

  pub source-at : (a size n : ℕ) → a ≡ addresses_at p → size ≡ address_size p → n ≡ size → Addressed p a n
  source-at a size n ea es en =
      let t = two-sizes in
      let z : a - addresses_at p ≡ 0 = omega arith in
      record { from = omega arith; even = rw z; to = omega arith }

  pub destination-at : (a size n : ℕ) → a ≡ addresses_at p → size ≡ address_size p → n ≡ size → Addressed p (a + size) n
  destination-at a size n ea es en =
      let t = two-sizes in
      let z : a + size - addresses_at p ≡ address_size p = omega arith in
      record { from = omega arith; even = rw z t.1; to = omega arith }

  pub side-fits : (side n : ℕ) → n ≡ address_size p → Addressed p (side_at p side) n
  side-fits side n e =
      by_cases (eqb side 0)
      (λ s. simp s (source-at (addresses_at p + 0) (address_size p) n (omega arith) refl e))
      (λ s. simp s (destination-at (addresses_at p) (address_size p) n refl refl e))

  pub side-addressed : (side : ℕ) (new : List ℕ) → IsClear (address_rules p side new) → Addressed p (side_at p side) (length new)
  side-addressed side new c =
      side-fits side (length new) (eqb-true (length new) (address_size p) (not-false (eqb (length new) (address_size p)) c.1.0))
