-- The table's lines, taken apart by family and protocol.
use Rattle.std.specs.Prelude.{Option, None, Some}
use mathlib.Core.Path.{◌≡◌, refl}
use mathlib.Core.Logic.{◌⊎◌, ◌≢◌, inl, inr, ⊎_elim}
use Prim.Native.Nat.{ℕ}
use native.Mathlib.Omega.{arith}
use mathlib.Core.List.{List}
use mathlib.Core.Bool.{Bool, true, false, not, ◌||◌}
use lib.Dec.{eqb}
use borrow.Author.Tests.{eqb-true, eqb-false, eq-eqb, ne_eqb, not-false}
use Rattle.verdicts.proofs.Tests.{by_cases}
use Rattle.wire.specs.Outer.{four, six, version_of, family_of}
use Rattle.wire.specs.Table.{row_of, uncovered}
use Rattle.wire.specs.Inner.{protocol_of, row_in}
use Rattle.wire.specs.declared.Plan.{Plan}
use Rattle.judge.specs.Cases.{Listed}

-- the row of p's version and protocol, with what stands in it
pub record Line (p : List ℕ) (v n : ℕ) (r : Option Plan) : Type 0 where
  pub version : version_of p ≡ v
  pub protocol : protocol_of p ≡ n
  pub row : row_in p ≡ r

abbrev pub plan : ℕ → ℕ → Bool → Option Plan
plan fixed field pseudo = Some (record { fixed = fixed; field = field; pseudo = pseudo })

pub data Kind (p : List ℕ) : Type 0 where
  icmp : Line p 4 1 (plan 8 2 false) → Kind p
  tcp4 : Line p 4 6 (plan 20 16 true) → Kind p
  udp4 : Line p 4 17 (plan 8 6 true) → Kind p
  none4 : Line p 4 (protocol_of p) None → protocol_of p ≢ 1 → protocol_of p ≢ 6 → protocol_of p ≢ 17 → Kind p
  tcp6 : Line p 6 6 (plan 20 16 true) → Kind p
  udp6 : Line p 6 17 (plan 8 6 true) → Kind p
  icmp6 : Line p 6 58 (plan 4 2 true) → Kind p
  none6 : Line p 6 (protocol_of p) None → protocol_of p ≢ 6 → protocol_of p ≢ 17 → protocol_of p ≢ 58 → Kind p

module _ (p : List ℕ) where
  kind4 : version_of p ≡ 4 → Kind p
  unfolding row_of family_of
  kind4 v =
      let n = protocol_of p in
      let f : four p ≡ true = eq-eqb (version_of p) 4 v in
      by_cases (eqb n 1) (λ a. icmp (record { version = v; protocol = eqb-true n 1 a; row = simp (f, a) }))
      (λ a. by_cases (eqb n 6) (λ b. tcp4 (record { version = v; protocol = eqb-true n 6 b; row = simp (f, a, b) }))
      (λ b. by_cases (eqb n 17) (λ c. udp4 (record { version = v; protocol = eqb-true n 17 c; row = simp (f, a, b, c) }))
      (λ c. none4 (record { version = v; protocol = refl; row = simp (f, a, b, c) }) (eqb-false n 1 a) (eqb-false n 6 b) (eqb-false n 17 c))))

  kind6 : version_of p ≡ 6 → Kind p
  unfolding row_of family_of
  kind6 v =
      let n = protocol_of p in
      let f : four p ≡ false = ne_eqb (version_of p) 4 (λ e. omega arith) in
      by_cases (eqb n 6) (λ a. tcp6 (record { version = v; protocol = eqb-true n 6 a; row = simp (f, a) }))
      (λ a. by_cases (eqb n 17) (λ b. udp6 (record { version = v; protocol = eqb-true n 17 b; row = simp (f, a, b) }))
      (λ b. by_cases (eqb n 58) (λ c. icmp6 (record { version = v; protocol = eqb-true n 58 c; row = simp (f, a, b, c) }))
      (λ c. none6 (record { version = v; protocol = refl; row = simp (f, a, b, c) }) (eqb-false n 6 a) (eqb-false n 17 b) (eqb-false n 58 c))))

  pub kind : not (four p || six p) ≡ false → Kind p
  kind e =
      by_cases (four p)
      (λ f. kind4 (eqb-true (version_of p) 4 f))
      (λ f. kind6 (eqb-true (version_of p) 6 (simp f at (not-false (four p || six p) e))))

  -- what the row says is what the numbers say
  pub listed : Kind p → ((uncovered (row_in p) ≡ false) × Listed (version_of p) (protocol_of p)) ⊎ ((uncovered (row_in p) ≡ true) × (¬ Listed (version_of p) (protocol_of p)))
  listed (icmp l) = inl (rw l.row, inl (l.version, inl l.protocol))
  listed (tcp4 l) = inl (rw l.row, inl (l.version, inr (inl l.protocol)))
  listed (udp4 l) = inl (rw l.row, inl (l.version, inr (inr l.protocol)))
  listed (none4 l a b c) = inr (rw l.row, ⊎_elim (λ h. ⊎_elim a (⊎_elim b c) h.1) (λ h. omega (arith, l.version)))
  listed (tcp6 l) = inl (rw l.row, inr (l.version, inl l.protocol))
  listed (udp6 l) = inl (rw l.row, inr (l.version, inr (inl l.protocol)))
  listed (icmp6 l) = inl (rw l.row, inr (l.version, inr (inr l.protocol)))
  listed (none6 l a b c) = inr (rw l.row, ⊎_elim (λ h. omega (arith, l.version)) (λ h. ⊎_elim a (⊎_elim b c) h.1))
