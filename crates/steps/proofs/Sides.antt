-- The side's rule, and where its address stands.
use Rattle.std.proofs.Common.{◌≡◌, ℕ, List, [], ◌∷◌, ◌++◌, ◌||◌, eqb, Result, Ok, refl, sym, ◌∙◌, arith}
use Rattle.verdicts.specs.Rules.{Rule, first}
use Rattle.verdicts.specs.declared.Verdict.{Verdict}
use Rattle.verdicts.proofs.Tests.{by_cases}
use Rattle.verdicts.proofs.Rules.{first-append, first-ok}
use Rattle.wire.specs.Outer.{addresses_at, address_size}
use Rattle.wire.proofs.Held.{answered}
use Rattle.wire.specs.declared.Message.{Message}
use Rattle.kept.specs.Edits.{Addressed, edit_rules, side_at}
use Rattle.kept.proofs.Sides.{source-at, destination-at}
use Rattle.steps.specs.Steps.{editable_of}
use Rattle.steps.proofs.Common.{by_editable}
use Rattle.steps.specs.Sides.{side_rule, side_of, placed}
use Rattle.steps.specs.declared.side.Side.{Side}
use Rattle.steps.specs.declared.side.Side.TheVariants.{Source, Destination}

pub by_side : {A : Type 0} (n : ℕ) (rest : List Rule) (refuse : Verdict → A) (go : A)
    → first (side_rule n ∷ rest) refuse go ≡ answered refuse (first rest refuse go) (side_of n)
unfolding side_of
by_side n rest r g = by_cases (eqb n 0 || eqb n 1) (λ t. simp t) (λ t. simp t)

-- which may be asked for by itself
pub by_side_then : {A : Type 0} (n : ℕ) (rest : List Rule) (refuse : Verdict → A) (go : A)
    → first (side_rule n ∷ []) refuse (first rest refuse go) ≡ first (side_rule n ∷ rest) refuse go
by_side_then n rest r g = sym (first-append (side_rule n ∷ []) rest r g)

-- behind the rules of all edits
pub by_editable_side : {A : Type 0} (p : List ℕ) (n : ℕ) (rest : List Rule) (refuse : Verdict → A) (go : A) (r : Result Message Verdict) (s : Result Side Verdict)
    → r ≡ editable_of p → s ≡ side_of n → first (edit_rules p ++ (side_rule n ∷ rest)) refuse go ≡ answered refuse (answered refuse (first rest refuse go) s) r
by_editable_side p n rest refuse go r s e f = by_editable p (side_rule n ∷ rest) refuse go ∙ rw (e, f, by_side n rest refuse go)

pub side-placed : (p : List ℕ) (n : ℕ) (s : Side) → Ok s ≡ side_of n → placed s (addresses_at p) (address_size p) ≡ side_at p n
unfolding side_of
side-placed p n s e =
    rw (first-ok (side_rule n ∷ []) e).0
    (by_cases (eqb n 0) (λ t. simp t (omega arith)) (λ t. simp t))

-- so it lies in the addresses
pub side-addressed : (p : List ℕ) (s : Side) (from size : ℕ) → from ≡ addresses_at p → size ≡ address_size p → Addressed p (placed s from size) size
side-addressed p Source from size e f = source-at p from size size e f refl
side-addressed p Destination from size e f = destination-at p from size size e f refl
