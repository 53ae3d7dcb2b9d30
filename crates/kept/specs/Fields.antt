-- Which of the sum fields an edit updates, and whether a sum is right.
use Rattle.std.specs.Prelude.{ℕ, ◌≡◌, ◌⊎◌, List, [], ◌∷◌, Bool, true, false, not, ◌&&◌, length, eqb}
use Rattle.verdicts.specs.declared.Verdict.TheVariants.{Good}
use Rattle.wire.specs.Inner.{pseudo}
use Rattle.cover.specs.Sums.{header_sums, message_sums}
use Rattle.mend.specs.Fresh.{Sum, header, message, used}
use Rattle.kept.specs.Runs.{Edit, lifetime, address, stretch, prefix, apply}

-- it covers what an edit writes: the header's is updated after lifetime and address edits, the message's after an address edit where
-- there is a pseudo-header, and after a nonempty stretch; an exchanged prefix leaves every sum's class, so no field is updated
abbrev pub covers : Sum → Edit → List ℕ → Bool
covers header lifetime p = true
covers header (address side new) p = true
covers header (stretch place new) p = false
covers header (prefix side expected new) p = false
covers message lifetime p = false
covers message (address side new) p = pseudo p
covers message (stretch place new) p = not (eqb (length new) 0)
covers message (prefix side expected new) p = false

abbrev pub updates : Sum → Edit → List ℕ → Bool
updates s e p = covers s e p && used s p

-- some edit that is accepted on the way updates it
abbrev pub Updated : Sum → List Edit → List ℕ → Type 0
Updated s [] p = ⊥
Updated s (e ∷ es) p = (((apply e p).0 ≡ Good) × (updates s e p ≡ true)) ⊎ Updated s es (apply e p).1

-- the sum is right, where it is in use
abbrev pub Right : Sum → List ℕ → Type 0
Right header p = header_sums p ≡ true
Right message p = used message p ≡ true → message_sums p ≡ true
