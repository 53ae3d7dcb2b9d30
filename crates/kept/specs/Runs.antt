-- Sequences of edits, and what they write when no sum is updated.
use Rattle.std.specs.Prelude.{ℕ, ◌+◌, ◌<◌, ◌≤◌, ◌≡◌, ◌⊎◌, List, [], ◌∷◌, ◌++◌, length}
use Rattle.verdicts.specs.Rules.{Rule, first}
use Rattle.verdicts.specs.declared.Verdict.{Verdict}
use Rattle.verdicts.specs.declared.Verdict.TheVariants.{Good}
use Rattle.wire.specs.Bytes.{Bytes, put}
use Rattle.wire.specs.Outer.{lifetime_at, outer_rules}
use Rattle.wire.specs.Inner.{body_of}
use Rattle.kept.specs.Edits.{edit_rules, lowered, lifetime_rules, lifetime_of, side_at, address_rules, address_of, stretch_rules, stretch_of}
use Rattle.kept.specs.Prefix.{six_rules, prefix_rules, prefix_new, prefix_of}

pub data Edit : Type 0 where
  lifetime : Edit
  address : ℕ → List ℕ → Edit
  stretch : ℕ → List ℕ → Edit
  prefix : ℕ → List ℕ → List ℕ → Edit

-- an edit's answer and what it leaves: what the four functions promise
abbrev pub apply : Edit → List ℕ → Verdict × List ℕ
apply lifetime p = lifetime_of p
apply (address side new) p = address_of p side new
apply (stretch place new) p = stretch_of p place new
apply (prefix side expected new) p = prefix_of p side expected new

-- one edit after the other, refused ones included
abbrev pub run : List Edit → List ℕ → List ℕ
run [] p = p
run (e ∷ es) p = run es (apply e p).1

-- ---- the same edits with no sums at all
abbrev pub rules_of : Edit → List ℕ → List Rule
rules_of lifetime p = outer_rules p ++ lifetime_rules p
rules_of (address side new) p = edit_rules p ++ address_rules p side new
rules_of (stretch place new) p = edit_rules p ++ stretch_rules p place new
rules_of (prefix side expected new) p = six_rules p ++ prefix_rules p side expected new

-- where an edit writes, and what
abbrev pub place_of : Edit → List ℕ → ℕ
place_of lifetime p = lifetime_at p
place_of (address side new) p = side_at p side
place_of (stretch place new) p = body_of p + place
place_of (prefix side expected new) p = side_at p side

abbrev pub new_of : Edit → List ℕ → List ℕ
new_of lifetime p = lowered p
new_of (address side new) p = new
new_of (stretch place new) p = new
new_of (prefix side expected new) p = prefix_new p (side_at p side) new

-- the bytes r with what an edit that p accepts writes
abbrev pub written : Edit → List ℕ → List ℕ → List ℕ
written e p r = first (rules_of e p) (λ v. r) (put r (place_of e p) (new_of e p))

-- the bytes r with what each accepted edit writes, in order
abbrev pub bare : List Edit → List ℕ → List ℕ → List ℕ
bare [] p r = r
bare (e ∷ es) p r = bare es (apply e p).1 (written e p r)

-- ---- what the theorems speak of
-- new bytes are bytes
abbrev pub Fit : Edit → Type 0
Fit lifetime = Unit
Fit (address side new) = Bytes new
Fit (stretch place new) = Bytes new
Fit (prefix side expected new) = Bytes new

abbrev pub Fits : List Edit → Type 0
Fits [] = Unit
Fits (e ∷ es) = Fit e × Fits es

-- no edit that is accepted on the way writes byte i
abbrev pub Untouched : List Edit → List ℕ → ℕ → Type 0
Untouched [] p i = Unit
Untouched (e ∷ es) p i =
    ((apply e p).0 ≡ Good → (i < place_of e p) ⊎ (place_of e p + length (new_of e p) ≤ i)) × Untouched es (apply e p).1 i
