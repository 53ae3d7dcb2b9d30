-- When each answer of an edit comes: the paper's conditions, in its order and in numbers, each with its verdict.
use Rattle.std.specs.Prelude.{ℕ, ◌+◌, ◌-◌, ◌<◌, ◌≤◌, ◌≡◌, ◌⊎◌, ◌≢◌, List, [], ◌∷◌, ◌++◌, length}
use Rattle.verdicts.specs.Rules.{Case, ◌leads◌}
use Rattle.verdicts.specs.declared.Verdict.TheVariants.{Cut, Version, Place, Spent, Blank}
use Rattle.wire.specs.Bytes.{byte_at, word_at, put}
use Rattle.wire.specs.Outer.{version_of}
use Rattle.wire.specs.Inner.{protocol_of, start_of, end_of, field_at, body_of}
use Rattle.judge.specs.Cases.{outer_cases, whole_cases, missing_case}
use Rattle.kept.specs.Edits.{side_at}
use Rattle.kept.specs.Runs.{Edit, lifetime, address, stretch, prefix}

abbrev pub lifetime_cases : List ℕ → List Case
lifetime_cases p = ((((version_of p ≡ 4) × (byte_at p 8 < 2)) ⊎ ((version_of p ≡ 6) × (byte_at p 7 < 2))) leads Spent) ∷ []

-- 2, 3, 4, 6, 7, 8, before those of the address and of the stretch
abbrev pub edit_cases : List ℕ → List Case
edit_cases p = whole_cases p ++ missing_case p

abbrev pub address_cases : List ℕ → ℕ → List ℕ → List Case
address_cases p side new =
    (((side ≢ 0) × (side ≢ 1)) leads Place)
    ∷ ((((version_of p ≡ 4) × (length new ≢ 4)) ⊎ ((version_of p ≡ 6) × (length new ≢ 16))) leads Place)
    ∷ []

-- in q every byte of the message of p's layout, its field aside, is 0
abbrev pub Zeros : List ℕ → List ℕ → Type 0
Zeros p q = (i : ℕ) → start_of p ≤ i → i < end_of p → i ≢ field_at p → i ≢ field_at p + 1 → byte_at q i ≡ 0

abbrev pub stretch_cases : List ℕ → ℕ → List ℕ → List Case
stretch_cases p place new =
    ((end_of p - body_of p < place + length new) leads Place)
    ∷ (((protocol_of p ≡ 1) × (length new ≢ 0) × (Zeros p p ⊎ Zeros p (put p (body_of p + place) new))) leads Blank)
    ∷ []

-- a prefix: IPv4 is another version
abbrev pub six_cases : List ℕ → List Case
six_cases p = ((length p ≡ 0) leads Cut) ∷ ((version_of p ≢ 6) leads Version) ∷ edit_cases p

-- p has those bytes from a on
abbrev pub Reads : List ℕ → ℕ → List ℕ → Type 0
Reads p a xs = (i : ℕ) → i < length xs → byte_at p (a + i) ≡ byte_at xs i

abbrev pub prefix_cases : List ℕ → ℕ → List ℕ → List ℕ → List Case
prefix_cases p side expected new =
    (((side ≢ 0) × (side ≢ 1)) leads Place)
    ∷ ((length expected ≢ 6) leads Place)
    ∷ ((length new ≢ 6) leads Place)
    ∷ ((¬ Reads p (side_at p side) expected) leads Place)
    ∷ ((word_at p (side_at p side + 6) ≡ 65535) leads Place)
    ∷ []

abbrev pub cases_of : Edit → List ℕ → List Case
cases_of lifetime p = outer_cases p ++ lifetime_cases p
cases_of (address side new) p = edit_cases p ++ address_cases p side new
cases_of (stretch place new) p = edit_cases p ++ stretch_cases p place new
cases_of (prefix side expected new) p = six_cases p ++ prefix_cases p side expected new
