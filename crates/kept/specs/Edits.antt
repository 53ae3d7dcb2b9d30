-- What each edit answers, and the bytes that it leaves: the refusals in order, and then the new bytes with the fields updated.
use Rattle.std.specs.Prelude.{ℕ, ◌+◌, ◌-◌, ◌%◌, ◌≤◌, ◌≡◌, List, [], ◌∷◌, ◌++◌, Bool, true, not, ◌&&◌, ◌||◌, length, ltb, eqb, if◌then◌else◌}
use Rattle.verdicts.specs.Rules.{Rule, ◌⇒◌, first}
use Rattle.verdicts.specs.declared.Verdict.{Verdict}
use Rattle.verdicts.specs.declared.Verdict.TheVariants.{Good, Place, Spent, Blank}
use Rattle.wire.specs.Bytes.{byte_at, part, put, put_word}
use Rattle.wire.specs.Outer.{lifetime_at, addresses_at, address_size, addresses_length, outer_rules}
use Rattle.wire.specs.Inner.{protocol_of, start_of, end_of, length_of, field_at, body_of, pseudo, whole_rules}
use Rattle.judge.specs.Judge.{missing_rule}
use Rattle.kept.specs.Update.{header_after, message_after}

-- ---- lifetime: only the header is involved
abbrev pub lowered : List ℕ → List ℕ
lowered p = (byte_at p (lifetime_at p) - 1) ∷ []

-- after 2, 3 and 4 from header and declared length: spent if it is 0 or 1
abbrev pub lifetime_rules : List ℕ → List Rule
lifetime_rules p = (ltb (byte_at p (lifetime_at p)) 2 ⇒ Spent) ∷ []

abbrev pub lifetime_left : List ℕ → List ℕ
lifetime_left p = header_after p (lifetime_at p) (lowered p) (put p (lifetime_at p) (lowered p))

unfoldable pub lifetime_of : List ℕ → Verdict × List ℕ
lifetime_of p = first (outer_rules p ++ lifetime_rules p) (λ v. (v, p)) (Good, lifetime_left p)

-- ---- what the other edits refuse first: 2, 3, 4, 6, 7, 8 in the judge's order, sums not being looked at
unfoldable pub edit_rules : List ℕ → List Rule
edit_rules p = whole_rules p ++ missing_rule p

-- ---- address: side 0 is the source, 1 the destination
abbrev pub side_at : List ℕ → ℕ → ℕ
side_at p side = addresses_at p + (if eqb side 0 then 0 else address_size p)

abbrev pub address_rules : List ℕ → ℕ → List ℕ → List Rule
address_rules p side new =
    (not (eqb side 0 || eqb side 1) ⇒ Place)
    ∷ (not (eqb (length new) (address_size p)) ⇒ Place)
    ∷ []

-- the message's field counts addresses by their position in the pseudo-header
abbrev pub address_left : List ℕ → ℕ → List ℕ → List ℕ
address_left p a new =
    let q = header_after p a new (put p a new) in
    if pseudo p then message_after p (a - addresses_at p) a new q else q

unfoldable pub address_of : List ℕ → ℕ → List ℕ → Verdict × List ℕ
address_of p side new = first (edit_rules p ++ address_rules p side new) (λ v. (v, p)) (Good, address_left p (side_at p side) new)

-- n bytes from a lie in the addresses, at an even place: what the writing of an address asks
pub record Addressed (p : List ℕ) (a n : ℕ) : Type 0 where
  pub from : addresses_at p ≤ a
  pub even : (a - addresses_at p) % 2 ≡ 0
  pub to : a + n ≤ addresses_at p + addresses_length p

-- ---- stretch: a place in the body and new bytes
abbrev pub all_zero : List ℕ → Bool
all_zero [] = true
all_zero (x ∷ xs) = eqb x 0 && all_zero xs

-- the message of p's layout in q, its field aside, is all zeros
unfoldable pub blank : List ℕ → List ℕ → Bool
blank p q = all_zero (part (put_word q (field_at p) 0) (start_of p) (length_of p))

-- place unless it fits the body; blank for ICMP that is all zeros before a nonempty edit or would be after it
abbrev pub stretch_rules : List ℕ → ℕ → List ℕ → List Rule
stretch_rules p place new =
    (ltb (end_of p - body_of p) (place + length new) ⇒ Place)
    ∷ (eqb (protocol_of p) 1 && not (eqb (length new) 0) && (blank p p || blank p (put p (body_of p + place) new)) ⇒ Blank)
    ∷ []

-- an empty stretch writes nothing
abbrev pub stretch_left : List ℕ → ℕ → List ℕ → List ℕ
stretch_left p a new = if eqb (length new) 0 then p else message_after p (a - start_of p) a new (put p a new)

unfoldable pub stretch_of : List ℕ → ℕ → List ℕ → Verdict × List ℕ
stretch_of p place new = first (edit_rules p ++ stretch_rules p place new) (λ v. (v, p)) (Good, stretch_left p (body_of p + place) new)
