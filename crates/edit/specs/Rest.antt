-- What each edit answers where the packet's shape is right, for a lifetime the outer one, and what the code writes of a header. A
-- reader need not believe these: the contracts cite `kept`.
use Rattle.std.specs.Prelude.{ℕ, ◌+◌, List, [], ◌∷◌, not, length, eqb}
use Rattle.verdicts.specs.Rules.{◌⇒◌, first}
use Rattle.verdicts.specs.declared.Verdict.{Verdict}
use Rattle.verdicts.specs.declared.Verdict.TheVariants.{Good, Place}
use Rattle.sums.specs.Fold.{swap}
use Rattle.wire.specs.Bytes.{put_word}
use Rattle.wire.specs.Outer.{address_size, header_field}
use Rattle.wire.specs.Inner.{body_of}
use Rattle.wire.specs.declared.Family.{Family}
use Rattle.wire.specs.declared.Family.TheVariants.{Four, Six}
use Rattle.kept.specs.Edits.{lifetime_rules, lifetime_left, side_at, address_left, stretch_rules, stretch_left}
use Rattle.steps.specs.Sides.{side_rule}

-- q with the word w, low byte first, in its header's field, which IPv6 hasn't
abbrev pub header_put : Family → List ℕ → ℕ → List ℕ
header_put Four q w = put_word q header_field (swap w)
header_put Six q w = q

abbrev pub lifetime_by : Family → ℕ
lifetime_by Four = 8
lifetime_by Six = 7

abbrev pub lifetime_in : List ℕ → Verdict × List ℕ
lifetime_in p = first (lifetime_rules p) (λ v. (v, p)) (Good, lifetime_left p)

-- of an address at a
abbrev pub address_in : List ℕ → ℕ → List ℕ → Verdict × List ℕ
address_in p a new = first ((not (eqb (length new) (address_size p)) ⇒ Place) ∷ []) (λ v. (v, p)) (Good, address_left p a new)

-- on the side that a number names
abbrev pub address_on : List ℕ → ℕ → List ℕ → Verdict × List ℕ
address_on p side new = first (side_rule side ∷ []) (λ v. (v, p)) (address_in p (side_at p side) new)

abbrev pub stretch_in : List ℕ → ℕ → List ℕ → Verdict × List ℕ
stretch_in p place new = first (stretch_rules p place new) (λ v. (v, p)) (Good, stretch_left p (body_of p + place) new)
