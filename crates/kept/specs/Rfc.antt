-- RFC 6296 in its own words: what a translator between an inside and an outside prefix of 48 bits writes behind the prefix.
use Rattle.std.specs.Prelude.{ℕ, ◌+◌, ◌-◌, List, eqb, if◌then◌else◌}
use Rattle.sums.specs.Total.{total}
use Rattle.sums.specs.Fold.{fold}

-- one's complement sums of 16-bit words, whose carries come back in at the low end, and differences: the inverted word is added
abbrev pub plus : ℕ → ℕ → ℕ
plus a b = fold (a + b)

abbrev pub minus : ℕ → ℕ → ℕ
minus a b = plus a (65535 - b)

-- the sum of the inside prefix's words less that of the outside one's
abbrev pub adjustment : List ℕ → List ℕ → ℕ
adjustment inside outside = minus (fold (total inside)) (fold (total outside))

-- a result of FFFF is written as 0000
abbrev pub unless_ones : ℕ → ℕ
unless_ones w = if eqb w 65535 then 0 else w

-- the word behind the prefix: on the way out the adjustment is added to it, and on the way in it is taken away
abbrev pub outward : List ℕ → List ℕ → ℕ → ℕ
outward inside outside w = unless_ones (plus w (adjustment inside outside))

abbrev pub inward : List ℕ → List ℕ → ℕ → ℕ
inward inside outside w = unless_ones (minus w (adjustment inside outside))
