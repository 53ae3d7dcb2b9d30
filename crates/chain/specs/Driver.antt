-- A careful driver: it joins the sum of a piece only where the sum that it has ends, and leaves every other piece out.
use Rattle.std.specs.Prelude.{ℕ, List, [], ◌∷◌, Bool, take, drop, eqb, if◌then◌else◌}
use Rattle.sums.specs.Partials.{partial_of, join_of, handed_back}
use Rattle.sums.specs.declared.Partial.{Partial}

-- a piece: its offset and its length
abbrev pub Piece : Type 0
Piece = ℕ × ℕ

-- the partial sum of a piece
abbrev pub piece_of : List ℕ → Piece → Partial
piece_of buffer p = partial_of (take p.1 (drop p.0 buffer))

-- a piece begins where a sum ends
unfoldable pub in_place : Partial → Piece → Bool
in_place s p = eqb s.length p.0

-- the sum after the pieces that came, in any order
unfoldable pub driven : List ℕ → Partial → List Piece → Partial
driven buffer s [] = s
driven buffer s (p ∷ ps) = driven buffer (if in_place s p then handed_back (join_of s (piece_of buffer p)) else s) ps
