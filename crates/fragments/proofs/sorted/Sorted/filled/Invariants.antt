-- Where the pieces that are left fill from a place, all fill from the beginning.
use Rattle.std.proofs.Common.{◌≡◌, ◌+◌, ◌≤◌, [], ◌∷◌, ◌++◌, length}
use Rattle.fragments.specs.Fragments.{fills, together}
use Rattle.fragments.specs.Gathered.{piece_at, pieces_at}
use Rattle.fragments.proofs.Along.{left}
use Rattle.fragments.proofs.sorted.Sorted.filled.Given as goal

abbrev pub invariant-loop-place : goal.invariant-loop-place
invariant-loop-place l = (l.end ≤ 131063)
    × (fills l.end (left l.self.buffer.now l.others l.place-index ++ (piece_at l.self.buffer.now l.last ∷ [])) ≡ fills 0 (pieces_at l.self.buffer.now l.self.places.now))
    × (l.end + length (together (left l.self.buffer.now l.others l.place-index ++ (piece_at l.self.buffer.now l.last ∷ []))) ≡ length (together (pieces_at l.self.buffer.now l.self.places.now)))
