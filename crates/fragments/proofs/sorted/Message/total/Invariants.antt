-- What is summed so far and what is left have the fold of the whole.
use Rattle.std.proofs.Common.{◌≡◌, ◌+◌, true, take}
use Rattle.sums.specs.Total.{weigh}
use Rattle.sums.specs.Fold.{fold}
use Rattle.fragments.specs.Fragments.{together}
use Rattle.fragments.specs.Gathered.{pieces_at}
use Rattle.fragments.proofs.Along.{left, Evens}
use Rattle.fragments.proofs.sorted.Message.total.Given as goal

abbrev pub invariant-loop-place : goal.invariant-loop-place
invariant-loop-place l = Evens (left l.self.parts.buffer.now l.self.parts.places.now l.place-index)
    × (fold (l.t + weigh true (take l.left (together (left l.self.parts.buffer.now l.self.parts.places.now l.place-index)))) ≡ fold (l.seed + weigh true (take l.size (together (pieces_at l.self.parts.buffer.now l.self.parts.places.now)))))
