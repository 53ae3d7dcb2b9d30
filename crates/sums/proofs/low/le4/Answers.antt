-- The number is its definition.
use Rattle.std.proofs.Common.{rules}
use Rattle.sums.specs.Low.{two_at, four_at, eight_at}
use Rattle.sums.proofs.low.le4.Goals as goal

pub returns : goal.returns
unfolding two_at four_at eight_at
returns c = search rules
