-- The number is its definition.
use Rattle.prefix.specs.Rest.{six_of}
use borrow.Author.Rules.{rules}
use Rattle.prefix.proofs.le6.Goals as goal

pub returns : goal.returns
unfolding six_of
returns c = search rules
