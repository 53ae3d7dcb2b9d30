-- The texts so far stand at the buffer's start.
use Rattle.lines.proofs.Texts.{Spelling}
use Rattle.lines.proofs.spell_counts.Given as goal

abbrev pub invariant-loop-text : goal.invariant-loop-text
invariant-loop-text l = Spelling l.counts l.fn.out l.at l.out l.text-index
