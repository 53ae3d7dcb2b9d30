-- A verdict becomes its number; beside it stands every lent byte and every answer handed back through a pointer.
use Rattle.std.specs.Prelude.{ℕ, List, Result, Ok, Err}
use Rattle.verdicts.specs.Numbers.{number_of}
use Rattle.verdicts.specs.declared.Verdict.{Verdict}
use Rattle.verdicts.specs.declared.Verdict.TheVariants.{Good}
use Rattle.sums.specs.declared.Partial.{Partial}
use Rattle.sums.specs.declared.Unjoined.{Unjoined}
use Rattle.capture.specs.Judged.{count_in}
use Rattle.build.specs.Build.{Built, verdict_in, length_in}

-- of a call that writes a packet: the number, and the packet afterwards
abbrev pub numbered : Verdict × List ℕ → ℕ × List ℕ
numbered q = (number_of q.0, q.1)

-- of a capture: the number, the count, which is 0 beside a refusal, and the verdict buffer afterwards
abbrev pub counted : Result ℕ Verdict × List ℕ → ℕ × (ℕ × List ℕ)
counted q = (number_of (verdict_in q.0), (count_in q.0, q.1))

-- of joined sums: the number, the fold, and the length; of a refusal those of the left sum
abbrev pub summed : Result Partial Unjoined → ℕ × (ℕ × ℕ)
summed (Ok s) = (number_of Good, (s.fold.0, s.length))
summed (Err u) = (number_of u.verdict, (u.left.fold.0, u.left.length))

-- of a chain: the same; of a refusal those of the sum of nothing
abbrev pub chained : Result Partial Verdict → ℕ × (ℕ × ℕ)
chained (Ok s) = (number_of Good, (s.fold.0, s.length))
chained (Err v) = (number_of v, (0, 0))

-- of a packet that is built: the number, its length, and the buffer afterwards
abbrev pub built : Built × List ℕ → ℕ × (ℕ × List ℕ)
built q = (number_of (verdict_in q.0), (length_in q.0, q.1))
