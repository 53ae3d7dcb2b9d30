-- The judge: the first rule that applies, in the paper's order.
use Rattle.std.specs.Prelude.{ℕ, List, [], ◌∷◌, ◌++◌, Bool, not, ◌&&◌, Result, Ok, Err}
use Rattle.verdicts.specs.Rules.{Rule, ◌⇒◌, first, verdict_by}
use Rattle.verdicts.specs.declared.Verdict.{Verdict}
use Rattle.verdicts.specs.declared.Verdict.TheVariants.{Unsummed, HeaderSum, Missing, MessageSum}
use Rattle.wire.specs.Outer.{four, outer_rules}
use Rattle.wire.specs.Walk.{walk_rules}
use Rattle.wire.specs.Inner.{silent_of, message_of, message_rules}
use Rattle.wire.specs.declared.Message.{Message}
use Rattle.cover.specs.Sums.{header_sums, message_sums}

abbrev pub header_sum_rule : List ℕ → List Rule
header_sum_rule p = (not (header_sums p) ⇒ HeaderSum) ∷ []

-- of any message, whatever carries it: silent if it is UDP's with the field 0000, four if it goes over IPv4, sums if its sum is right
abbrev pub missing_by : (silent four : Bool) → List Rule
missing_by silent four = (silent && not four ⇒ Missing) ∷ []

abbrev pub sum_rules_by : (silent four sums : Bool) → List Rule
sum_rules_by silent four sums = missing_by silent four ++ ((silent && four ⇒ Unsummed) ∷ (not sums ⇒ MessageSum) ∷ [])

-- and of a packet's
abbrev pub missing_rule : List ℕ → List Rule
missing_rule p = missing_by (silent_of p) (four p)

unfoldable pub sum_rules : List ℕ → List Rule
sum_rules p = sum_rules_by (silent_of p) (four p) (message_sums p)

unfoldable pub judge_rules : List ℕ → List Rule
judge_rules p = outer_rules p ++ (header_sum_rule p ++ (walk_rules p ++ (message_rules p ++ sum_rules p)))

unfoldable pub judge_of : List ℕ → Verdict
judge_of p = verdict_by (judge_rules p)

-- the message that is to be summed, or the first refusal of the rules before it
unfoldable pub to_sum_of : List ℕ → Result Message Verdict
to_sum_of p = first (outer_rules p ++ (header_sum_rule p ++ (walk_rules p ++ message_rules p))) Err (Ok (message_of p))

-- the verdict on the message of a packet that no earlier rule refuses
unfoldable pub message_verdict : List ℕ → Verdict
message_verdict p = verdict_by (sum_rules p)
