-- A message by itself, whatever carries it: its shape, where it ends, and the block that its field covers, over family, protocol,
-- the two addresses and the message's bytes.
use Rattle.std.specs.Prelude.{ℕ, ◌*◌, ◌/◌, ◌%◌, List, [], ◌∷◌, ◌++◌, Bool, ◌&&◌, ◌||◌, length, ltb, eqb, if◌then◌else◌}
use Rattle.verdicts.specs.Rules.{Rule, ◌⇒◌}
use Rattle.verdicts.specs.declared.Verdict.TheVariants.{Shape}
use Rattle.verdicts.specs.declared.Verdict.TheVariants as verdict
use Rattle.wire.specs.Bytes.{byte_at, word_at}
use Rattle.wire.specs.Table.{row_of, uncovered, plan_of}
use Rattle.wire.specs.declared.Family.{Family}
use Rattle.wire.specs.declared.Family.TheVariants.{Four, Six}
use Rattle.wire.specs.declared.Plan.{Plan}

-- the table's line for a protocol n in a family
abbrev pub plan_in : Family → ℕ → Plan
plan_in family n = plan_of (row_of family n)

-- the length that a message says itself: TCP its header's, by the data offset; UDP its datagram's; another none but that of the
-- bytes m that a packet carries
unfoldable pub said_in : ℕ → List ℕ → ℕ
said_in n m = if eqb n 6 then byte_at m 12 / 16 * 4 else if eqb n 17 then word_at m 4 else length m

-- where the body begins: after the fixed header, and for TCP after the data offset
abbrev pub body_in : Family → ℕ → List ℕ → ℕ
body_in family n m = if eqb n 6 then said_in n m else (plan_in family n).fixed

-- where the message ends: UDP's with its datagram, and what follows is a tail; another with m
abbrev pub end_in : ℕ → List ℕ → ℕ
end_in n m = if eqb n 17 then said_in n m else length m

-- UDP's field of 0000: no sum
abbrev pub silent_in : Family → ℕ → List ℕ → Bool
silent_in family n m = eqb n 17 && eqb (word_at m (plan_in family n).field) 0

-- protocol; message shorter than its fixed header; TCP's or UDP's length below that, or past what is carried
unfoldable pub shape_rules : Family → ℕ → List ℕ → List Rule
shape_rules family n m =
    (uncovered (row_of family n) ⇒ verdict.Uncovered)
    ∷ (ltb (length m) (plan_in family n).fixed ⇒ Shape)
    ∷ (ltb (said_in n m) (plan_in family n).fixed || ltb (length m) (said_in n m) ⇒ Shape)
    ∷ []

-- behind the addresses: IPv4 a zero byte, protocol, 16-bit length; IPv6 32-bit length, three zero bytes, next header
abbrev pub rest_in : Family → ℕ → ℕ → List ℕ
rest_in Four n size = 0 ∷ n ∷ size / 256 ∷ size % 256 ∷ []
rest_in Six n size = 0 ∷ 0 ∷ size / 256 ∷ size % 256 ∷ 0 ∷ 0 ∷ 0 ∷ n ∷ []

-- what stands before a message of so many bytes in the covered block: its pseudo-header, or nothing
abbrev pub before_in : Family → ℕ → List ℕ → ℕ → List ℕ
before_in family n addresses size = if (plan_in family n).pseudo then addresses ++ rest_in family n size else []

-- the covered block
abbrev pub covered_in : Family → ℕ → List ℕ → List ℕ → List ℕ
covered_in family n addresses m = before_in family n addresses (length m) ++ m
