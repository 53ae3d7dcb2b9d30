-- The verdicts on a capture's records, and the refusals of a capture.
use Rattle.std.specs.Prelude.{ℕ, List, [], ◌∷◌, ◌++◌, map, length, drop, ltb, if◌then◌else◌, Result, Ok, Err}
use Rattle.std.specs.Borrow.{Bor}
use Rattle.verdicts.specs.Numbers.{number_of}
use Rattle.verdicts.specs.Rules.{Rule, ◌⇒◌, first}
use Rattle.verdicts.specs.declared.Verdict.{Verdict}
use Rattle.verdicts.specs.declared.Verdict.TheVariants.{Mark, Edition, Record, Room}
use Rattle.wire.specs.Bytes.{put}
use Rattle.judge.specs.Judge.{judge_of}
use Rattle.capture.specs.Records.{Records, damaged, other_mark, other_edition, capture_head, records_in}
use Rattle.capture.specs.declared.Damaged.{Damaged}

abbrev pub head_rules : List ℕ → List Rule
head_rules c = (other_mark c ⇒ Mark) ∷ (other_edition c ⇒ Edition) ∷ []

-- damage comes before room: the whole capture is read before room is looked at
abbrev pub record_rules : Records → ℕ → List Rule
record_rules r places = (r.broken ⇒ Record) ∷ (ltb places (length r.packets) ⇒ Room) ∷ []

unfoldable pub capture_rules : List ℕ → ℕ → List Rule
capture_rules c places = head_rules c ++ record_rules (records_in c) places

-- one verdict number a record, in order
unfoldable pub verdicts_of : List (List ℕ) → List ℕ
verdicts_of packets = map (λ p. number_of (judge_of p)) packets

-- the answer, and the second buffer afterwards, which a refusal leaves as it was
unfoldable pub judged_of : List ℕ → List ℕ → Result ℕ Verdict × List ℕ
judged_of c buffer =
    let packets = (records_in c).packets in
    first (capture_rules c (length buffer))
    (λ v. (Err v, buffer))
    (Ok (length packets), put buffer 0 (verdicts_of packets))

-- how many records were judged: none beside a refusal
abbrev pub count_in : Result ℕ Verdict → ℕ
count_in (Ok n) = n
count_in (Err v) = 0

-- what an answer that lends bytes shows
abbrev pub shown : {E : Type 0} → Result (Bor (List ℕ)) E → Result (List ℕ) E
shown (Ok b) = Ok b.now
shown (Err e) = Err e

-- the bytes behind a capture's head, unless it is refused
abbrev pub body_of : List ℕ → Result (List ℕ) Verdict
body_of c = first (head_rules c) (λ v. Err v) (Ok (drop capture_head c))

-- how many records there are, unless there is damage
abbrev pub counted_of : Records → Result ℕ Damaged
counted_of r = if r.broken then Err damaged else Ok (length r.packets)

-- the packets one after the other, and behind them the damage, if there is any
unfoldable pub listed : Records → List (Result (List ℕ) Damaged)
listed r = map Ok r.packets ++ (if r.broken then Err damaged ∷ [] else [])
