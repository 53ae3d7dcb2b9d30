-- The lines: as data, as bytes, and which ones a whole input has.
use Rattle.std.specs.Prelude.{ℕ, ◌+◌, List, [], ◌∷◌, ◌++◌, Bool, length, eqb, ltb, if◌then◌else◌, Option, Some, None, flat_map, sum_by}
use Rattle.std.specs.Borrow.{Bor}
use Rattle.verdicts.specs.Numbers.{number_of}
use Rattle.verdicts.specs.Rules.{first}
use Rattle.verdicts.specs.declared.Verdict.TheVariants.{Record}
use Rattle.judge.specs.Judge.{judge_of}
use Rattle.capture.specs.Records.{Records, records_in}
use Rattle.capture.specs.Judged.{head_rules}
use Rattle.lines.specs.Text.{ascii, decimal_of}
use Rattle.lines.specs.declared.Tally.{Tally}
use Rattle.lines.specs.declared.Line.{Line}
use Rattle.lines.specs.declared.Line.TheVariants.{Judged, Totals, Stopped}

-- ---- a line's bytes
-- two texts with a number behind each
unfoldable pub pair_text : List ℕ → ℕ → List ℕ → ℕ → List ℕ
pair_text first a second b = first ++ (decimal_of a ++ (second ++ (decimal_of b ++ ascii "\n")))

unfoldable pub totals_text : Tally → List ℕ
totals_text t =
    ascii "records " ++ (decimal_of t.records ++ (ascii " good " ++ (decimal_of t.good
    ++ (ascii " unsummed " ++ (decimal_of t.unsummed ++ (ascii " refused " ++ (decimal_of t.refused ++ ascii "\n")))))))

-- texts with a number behind each
abbrev pub parts_text : List (Bor (List ℕ) × ℕ) → List ℕ
parts_text ps = flat_map (λ p. p.0.now ++ decimal_of p.1) ps

-- the same and a line's end
abbrev pub counts_text : List (Bor (List ℕ) × ℕ) → List ℕ
counts_text ps = parts_text ps ++ ascii "\n"

-- how many bytes they take at most, where a number takes 20
abbrev pub room_of : List (Bor (List ℕ) × ℕ) → ℕ
room_of ps = sum_by (λ p. length p.0.now + 20) ps

unfoldable pub text_of : Line → List ℕ
text_of (Judged number verdict) = pair_text (ascii "record ") number (ascii " verdict ") (number_of verdict)
text_of (Totals t) = totals_text t
text_of (Stopped verdict after) = pair_text (ascii "stopped ") (number_of verdict) (ascii " after ") after

-- of no line there are none
abbrev pub line_text : Option Line → List ℕ
line_text None = []
line_text (Some l) = text_of l

unfoldable pub printed : List Line → List ℕ
printed [] = []
printed (l ∷ ls) = text_of l ++ printed ls

-- ---- the lines of a whole input
abbrev pub verdict_on : List ℕ → ℕ
verdict_on packet = number_of (judge_of packet)

-- a line for each record, numbered on from those before
unfoldable pub record_lines : ℕ → List (List ℕ) → List Line
record_lines before [] = []
record_lines before (p ∷ ps) = Judged (before + 1) (judge_of p) ∷ record_lines (before + 1) ps

unfoldable pub how_many : (ℕ → Bool) → List (List ℕ) → ℕ
how_many test [] = 0
how_many test (p ∷ ps) = (if test (verdict_on p) then 1 else 0) + how_many test ps

abbrev pub is_good : ℕ → Bool
is_good v = eqb v 0

abbrev pub is_unsummed : ℕ → Bool
is_unsummed v = eqb v 1

-- every number but 0 and 1 is a refusal
abbrev pub is_refused : ℕ → Bool
is_refused v = ltb 1 v

abbrev pub tally_of : List (List ℕ) → Tally
tally_of ps = record { records = length ps; good = how_many is_good ps; unsummed = how_many is_unsummed ps; refused = how_many is_refused ps }

-- behind the records: the totals, or where damage stopped the reading
abbrev pub last_line : Records → Line
last_line r = if r.broken then Stopped Record (length r.packets) else Totals (tally_of r.packets)

unfoldable pub lines_of : List ℕ → List Line
lines_of file =
    first (head_rules file)
    (λ v. Stopped v 0 ∷ [])
    (record_lines 0 (records_in file).packets ++ (last_line (records_in file) ∷ []))
