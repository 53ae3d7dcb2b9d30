-- A whole run prints exactly the bytes of the lines that the layout defines.
use Rattle.std.proofs.Common.{◌≡◌, refl, sym, ap, ap₂, ◌∙◌, ℕ, zero, suc, ◌+◌, ◌/◌, ◌%◌, ◌^◌, ◌≤◌, ◌<◌, arith, pow-suc, List, [], ◌∷◌, ◌++◌, Bool, true, false, length, take, drop, length-append}
use Rattle.std.proofs.lemmas.List.Edits.{sets-eq}
use Rattle.std.proofs.Math.Seq.{length-sets, take-append_seam}
use Rattle.std.specs.Prelude.{if◌then◌else◌, eqb, ltb, Option, Some, None, Ok, Err}
use Rattle.std.specs.Option.{option_map_or}
use borrow.Author.Tests.{lt-ltb, ltb-true}
use Rattle.io.specs.Digits.{last_digits, hex_digit_ascii}
use Rattle.verdicts.specs.Numbers.{number_of}
use Rattle.verdicts.specs.declared.Verdict.{Verdict}
use Rattle.verdicts.specs.declared.Verdict.TheVariants as verdict
use Rattle.verdicts.proofs.Tests.{by_cases}
use Rattle.verdicts.proofs.Rules.{first_either}
use Rattle.wire.specs.Bytes.{put}
use Rattle.judge.specs.Judge.{judge_of}
use Rattle.capture.specs.Records.{Head, head_of}
use Rattle.capture.specs.Judged.{head_rules}
use Rattle.lines.specs.Text.{line_size, ascii, places_by, places, decimal_of}
use Rattle.lines.specs.Lines.{verdict_on, pair_text, totals_text, text_of, line_text, printed, is_good, is_unsummed, is_refused, lines_of}
use Rattle.lines.specs.Feed.{start_of, want_of, largest, more, Decided, stopping, judging, ending, going, by_head, decided_in, decided_of, fed_of}
use Rattle.lines.specs.Run.{output_by, ◌onto◌, run_by}
use Rattle.lines.specs.declared.Phase.{Phase}
use Rattle.lines.specs.declared.Phase.TheVariants as phase
use Rattle.lines.specs.declared.Tally.{Tally}
use Rattle.lines.specs.declared.State.{State}
use Rattle.lines.specs.declared.Line.{Line}
use Rattle.lines.proofs.Runs.{run-lines}

-- ---- a number of 64 bits takes at most 20 bytes
abbrev Narrow : ℕ → Type 0
Narrow n = n ≤ largest

digits-length : (k n : ℕ) → length (last_digits 10 k n) ≡ k
digits-length zero n = refl
digits-length (suc k) n = omega (arith, length-append (last_digits 10 k (n / 10)) (hex_digit_ascii (n % 10) ∷ []), digits-length k (n / 10))

places-most : (most n k : ℕ) → n < 10 ^ suc k → places_by most n ≤ suc k
unfolding places_by
places-most zero n k h = omega arith
places-most (suc most) n zero h = rw (lt-ltb n 10 (omega arith)) (omega arith)
places-most (suc most) n (suc k) h =
    by_cases (ltb n 10)
    (λ b. rw b (omega arith))
    (λ b. rw b (omega (arith, places-most most (n / 10) k (omega (arith, pow-suc 10 (suc k))))))

decimal-length : (n : ℕ) → Narrow n → length (decimal_of n) ≤ 20
unfolding decimal_of
decimal-length n h = omega (arith, digits-length (places n) n, places-most n n 19 (omega arith))

pair-length : (first : List ℕ) (a : ℕ) (second : List ℕ) (b : ℕ) → Narrow a → Narrow b → length (pair_text first a second b) ≤ length first + length second + 41
unfolding pair_text
pair-length first a second b h l = simp length-append (omega (arith, decimal-length a h, decimal-length b l))

-- ---- what is decided of counts of 64 bits fits the buffer, and the counts stay so
record Counts (t : Tally) : Type 0 where
  records : Narrow t.records
  good : Narrow t.good
  unsummed : Narrow t.unsummed
  refused : Narrow t.refused

record Fit (d : Decided) : Type 0 where
  text : length (line_text d.1) ≤ line_size
  counts : Counts d.0.tally

number-narrow : (v : Verdict) → Narrow (number_of v)
number-narrow verdict.Good = omega arith
number-narrow verdict.Unsummed = omega arith
number-narrow verdict.Cut = omega arith
number-narrow verdict.Version = omega arith
number-narrow verdict.Shape = omega arith
number-narrow verdict.HeaderSum = omega arith
number-narrow verdict.Fragment = omega arith
number-narrow verdict.Uncovered = omega arith
number-narrow verdict.Missing = omega arith
number-narrow verdict.MessageSum = omega arith
number-narrow verdict.Place = omega arith
number-narrow verdict.Spent = omega arith
number-narrow verdict.Blank = omega arith
number-narrow verdict.Mark = omega arith
number-narrow verdict.Edition = omega arith
number-narrow verdict.Record = omega arith
number-narrow verdict.Room = omega arith

more-narrow : (n : ℕ) → Narrow n → Narrow (more n)
unfolding more
more-narrow n h =
    by_cases (ltb n largest)
    (λ b. let l = ltb-true n largest b in rw b (omega arith))
    (λ b. rw b h)

either-narrow : (b : Bool) (n : ℕ) → Narrow n → Narrow (if b then more n else n)
either-narrow true n h = more-narrow n h
either-narrow false n h = h

fit-if : {a b : Decided} (c : Bool) → Fit a → Fit b → Fit (if c then a else b)
fit-if true f g = f
fit-if false f g = g

module _ (t : Tally) (k : Counts t) where
  fit-going : (p : Phase) → Fit (going p t)
  unfolding text_of
  fit-going p = record { text = omega arith; counts = k }

  fit-stopping : (v : Verdict) → Fit (stopping t v)
  unfolding text_of
  fit-stopping v = record { text = omega (arith, pair-length (ascii "stopped ") (number_of v) (ascii " after ") t.records (number-narrow v) k.records); counts = k }

  fit-ending : Fit (ending t)
  unfolding text_of totals_text
  fit-ending =
      record {
        text =
            simp length-append
            (omega (
              arith,
              decimal-length t.records k.records,
              decimal-length t.good k.good,
              decimal-length t.unsummed k.unsummed,
              decimal-length t.refused k.refused,
            ));
        counts = k;
      }

  fit-judging : (p : List ℕ) → Fit (judging t p)
  unfolding text_of
  fit-judging p =
      let v = verdict_on p in
      let n = more-narrow t.records k.records in
      record {
        text = omega (arith, pair-length (ascii "record ") (more t.records) (ascii " verdict ") v n (number-narrow (judge_of p)));
        counts = record {
          records = n;
          good = either-narrow (is_good v) t.good k.good;
          unsummed = either-narrow (is_unsummed v) t.unsummed k.unsummed;
          refused = either-narrow (is_refused v) t.refused k.refused;
        };
      }

  fit-head : (h : Head) → Fit (by_head t h)
  fit-head (Ok None) = fit-ending
  fit-head (Err d) = fit-stopping verdict.Record
  fit-head (Ok (Some n)) = fit-if (eqb n 0) (fit-judging []) (fit-going (phase.Packet n))

  fit : (p : Phase) (bytes : List ℕ) → Fit (decided_in p t bytes)
  fit phase.CaptureHead bytes = first_either Fit (head_rules bytes) (stopping t) (going phase.RecordHead t) fit-stopping (λ c. fit-going phase.RecordHead)
  fit phase.RecordHead bytes = fit-head (head_of bytes)
  fit (phase.Packet size) bytes = fit-if (ltb (length bytes) size) (fit-stopping verdict.Record) (fit-judging (take size bytes))
  fit phase.Stopped bytes = fit-going phase.Stopped

-- ---- the bytes
-- what was put at a buffer's start is read there
put-taken : (buffer text : List ℕ) → length text ≤ length buffer → take (length text) (put buffer 0 text) ≡ text
unfolding put
put-taken buffer text h = ap (take (length text)) (sets-eq text buffer 0 (omega arith)) ∙ take-append_seam text _

put-length : (buffer text : List ℕ) → length (put buffer 0 text) ≡ length buffer
unfolding put
put-length buffer text = length-sets buffer 0 text

printed-onto : (l : Option Line) (ls : List Line) → printed (l onto ls) ≡ line_text l ++ printed ls
unfolding printed
printed-onto None ls = refl
printed-onto (Some l) ls = refl

outputs : (turns : ℕ) (s : State) (input buffer : List ℕ) → Counts s.tally → line_size ≤ length buffer → output_by turns s input buffer ≡ printed (run_by turns s input)
unfolding output_by run_by fed_of printed
outputs zero s input buffer k h = refl
outputs (suc turns) s input buffer k h =
    let d = λ (n : ℕ). decided_of s (take n input) in
    let page = λ (n : ℕ). put buffer 0 (line_text (d n).1) in
    let prints = option_map_or (λ n. take (length (line_text (d n).1)) (page n) ++ output_by turns (d n).0 (drop n input) (page n)) in
    let runs = option_map_or (λ n. (d n).1 onto run_by turns (d n).0 (drop n input)) in
    elim (want_of s) as (λ w. prints w [] ≡ printed (runs w [])) [
      | None ↦ refl
      | Some n ↦
          let f = fit s.tally k s.phase (take n input) in
          ap₂ (λ xs ys. xs ++ ys) (put-taken buffer (line_text (d n).1) (omega arith)) (outputs turns (d n).0 (drop n input) (page n) f.counts (rw put-length h))
          ∙ sym (printed-onto (d n).1 (run_by turns (d n).0 (drop n input)))
    ]

-- A run over an input prints the bytes of the lines that the layout defines, and nothing else.
pub run-prints : (file buffer : List ℕ) (turns : ℕ) → line_size ≤ length buffer → length file < turns → length file ≤ largest
    → output_by turns start_of file buffer ≡ printed (lines_of file)
run-prints file buffer turns b h w = outputs turns start_of file buffer (omega arith) b ∙ ap printed (run-lines file turns h w)
