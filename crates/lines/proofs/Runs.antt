-- A whole run decides exactly the lines that the layout defines.
use Rattle.std.proofs.Common.{◌≡◌, refl, sym, ap, ap₂, ◌∙◌, ℕ, zero, suc, ◌+◌, ◌≤◌, ◌<◌, arith, add-zero, zero-add, List, [], ◌∷◌, ◌++◌, Bool, true, false, length, take, drop, length-take, length-drop, take-take, drop-drop}
use Rattle.std.specs.Prelude.{if◌then◌else◌, eqb, ltb, Some, None, Ok, Err, IfSome}
use borrow.Author.Tests.{ne_eqb, lt-ltb, le-ltb}
use Rattle.verdicts.specs.declared.Verdict.TheVariants.{Mark, Edition, Record}
use Rattle.verdicts.proofs.Tests.{by_cases}
use Rattle.verdicts.proofs.Rules.{first_either}
use Rattle.judge.specs.Judge.{judge_of}
use Rattle.capture.specs.Records.{capture_head, record_head, most, Head, damaged, head_of, packet, behind, Records, none, ruin, ◌before◌, read_of, other_mark, other_edition}
use Rattle.capture.specs.Judged.{head_rules}
use Rattle.capture.proofs.Reading.{Says, head-none, head-says, head-taken, Headed, Damage, in_head, in-packet, by-reading}
use Rattle.capture.proofs.Heads.{mark-taken, edition-taken, edition_long}
use Rattle.lines.specs.Lines.{verdict_on, record_lines, how_many, is_good, is_unsummed, is_refused, last_line, lines_of}
use Rattle.lines.specs.Feed.{zeros, start_of, want_of, largest, more, tallied, Decided, stopping, judging, ending, going, by_head, decided_in, decided_of}
use Rattle.lines.specs.Run.{◌onto◌, run_by}
use Rattle.lines.specs.declared.Phase.{Phase}
use Rattle.lines.specs.declared.Phase.TheVariants as phase
use Rattle.lines.specs.declared.Tally.{Tally}
use Rattle.lines.specs.declared.State.{State}
use Rattle.lines.specs.declared.Line.{Line}
use Rattle.lines.specs.declared.Line.TheVariants.{Judged, Totals, Stopped}

abbrev at : Phase → Tally → State
at p t = record { phase = p; tally = t }

-- ---- one turn
run-stopped : (k : ℕ) (t : Tally) (xs : List ℕ) → run_by k (at phase.Stopped t) xs ≡ []
unfolding run_by
run-stopped zero t xs = refl
run-stopped (suc k) t xs = refl

turn : (k : ℕ) (s : State) (xs : List ℕ) (n : ℕ) (d : Decided) → want_of s ≡ Some n → d ≡ decided_of s (take n xs) → run_by (suc k) s xs ≡ d.1 onto run_by k d.0 (drop n xs)
unfolding run_by
turn k s xs n d w e = simp (w, sym e)

-- ---- what is wanted
abbrev Small : Decided → Type 0
Small d = IfSome (want_of d.0) (λ n. n ≤ most)

wants-by : (t : Tally) (xs : List ℕ) (h : Head) → Says xs h → Small (by_head t h)
wants-by t xs (Ok None) s = tt
wants-by t xs (Err d) s = tt
wants-by t xs (Ok (Some n)) s = by_cases (eqb n 0) (λ b. rw b (omega arith)) (λ b. simp b s.small)

wants-in : (p : Phase) (t : Tally) (bytes : List ℕ) → Small (decided_in p t bytes)
wants-in phase.CaptureHead t bytes = first_either Small (head_rules bytes) _ _ (λ v. tt) (λ c. omega arith)
wants-in phase.RecordHead t bytes = wants-by t bytes (head_of bytes) (head-says bytes)
wants-in (phase.Packet size) t bytes = by_cases (ltb (length bytes) size) (λ b. rw b tt) (λ b. rw b (omega arith))
wants-in phase.Stopped t bytes = tt

-- no more bytes are ever wanted at once than the longest packet has
pub wants-small : (s : State) (bytes : List ℕ) → IfSome (want_of (decided_of s bytes).0) (λ n. n ≤ most)
wants-small s bytes = wants-in s.phase s.tally bytes

-- ---- what is counted on the way
-- the counts of some records more
abbrev added : Tally → List (List ℕ) → Tally
added t ps = record {
  records = t.records + length ps;
  good = t.good + how_many is_good ps;
  unsummed = t.unsummed + how_many is_unsummed ps;
  refused = t.refused + how_many is_refused ps;
}

-- 64 bits hold the counts, and one more for each byte that is left
record Roomy (t : Tally) (xs : List ℕ) : Type 0 where
  records : t.records + length xs ≤ largest
  good : t.good + length xs ≤ largest
  unsummed : t.unsummed + length xs ≤ largest
  refused : t.refused + length xs ≤ largest

one_more : (n : ℕ) → n + 1 ≤ largest → more n ≡ n + 1
unfolding more
one_more n h = rw (lt-ltb n largest (omega arith))

counted : (b : Bool) (n k : ℕ) → n + 1 ≤ largest → (if b then more n else n) + k ≡ n + ((if b then 1 else 0) + k)
counted true n k h = omega (arith, one_more n h)
counted false n k h = omega arith

few : (b : Bool) (n m k : ℕ) → n + m ≤ largest → 1 + k ≤ m → (if b then more n else n) + k ≤ largest
few true n m k h l = omega (arith, one_more n (omega arith))
few false n m k h l = omega arith

last_from : Tally → Records → Line
last_from t r = if r.broken then Stopped Record (t.records + length r.packets) else Totals (added t r.packets)

module _ (t : Tally) (xs : List ℕ) (n : ℕ) (w : record_head + n ≤ length xs) (h : Roomy t xs) where
  abbrev next : Tally
  next = tallied t (verdict_on (packet xs n))

  next-records : next.records ≡ t.records + 1
  next-records = one_more t.records (omega arith)

  next-roomy : Roomy next (behind xs n)
  next-roomy =
      let v = verdict_on (packet xs n) in
      let l : 1 + length (behind xs n) ≤ length xs = omega (arith, length-drop (record_head + n) xs) in
      record {
        records = few true t.records (length xs) (length (behind xs n)) h.records l;
        good = few (is_good v) t.good (length xs) (length (behind xs n)) h.good l;
        unsummed = few (is_unsummed v) t.unsummed (length xs) (length (behind xs n)) h.unsummed l;
        refused = few (is_refused v) t.refused (length xs) (length (behind xs n)) h.refused l;
      }

  next-count : (ps : List (List ℕ)) → next.records + length ps ≡ t.records + suc (length ps)
  next-count ps = omega (arith, next-records)

  next-added : (ps : List (List ℕ)) → added next ps ≡ added t (packet xs n ∷ ps)
  unfolding how_many
  next-added ps =
      let v = verdict_on (packet xs n) in
      λ i. record {
        records = next-count ps i;
        good = counted (is_good v) t.good (how_many is_good ps) (omega arith) i;
        unsummed = counted (is_unsummed v) t.unsummed (how_many is_unsummed ps) (omega arith) i;
        refused = counted (is_refused v) t.refused (how_many is_refused ps) (omega arith) i;
      }

  next_last : (r : Records) → last_from next r ≡ last_from t (packet xs n before r)
  unfolding last_from
  next_last r =
      by_cases r.broken
      (λ b. rw b (ap (Stopped Record) (next-count r.packets)))
      (λ b. rw b (ap Totals (next-added r.packets)))

  next-lines : (r : Records)
      → (Judged next.records (judge_of (packet xs n)) ∷ (record_lines next.records r.packets ++ (last_from next r ∷ [])))
      ≡ record_lines t.records (packet xs n ∷ r.packets) ++ (last_from t (packet xs n before r) ∷ [])
  unfolding record_lines
  next-lines r = rw (next_last r, next-records)

-- ---- the records, from a head on
abbrev Runs : List ℕ → Records → Type 0
Runs xs r = (k : ℕ) (t : Tally) → length xs < k → Roomy t xs
    → run_by k (at phase.RecordHead t) xs ≡ record_lines t.records r.packets ++ (last_from t r ∷ [])

-- a record's head is read
opened : (k : ℕ) (t : Tally) (xs : List ℕ) (h : Head) (d : Decided) → head_of xs ≡ h → d ≡ by_head t h
    → run_by (suc k) (at phase.RecordHead t) xs ≡ d.1 onto run_by k d.0 (drop record_head xs)
opened k t xs h d e q = turn k (at phase.RecordHead t) xs record_head d refl (q ∙ ap (by_head t) (sym (head-taken xs ∙ e)))

-- a packet of some bytes follows it
sized : (t : Tally) (n : ℕ) → 0 < n → going (phase.Packet n) t ≡ by_head t (Ok (Some n))
sized t n z = rw (ne_eqb n 0 (λ e. omega arith))

wanted : (t : Tally) (n : ℕ) → 0 < n → want_of (at (phase.Packet n) t) ≡ Some n
wanted t n z = simp (ne_eqb n 0 (λ e. omega arith))

-- nothing more is read behind the last line
closes : (k : ℕ) (t : Tally) (xs : List ℕ) (l m : Line) → l ≡ m → (l ∷ run_by k (at phase.Stopped t) xs) ≡ m ∷ []
closes k t xs l m e = ap₂ (λ a ls. a ∷ ls) e (run-stopped k t xs)

added_none : (t : Tally) → t ≡ added t []
unfolding how_many
added_none t =
    λ i. record {
      records = sym (add-zero t.records) i;
      good = sym (add-zero t.good) i;
      unsummed = sym (add-zero t.unsummed) i;
      refused = sym (add-zero t.refused) i;
    }

ends : (xs : List ℕ) → length xs ≡ 0 → Runs xs none
unfolding record_lines last_from
ends xs e zero t h w = absurd (omega arith)
ends xs e (suc k) t h w =
    opened k t xs (Ok None) (ending t) (head-none xs e) refl
    ∙ closes k t (drop record_head xs) (Totals t) (Totals (added t [])) (ap Totals (added_none t))

stops : (xs : List ℕ) → Damage xs → Runs xs ruin
unfolding record_lines last_from
stops xs d zero t h w = absurd (omega arith)
stops xs (in_head e) (suc k) t h w =
    opened k t xs (Err damaged) (stopping t Record) e refl
    ∙ closes k t (drop record_head xs) _ _ (ap (Stopped Record) (sym (add-zero t.records)))
stops xs (in-packet n p l) (suc zero) t h w = absurd (omega arith)
stops xs (in-packet n p l) (suc (suc k)) t h w =
    opened (suc k) t xs (Ok (Some n)) (going (phase.Packet n) t) p.head (sized t n (omega arith))
    ∙ turn k (at (phase.Packet n) t) (drop record_head xs) n (stopping t Record) (wanted t n (omega arith))
    (simp (lt-ltb (length (packet xs n)) n (omega (arith, length-take n (drop record_head xs), length-drop record_head xs))))
    ∙ closes k t (drop n (drop record_head xs)) _ _ (ap (Stopped Record) (sym (add-zero t.records)))

goes : (xs : List ℕ) (n : ℕ) → Headed xs n → record_head + n ≤ length xs → Runs (behind xs n) (read_of (behind xs n)) → Runs xs (packet xs n before read_of (behind xs n))
goes xs n p w on zero t h r = absurd (omega arith)
goes xs n p w on (suc zero) t h r = absurd (omega arith)
goes xs zero p w on (suc (suc k)) t h r =
    opened (suc k) t xs (Ok (Some 0)) (judging t []) p.head refl
    ∙ ap (λ ls. Judged (next t xs 0 w r).records (judge_of []) ∷ ls) (on (suc k) (next t xs 0 w r) (omega (arith, length-drop record_head xs)) (next-roomy t xs 0 w r))
    ∙ next-lines t xs 0 w r (read_of (behind xs 0))
goes xs (suc m) p w on (suc (suc k)) t h r =
    let n = suc m in
    opened (suc k) t xs (Ok (Some n)) (going (phase.Packet n) t) p.head (sized t n (omega arith))
    ∙ turn k (at (phase.Packet n) t) (drop record_head xs) n (judging t (packet xs n)) (wanted t n (omega arith))
    (simp (le-ltb (length (packet xs n)) n (omega (arith, length-take n (drop record_head xs), length-drop record_head xs)), take-take n n (drop record_head xs) (omega arith)))
    ∙ ap (λ ls. Judged (next t xs n w r).records (judge_of (packet xs n)) ∷ ls)
    (ap (run_by k (at phase.RecordHead (next t xs n w r))) (drop-drop n record_head xs)
    ∙ on k (next t xs n w r) (omega (arith, length-drop (record_head + n) xs)) (next-roomy t xs n w r))
    ∙ next-lines t xs n w r (read_of (behind xs n))

all_runs : (xs : List ℕ) → Runs xs (read_of xs)
all_runs = by-reading Runs ends stops goes

-- ---- the theorem
from-zeros : (r : Records) → last_from zeros r ≡ last_line r
unfolding last_from
from-zeros r =
    let ps = r.packets in
    rw (zero-add (length ps), zero-add (how_many is_good ps), zero-add (how_many is_unsummed ps), zero-add (how_many is_refused ps))

-- A run over an input prints the lines that the layout defines. As many turns as bytes, and one, are enough; that the
-- length fits 64 bits is all that is asked.
pub run-lines : (file : List ℕ) (turns : ℕ) → length file < turns → length file ≤ largest → run_by turns start_of file ≡ lines_of file
unfolding lines_of
run-lines file zero h w = absurd (omega arith)
run-lines file (suc k) h w =
    by_cases (other_mark file)
    (λ m.
    turn k start_of file capture_head (stopping zeros Mark) refl (simp (mark-taken, m))
    ∙ closes k zeros (drop capture_head file) _ _ refl
    ∙ simp m)
    (λ m.
    by_cases (other_edition file)
    (λ e.
    turn k start_of file capture_head (stopping zeros Edition) refl (simp (mark-taken, edition-taken, m, e))
    ∙ closes k zeros (drop capture_head file) _ _ refl
    ∙ simp (m, e))
    (λ e.
    let l = edition_long file e in
    turn k start_of file capture_head (going phase.RecordHead zeros) refl (simp (mark-taken, edition-taken, m, e))
    ∙ all_runs (drop capture_head file) k zeros (omega (arith, length-drop capture_head file)) (omega (arith, length-drop capture_head file))
    ∙ simp (m, e, from-zeros)))
