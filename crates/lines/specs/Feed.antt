-- What decides the lines, a piece of the input at a time.
use Rattle.std.specs.Prelude.{ℕ, ◌+◌, List, [], length, take, eqb, ltb, if◌then◌else◌, Option, Some, None, Ok, Err}
use Rattle.verdicts.specs.Rules.{first}
use Rattle.verdicts.specs.declared.Verdict.{Verdict}
use Rattle.verdicts.specs.declared.Verdict.TheVariants.{Record}
use Rattle.wire.specs.Bytes.{put}
use Rattle.judge.specs.Judge.{judge_of}
use Rattle.capture.specs.Records.{capture_head, record_head, Head, head_of}
use Rattle.capture.specs.Judged.{head_rules}
use Rattle.lines.specs.Lines.{line_text, verdict_on, is_good, is_unsummed, is_refused}
use Rattle.lines.specs.declared.Phase.{Phase}
use Rattle.lines.specs.declared.Phase.TheVariants as phase
use Rattle.lines.specs.declared.Tally.{Tally}
use Rattle.lines.specs.declared.State.{State}
use Rattle.lines.specs.declared.Line.{Line}
use Rattle.lines.specs.declared.Line.TheVariants.{Judged, Totals, Stopped}

abbrev pub zeros : Tally
zeros = record { records = 0; good = 0; unsummed = 0; refused = 0 }

abbrev pub start_of : State
start_of = record { phase = phase.CaptureHead; tally = zeros }

-- how many bytes are wanted next: a head, a packet, or nothing more
abbrev pub want_in : Phase → Option ℕ
want_in phase.CaptureHead = Some capture_head
want_in phase.RecordHead = Some record_head
want_in (phase.Packet size) = if eqb size 0 then None else Some size
want_in phase.Stopped = None

abbrev pub want_of : State → Option ℕ
want_of s = want_in s.phase

-- the largest number of 64 bits, at which a count stays
abbrev pub largest : ℕ
largest = 18446744073709551615

unfoldable pub more : ℕ → ℕ
more n = if ltb n largest then n + 1 else n

-- one record more, with this verdict
abbrev pub tallied : Tally → ℕ → Tally
tallied t v = record {
  records = more t.records;
  good = if is_good v then more t.good else t.good;
  unsummed = if is_unsummed v then more t.unsummed else t.unsummed;
  refused = if is_refused v then more t.refused else t.refused;
}

-- the next state, and the line, if any
abbrev pub Decided : Type 0
Decided = State × Option Line

abbrev pub going : Phase → Tally → Decided
going p t = (record { phase = p; tally = t }, None)

abbrev pub stopping : Tally → Verdict → Decided
stopping t v = (record { phase = phase.Stopped; tally = t }, Some (Stopped v t.records))

abbrev pub judging : Tally → List ℕ → Decided
judging t packet =
    let u = tallied t (verdict_on packet) in
    (record { phase = phase.RecordHead; tally = u }, Some (Judged u.records (judge_of packet)))

abbrev pub ending : Tally → Decided
ending t = (record { phase = phase.Stopped; tally = t }, Some (Totals t))

-- the capture's head was read
abbrev pub after_capture_head : Tally → List ℕ → Decided
after_capture_head t bytes = first (head_rules bytes) (stopping t) (going phase.RecordHead t)

-- by what a record's head says: at the input's end the totals follow, and a packet of no bytes is judged at once
abbrev pub by_head : Tally → Head → Decided
by_head t (Ok None) = ending t
by_head t (Err d) = stopping t Record
by_head t (Ok (Some n)) = if eqb n 0 then judging t [] else going (phase.Packet n) t

-- a record's head was read
abbrev pub after_record_head : Tally → List ℕ → Decided
after_record_head t bytes = by_head t (head_of bytes)

-- a packet was read
abbrev pub after_packet : Tally → ℕ → List ℕ → Decided
after_packet t size bytes = if ltb (length bytes) size then stopping t Record else judging t (take size bytes)

abbrev pub decided_in : Phase → Tally → List ℕ → Decided
decided_in phase.CaptureHead t bytes = after_capture_head t bytes
decided_in phase.RecordHead t bytes = after_record_head t bytes
decided_in (phase.Packet size) t bytes = after_packet t size bytes
decided_in phase.Stopped t bytes = going phase.Stopped t

-- the next state and the line, if any, after the bytes that were wanted, or as many as there were
abbrev pub decided_of : State → List ℕ → Decided
decided_of s bytes = decided_in s.phase s.tally bytes

-- the same, with the line as bytes at the start of a buffer: the next state, how many bytes, and the buffer
unfoldable pub fed_of : State → List ℕ → List ℕ → State × ℕ × List ℕ
fed_of s bytes buffer =
    let d = decided_of s bytes in
    (d.0, length (line_text d.1), put buffer 0 (line_text d.1))
