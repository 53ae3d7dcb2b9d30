-- What the records of a capture are: read from the front, and, the other way round, laid out.
use Rattle.std.specs.Prelude.{ℕ, zero, suc, ◌+◌, ◌/◌, ◌%◌, ◌≤◌, List, [], ◌∷◌, ◌++◌, Bool, true, false, not, ◌&&◌, ◌||◌, length, drop, ltb, eqb, if◌then◌else◌, Option, Some, None, Result, Ok, Err}
use Rattle.wire.specs.Bytes.{byte_at, word_at, part}
use Rattle.capture.specs.declared.Damaged.{Damaged}
use Rattle.capture.specs.declared.Found.{Found}

-- ---- a capture's head: mark and version
abbrev pub capture_head : ℕ
capture_head = 5

-- under 3 bytes, or another mark than 47 4C 52
unfoldable pub other_mark : List ℕ → Bool
other_mark c = ltb (length c) 3 || not (eqb (byte_at c 0) 0x47 && (eqb (byte_at c 1) 0x4C && eqb (byte_at c 2) 0x52))

-- under 5 bytes, or a version that isn't 1
unfoldable pub other_edition : List ℕ → Bool
other_edition c = ltb (length c) capture_head || not (eqb (word_at c 3) 1)

-- ---- a record's head: its packet's length
abbrev pub record_head : ℕ
record_head = 2

-- no packet has more bytes
abbrev pub most : ℕ
most = 2048

-- what a head can say: nothing is there, a packet of so many bytes follows, or something is damaged
abbrev pub Head : Type 0
Head = Result (Option ℕ) Damaged

abbrev pub damaged : Damaged
damaged = record {}

-- what the bytes from a record's start say: there are none, the length is cut or too great, or a packet of so many
-- bytes follows the head
unfoldable pub head_of : List ℕ → Head
head_of xs =
    if eqb (length xs) 0 then Ok None
    else if ltb (length xs) record_head then Err damaged
    else if ltb most (word_at xs 0) then Err damaged
    else Ok (Some (word_at xs 0))

-- ---- the records, read from the front
-- the same where so many bytes are there: a cut packet is damage too
abbrev pub held : ℕ → Head → Head
held there (Ok None) = Ok None
held there (Err d) = Err d
held there (Ok (Some n)) = if ltb there (record_head + n) then Err damaged else Ok (Some n)

-- what some bytes begin with: nothing, damage, or a whole record with a packet of so many bytes
abbrev pub front_of : List ℕ → Head
front_of xs = held (length xs) (head_of xs)

-- a record's packet of so many bytes, and what stands behind the record
abbrev pub packet : List ℕ → ℕ → List ℕ
packet xs n = part xs record_head n

abbrev pub behind : List ℕ → ℕ → List ℕ
behind xs n = drop (record_head + n) xs

-- the packets of the whole records, in order, and whether what follows them is damaged
pub record Records : Type 0 where
  pub packets : List (List ℕ)
  pub broken : Bool

-- nothing is left
abbrev pub none : Records
none = record { packets = []; broken = false }

-- what is left is damaged
abbrev pub ruin : Records
ruin = record { packets = []; broken = true }

infixr 5 ◌before◌
abbrev pub ◌before◌ : List ℕ → Records → Records
p before rest = record { packets = p ∷ rest.packets; broken = rest.broken }

-- a whole record is read, and reading goes on behind it
abbrev pub going : Head → (ℕ → Records) → Records
going (Ok None) on = none
going (Err d) on = ruin
going (Ok (Some n)) on = on n

-- at most so many records
unfoldable pub read_by : ℕ → List ℕ → Records
read_by zero xs = none
read_by (suc turns) xs = going (front_of xs) (λ n. packet xs n before read_by turns (behind xs n))

-- there are no more records than bytes
unfoldable pub read_of : List ℕ → Records
read_of xs = read_by (length xs) xs

-- a capture's records stand behind its head
abbrev pub records_in : List ℕ → Records
records_in c = read_of (drop capture_head c)

-- where the packet of the record at a place of a capture starts and ends
abbrev pub placed : ℕ → Head → Result (Option Found) Damaged
placed at (Ok None) = Ok None
placed at (Err d) = Err d
placed at (Ok (Some n)) = Ok (Some (record { start = at + record_head; end = at + record_head + n }))

unfoldable pub record_at : List ℕ → ℕ → Result (Option Found) Damaged
record_at c at = placed at (front_of (drop at c))

-- ---- the records, laid out
unfoldable pub laid : List (List ℕ) → List ℕ
laid [] = []
laid (p ∷ ps) = length p / 256 ∷ length p % 256 ∷ (p ++ laid ps)

-- the capture of some packets
unfoldable pub capture_of : List (List ℕ) → List ℕ
capture_of ps = 0x47 ∷ 0x4C ∷ 0x52 ∷ 0x00 ∷ 0x01 ∷ laid ps

-- each packet has at most 2,048 bytes
abbrev pub Small : List (List ℕ) → Type 0
Small [] = Unit
Small (p ∷ ps) = (length p ≤ most) × Small ps
