-- What the theorems on fragments speak of: a list that passes the tests up to 6, and an unfragmented packet that carries the same.
use Rattle.std.specs.Prelude.{◌≡◌, ℕ, ◌+◌, ◌≤◌, ◌<◌, true, false, length, List}
use mathlib.Core.List.{Memᴰ}
use Rattle.verdicts.specs.Rules.{IsClear}
use Rattle.wire.specs.Bytes.{part}
use Rattle.wire.specs.Outer.{four, next_of, fragment_of, outer_rules}
use Rattle.wire.specs.Inner.{carried_of, addresses_of}
use Rattle.cover.specs.Sums.{header_sums}
use Rattle.fragments.specs.Fragments.{Piece, packet_of, packets_of, list_rules, packets_rules, piece_of, together, filling_rules, pieces_in}
use Rattle.fragments.specs.declared.Fragment.{Fragment}

-- a list that passes the tests up to 6: its own, each packet's, and those of the pieces
pub record Filling (buffer : List ℕ) (fs : List Fragment) : Type 0 where
  pub list : IsClear (list_rules (length buffer) fs)
  pub packets : IsClear (packets_rules (packets_of buffer fs))
  pub pieces : IsClear (filling_rules (pieces_in buffer fs))

-- an IPv4 packet that passes the judge's tests up to 6: its header's shape and sum, and it is no fragment
pub record Unfragmented (q : List ℕ) : Type 0 where
  pub outer : IsClear (outer_rules q)
  pub four : four q ≡ true
  pub header : header_sums q ≡ true
  pub unsplit : fragment_of q ≡ false

-- q carries what they carry: the protocol and the addresses of one of them, as all share these, and the message put together
pub record Carries (buffer : List ℕ) (fs : List Fragment) (q : List ℕ) : Type 0 where
  pub one : Fragment
  pub among : Memᴰ one fs
  pub protocol : next_of q ≡ next_of (packet_of buffer one)
  pub addresses : addresses_of q ≡ addresses_of (packet_of buffer one)
  pub message : carried_of q ≡ together (pieces_in buffer fs)

-- a piece that none of the three tests of shape refuses when it is alone: it isn't empty, and ends no later than message byte 65,515
pub record Placed (p : Piece) : Type 0 where
  pub some : 0 < length p.bytes
  pub within : p.begin + length p.bytes ≤ 65515

-- ---- the message put together, in RFC 791's words
-- m has a piece's bytes where they begin, and ends with them if none follow
pub record Stands (m : List ℕ) (x : Piece) : Type 0 where
  pub bytes : part m x.begin (length x.bytes) ≡ x.bytes
  pub last : x.more ≡ false → length m ≡ x.begin + length x.bytes

-- each record's piece stands so in m
abbrev pub Reassembled : List ℕ → List Fragment → List ℕ → Type 0
Reassembled buffer fs m = (f : Fragment) → Memᴰ f fs → Stands m (piece_of (packet_of buffer f))
