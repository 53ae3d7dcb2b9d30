-- What the functions on the way to a packet ask and answer.
use Rattle.std.specs.Prelude.{◌≡◌, ℕ, ◌+◌, ◌-◌, ◌≤◌, List, true, length}
use Rattle.wire.specs.Bytes.{put}
use Rattle.wire.specs.declared.Family.{Family}
use Rattle.wire.specs.declared.Family.TheVariants.{Four, Six}
use Rattle.wire.specs.declared.Message.{Message}
use Rattle.build.specs.Layout.{Asked, header_size, header_in}

-- an address's size
abbrev pub address_bytes : Family → ℕ
address_bytes Four = 4
address_bytes Six = 16

-- both addresses are of that size, and the body is short enough for 16-bit lengths
pub record Fits (family : Family) (a : Asked) : Type 0 where
  pub source : length a.source ≡ address_bytes family
  pub destination : length a.destination ≡ address_bytes family
  pub body : length a.body ≤ 1400

-- where a datagram with so long a body stands, behind a header of so many bytes, and behind the family's
abbrev pub places_at : Family → (header body : ℕ) → Message
places_at family header body = record {
  family = family;
  protocol = 17;
  pseudo = true;
  start = header;
  end = header + (8 + body);
  field = header + 6;
  body = header + 8;
}

abbrev pub places_in : Family → ℕ → Message
places_in family body = places_at family (header_size family) body

-- what laying out a header leaves: the header in a packet's first bytes, with a field of 0000
abbrev pub header_left : Family → (packet : List ℕ) → Asked → List ℕ
header_left family packet a = put packet 0 (header_in family (length packet - header_size family) a.lifetime a.source a.destination 0)
