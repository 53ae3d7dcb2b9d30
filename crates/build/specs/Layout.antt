-- The bytes of a UDP packet, field by field in the order of RFC 791, RFC 8200 and RFC 768.
use Rattle.std.specs.Prelude.{ℕ, ◌+◌, ◌/◌, ◌%◌, List, [], ◌∷◌, ◌++◌, length, eqb, if◌then◌else◌}
use Rattle.wire.specs.declared.Family.{Family}
use Rattle.wire.specs.declared.Family.TheVariants.{Four, Six}
use Rattle.mend.specs.Fresh.{fresh_header, fresh_message}

-- a 16-bit number
abbrev pub word : ℕ → List ℕ
word n = n / 256 ∷ n % 256 ∷ []

-- RFC 791, before a datagram of so many bytes: version 4 and a header of five words, type of service, total length; identification,
-- flags and fragment offset; time to live, protocol, header checksum; source address; destination address
abbrev pub header4 : (size lifetime : ℕ) (source destination : List ℕ) (checksum : ℕ) → List ℕ
header4 size lifetime source destination checksum =
    0x45 ∷ 0 ∷ (word (20 + size) ++ (word 0 ++ (word 0 ++ (lifetime ∷ 17 ∷ (word checksum ++ (source ++ destination))))))

-- RFC 8200: version 6, traffic class and flow label; payload length, next header, hop limit; source address; destination address
abbrev pub header6 : (size lifetime : ℕ) (source destination : List ℕ) → List ℕ
header6 size lifetime source destination = 0x60 ∷ 0 ∷ 0 ∷ 0 ∷ (word size ++ (17 ∷ lifetime ∷ (source ++ destination)))

-- RFC 768: source port, destination port, length of header and data, checksum; data
abbrev pub datagram : (source destination : ℕ) (body : List ℕ) (checksum : ℕ) → List ℕ
datagram source destination body checksum =
    word source ++ (word destination ++ (word (8 + length body) ++ (word checksum ++ body)))

-- ---- the packet
-- what is asked for, and the same in the order of the function's parameters
pub record Asked : Type 0 where
  pub source : List ℕ
  pub destination : List ℕ
  pub source_port : ℕ
  pub destination_port : ℕ
  pub lifetime : ℕ
  pub body : List ℕ

abbrev pub asked : (source destination : List ℕ) (source_port destination_port lifetime : ℕ) (body : List ℕ) → Asked
asked source destination source_port destination_port lifetime body = record {
  source = source;
  destination = destination;
  source_port = source_port;
  destination_port = destination_port;
  lifetime = lifetime;
  body = body;
}

-- the family, by the source's size
abbrev pub family_for : List ℕ → Family
family_for source = if eqb (length source) 4 then Four else Six

-- its header's size, the datagram's, and the packet's
abbrev pub header_size : Family → ℕ
header_size Four = 20
header_size Six = 40

abbrev pub datagram_size : Asked → ℕ
datagram_size a = 8 + length a.body

abbrev pub size_of : Asked → ℕ
size_of a = header_size (family_for a.source) + datagram_size a

-- its header, with a word in the field; IPv6 has none
abbrev pub header_in : Family → (size lifetime : ℕ) (source destination : List ℕ) (checksum : ℕ) → List ℕ
header_in Four size lifetime source destination checksum = header4 size lifetime source destination checksum
header_in Six size lifetime source destination checksum = header6 size lifetime source destination

abbrev pub header_for : Family → Asked → (checksum : ℕ) → List ℕ
header_for family a checksum = header_in family (datagram_size a) a.lifetime a.source a.destination checksum

-- the datagram, with a word in its field
abbrev pub datagram_for : Asked → (checksum : ℕ) → List ℕ
datagram_for a checksum = datagram a.source_port a.destination_port a.body checksum

-- one behind the other, with these two words in the fields
unfoldable pub laid : Family → Asked → (header message : ℕ) → List ℕ
laid family a header message = header_for family a header ++ datagram_for a message

-- with the words that mending works out, both fields being read as 0000; the first is nowhere in IPv6
abbrev pub packet_in : Family → Asked → List ℕ
packet_in family a =
    let blank = laid family a 0 0 in
    laid family a (fresh_header blank) (fresh_message blank)

unfoldable pub packet_of : Asked → List ℕ
packet_of a = packet_in (family_for a.source) a
