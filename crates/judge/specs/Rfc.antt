-- Good, unsummed and the places of the fields in the RFCs' own words and numbers. Of our own rules only those of the shape
-- are cited, as "nothing refuses it"; what is said of fields, bodies and ends is said of the places that mender and edits go by.
use Rattle.std.specs.Prelude.{ℕ, ◌+◌, ◌-◌, ◌*◌, ◌/◌, ◌%◌, ◌≡◌, ◌⊎◌, ◌≢◌, List, [], ◌∷◌, ◌++◌, Bool, true, false}
use Rattle.verdicts.specs.Rules.{IsClear}
use Rattle.wire.specs.Bytes.{byte_at, word_at, part}
use Rattle.wire.specs.Outer.{header_field}
use Rattle.wire.specs.Inner.{whole_rules, field_at, body_of, end_of, pseudo}

-- RFC 1071: one's complement addition; a carry out of the top is added in at the bottom
infixl 60 ◌⊞◌
abbrev pub ◌⊞◌ : ℕ → ℕ → ℕ
a ⊞ b = (a + b) % 65536 + (a + b) / 65536

-- the sum of a block's words; a block of odd length is padded with a zero byte at the end
unfoldable pub summed : List ℕ → ℕ
summed [] = 0
summed (a ∷ []) = 256 * a + 0
summed (a ∷ b ∷ rest) = (256 * a + b) ⊞ summed rest

-- to check is to sum with the field in place: the result is all ones
abbrev pub Right : List ℕ → Type 0
Right block = summed block ≡ 0xffff

-- RFC 791: the header's length stands in 4-byte words in the low half of byte 0, the total length in bytes 2 and 3
abbrev pub ihl : List ℕ → ℕ
ihl p = byte_at p 0 % 16 * 4

abbrev pub data4 : List ℕ → List ℕ
data4 p = part p (ihl p) (word_at p 2 - ihl p)

-- RFC 8200, 4: the extension headers that may stand between: hop-by-hop options, routing, destination options
abbrev pub Extension : ℕ → Type 0
Extension n = (n ≡ 0) ⊎ (n ≡ 43) ⊎ (n ≡ 60)

-- byte 0 of each says what comes next, byte 1 its length in units of 8 octets, not counting the first 8: so from a place where n comes
-- next they lead to one where k does
pub data Leads (p : List ℕ) : (n at k first : ℕ) → Type 0 where
  there : {n at : ℕ} → Leads p n at n at
  over : {n at k first : ℕ} → Extension n → Leads p (byte_at p at) (at + (byte_at p (at + 1) + 1) * 8) k first → Leads p n at k first

-- behind the fixed header and those the upper-layer header of protocol k begins at `first`, and so much is said of it
pub record Upper (p : List ℕ) (Said : ℕ → ℕ → Type 0) : Type 0 where
  pub k : ℕ
  pub first : ℕ
  pub leads : Leads p (byte_at p 6) 40 k first
  pub said : Said k first

-- 8.1: the payload's length, from bytes 4 and 5, less that of the extension headers
abbrev pub upper_length : List ℕ → ℕ → ℕ
upper_length p first = word_at p 4 - (first - 40)

abbrev pub data6 : List ℕ → ℕ → List ℕ
data6 p first = part p first (upper_length p first)

-- RFC 768: the length in octets of this user datagram, its header included, stands in its bytes 4 and 5
abbrev pub datagram_length : List ℕ → ℕ → ℕ
datagram_length p first = word_at p (first + 4)

abbrev pub datagram : List ℕ → ℕ → List ℕ
datagram p first = part p first (datagram_length p first)

-- RFC 768, RFC 9293: source, destination, zero, protocol, length
abbrev pub pseudo4 : List ℕ → ℕ → ℕ → List ℕ
pseudo4 p protocol size = part p 12 4 ++ (part p 16 4 ++ (0 ∷ protocol ∷ size / 256 ∷ size % 256 ∷ []))

-- RFC 8200, 8.1: source, destination, upper-layer packet length in 32 bits, three zero bytes, the upper layer's protocol
abbrev pub pseudo6 : List ℕ → ℕ → ℕ → List ℕ
pseudo6 p next size =
    part p 8 16 ++ (part p 24 16 ++ (size / 16777216 ∷ size / 65536 % 256 ∷ size / 256 % 256 ∷ size % 256 ∷ 0 ∷ 0 ∷ 0 ∷ next ∷ []))

-- RFC 791: the header, with its options
abbrev pub Four : List ℕ → Type 0
Four p = (byte_at p 0 / 16 ≡ 4) × Right (part p 0 (ihl p))

-- RFC 792: ICMP's message alone; RFC 9293: TCP's segment; RFC 768: UDP's datagram, with its own length, and a sum was made
abbrev pub Right4 : List ℕ → Type 0
Right4 p =
    ((byte_at p 9 ≡ 1) × Right (data4 p))
    ⊎ ((byte_at p 9 ≡ 6) × Right (pseudo4 p 6 (word_at p 2 - ihl p) ++ data4 p))
    ⊎ ((byte_at p 9 ≡ 17) × (word_at p (ihl p + 6) ≢ 0) × Right (pseudo4 p 17 (datagram_length p (ihl p)) ++ datagram p (ihl p)))

-- the same over IPv6, where the pseudo-header has the upper layer's protocol and length; RFC 4443: ICMPv6's message
abbrev pub RightAt : List ℕ → ℕ → ℕ → Type 0
RightAt p k first =
    ((k ≡ 58) × Right (pseudo6 p 58 (upper_length p first) ++ data6 p first))
    ⊎ ((k ≡ 6) × Right (pseudo6 p 6 (upper_length p first) ++ data6 p first))
    ⊎ ((k ≡ 17) × (word_at p (first + 6) ≢ 0) × Right (pseudo6 p 17 (datagram_length p first) ++ datagram p first))

abbrev pub Right6 : List ℕ → Type 0
Right6 p = Upper p (RightAt p)

-- nothing refuses the packet's shape, and all its sums are right
abbrev pub IsGoodByRfc : List ℕ → Type 0
IsGoodByRfc p = IsClear (whole_rules p) × ((Four p × Right4 p) ⊎ ((byte_at p 0 / 16 ≡ 6) × Right6 p))

-- RFC 768: a field that is all zero means that no sum was made; over IPv4 alone
abbrev pub IsUnsummedByRfc : List ℕ → Type 0
IsUnsummedByRfc p = IsClear (whole_rules p) × Four p × (byte_at p 9 ≡ 17) × (word_at p (ihl p + 6) ≡ 0)

-- ---- where the fields stand, and where messages begin and end
-- the checksum of the message that begins at `first` stands `place` bytes behind that, its body `header` bytes and its end `size`,
-- and a pseudo-header is summed or none
abbrev pub Stands : List ℕ → ℕ → ℕ → ℕ → ℕ → Bool → Type 0
Stands p first place header size summed =
    (field_at p ≡ first + place) × (body_of p ≡ first + header) × (end_of p ≡ first + size) × (pseudo p ≡ summed)

-- RFC 9293: TCP's header has as many 4-byte words as the high half of its byte 12 says
abbrev pub tcp_header : List ℕ → ℕ → ℕ
tcp_header p first = byte_at p (first + 12) / 16 * 4

-- RFC 792: ICMP's at 2, in a header of 8 bytes (house); RFC 9293: TCP's at 16; both with what the IP header leaves of the total
-- length; RFC 768: UDP's at 6, in a header of 8 and with the length that it says
abbrev pub Fields4 : List ℕ → Type 0
Fields4 p =
    let size = word_at p 2 - ihl p in
    ((byte_at p 9 ≡ 1) × Stands p (ihl p) 2 8 size false)
    ⊎ ((byte_at p 9 ≡ 6) × Stands p (ihl p) 16 (tcp_header p (ihl p)) size true)
    ⊎ ((byte_at p 9 ≡ 17) × Stands p (ihl p) 6 8 (datagram_length p (ihl p)) true)

-- RFC 4443: ICMPv6's at 2, in a header of 4; it and TCP's segment have the upper layer's length
abbrev pub FieldsAt : List ℕ → ℕ → ℕ → Type 0
FieldsAt p k first =
    ((k ≡ 58) × Stands p first 2 4 (upper_length p first) true)
    ⊎ ((k ≡ 6) × Stands p first 16 (tcp_header p first) (upper_length p first) true)
    ⊎ ((k ≡ 17) × Stands p first 6 8 (datagram_length p first) true)

abbrev pub Fields6 : List ℕ → Type 0
Fields6 p = Upper p (FieldsAt p)

-- RFC 791: the header's own at 10
abbrev pub FieldsByRfc : List ℕ → Type 0
FieldsByRfc p = (header_field ≡ 10) × (((byte_at p 0 / 16 ≡ 4) × Fields4 p) ⊎ ((byte_at p 0 / 16 ≡ 6) × Fields6 p))
