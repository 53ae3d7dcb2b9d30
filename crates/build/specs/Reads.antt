-- What the theorems on a packet that is built speak of.
use Rattle.std.specs.Prelude.{◌≡◌, ◌⊎◌, ◌≢◌, ℕ, ◌+◌, ◌-◌, ◌≤◌, ◌<◌, List, [], ◌∷◌, true, false, length}
use Rattle.verdicts.specs.Rules.{Case, ◌leads◌}
use Rattle.verdicts.specs.declared.Verdict.TheVariants.{Place, Spent, Room}
use Rattle.wire.specs.Bytes.{byte_at, word_at, part, Bytes}
use Rattle.wire.specs.Inner.{protocol_of, start_of, body_of, end_of}
use Rattle.wire.specs.Outer.{four, family_of, declared_end, lifetime_at, addresses_at, address_size}
use Rattle.build.specs.Layout.{Asked, family_for}
use Rattle.build.specs.Build.{done, built_of}

-- the call builds a packet of n bytes, and leaves the buffer q
abbrev pub Builds : Asked → (buffer : List ℕ) → (n : ℕ) → List ℕ → Type 0
Builds a buffer n q = built_of a buffer ≡ (done n, q)

-- p has what was asked for, at the places that judge, mender and edits go by; nothing follows the datagram
pub record Reads (a : Asked) (p : List ℕ) : Type 0 where
  pub family : family_of p ≡ family_for a.source
  pub protocol : protocol_of p ≡ 17
  pub source : part p (addresses_at p) (address_size p) ≡ a.source
  pub destination : part p (addresses_at p + address_size p) (address_size p) ≡ a.destination
  pub lifetime : byte_at p (lifetime_at p) ≡ a.lifetime
  pub source_port : word_at p (start_of p) ≡ a.source_port
  pub destination_port : word_at p (start_of p + 2) ≡ a.destination_port
  pub body : part p (body_of p) (end_of p - body_of p) ≡ a.body
  pub whole : (end_of p ≡ length p) × (declared_end p ≡ length p)

-- IPv4: no options, and service byte, identification, flags and fragment offset 0; IPv6: class and flow label 0, and no header between
abbrev pub Plain : List ℕ → Type 0
Plain p =
    ((four p ≡ true) × (start_of p ≡ 20) × (byte_at p 1 ≡ 0) × (word_at p 4 ≡ 0) × (word_at p 6 ≡ 0))
    ⊎ ((four p ≡ false) × (start_of p ≡ 40) × (word_at p 0 ≡ 0x6000) × (word_at p 2 ≡ 0))

-- when each verdict comes, in the request's words and in numbers: an address has the wrong size, the two sizes differ or the body passes
-- 1,400 bytes; the lifetime is 0; the buffer is too small for a packet of 28 bytes over IPv4, or of 48 over IPv6, and the body
abbrev pub build_cases : Asked → (room : ℕ) → List Case
build_cases a room =
    let s = length a.source in
    let d = length a.destination in
    let b = length a.body in
    ((((s ≢ 4) × (s ≢ 16)) ⊎ ((d ≢ 4) × (d ≢ 16)) ⊎ (s ≢ d) ⊎ (1400 < b)) leads Place)
    ∷ ((a.lifetime ≡ 0) leads Spent)
    ∷ ((((s ≡ 4) × (room < 28 + b)) ⊎ ((s ≡ 16) × (room < 48 + b))) leads Room)
    ∷ []

-- what a caller can hand over: strings of bytes, 16-bit ports and an 8-bit lifetime
pub record Handed (a : Asked) : Type 0 where
  pub source : Bytes a.source
  pub destination : Bytes a.destination
  pub source_port : a.source_port ≤ 65535
  pub destination_port : a.destination_port ≤ 65535
  pub lifetime : a.lifetime < 256
  pub body : Bytes a.body
