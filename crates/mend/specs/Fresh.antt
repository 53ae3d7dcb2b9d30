-- The two sum fields: which of them is in use, and its fresh value, worked out with that field read as 0000.
use Rattle.std.specs.Prelude.{ℕ, ◌≡◌, List, Bool, true, not, ◌&&◌, eqb, if◌then◌else◌}
use Rattle.sums.specs.Fold.{fold, field_of}
use Rattle.wire.specs.Bytes.{word_at, put_word}
use Rattle.wire.specs.Outer.{four, header_field}
use Rattle.wire.specs.Inner.{field_at, udp, silent_of, carries}
use Rattle.cover.specs.Sums.{header_total, message_total}

-- a UDP field of 0000 is sent as FFFF
unfoldable pub sent : Bool → ℕ → ℕ
sent udp w = if udp && eqb w 0 then 65535 else w

unfoldable pub fresh_header : List ℕ → ℕ
fresh_header p = field_of (fold (header_total (put_word p header_field 0)))

unfoldable pub fresh_message : List ℕ → ℕ
fresh_message p = sent (udp p) (field_of (fold (message_total (put_word p (field_at p) 0))))

-- ---- what the theorems speak of
pub data Sum : Type 0 where
  header : Sum
  message : Sum

-- where its field stands
abbrev pub placed : Sum → List ℕ → ℕ
placed header p = header_field
placed message p = field_at p

-- it is in use: the header's in IPv4; the message's where the packet carries a message, unless that is UDP's 0000 over IPv4. A packet
-- that carries none (a fragment, a protocol that isn't covered, a message whose shape is refused) has the header's alone
abbrev pub used : Sum → List ℕ → Bool
used header p = four p
used message p = carries p && not (silent_of p && four p)

-- the word that stands in it, and the one that fresh computation would set
abbrev pub standing : Sum → List ℕ → ℕ
standing s p = word_at p (placed s p)

abbrev pub fresh_of : Sum → List ℕ → ℕ
fresh_of header p = fresh_header p
fresh_of message p = fresh_message p

-- where it is in use, it stands as fresh computation would set it
abbrev pub Fresh : Sum → List ℕ → Type 0
Fresh s p = used s p ≡ true → standing s p ≡ fresh_of s p
