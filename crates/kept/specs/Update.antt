-- The two fields after new bytes took the place of old ones. A sum is never worked out anew.
use Rattle.std.specs.Prelude.{ℕ, List, length, if◌then◌else◌}
use Rattle.sums.specs.Total.{odd, weigh}
use Rattle.sums.specs.Fold.{fold}
use Rattle.sums.specs.Update.{updated}
use Rattle.wire.specs.Bytes.{word_at, part, put_word}
use Rattle.wire.specs.Outer.{four, header_field}
use Rattle.wire.specs.Inner.{field_at, udp, silent_of}
use Rattle.mend.specs.Fresh.{sent}

-- the field at f after the bytes from a gave way to new; pos is their position in the covered block
unfoldable pub updated_at : List ℕ → ℕ → ℕ → ℕ → List ℕ → ℕ
updated_at p f pos a new = updated (word_at p f) (fold (weigh (odd pos) (part p a (length new)))) (fold (weigh (odd pos) new))

-- q with the header field of p updated: IPv6 has none
unfoldable pub header_after : List ℕ → ℕ → List ℕ → List ℕ → List ℕ
header_after p a new q = if four p then put_word q header_field (updated_at p header_field a a new) else q

-- q with the message field of p updated: UDP's 0000 stays, and another that comes out 0000 becomes FFFF
unfoldable pub message_after : List ℕ → ℕ → ℕ → List ℕ → List ℕ → List ℕ
message_after p pos a new q = if silent_of p then q else put_word q (field_at p) (sent (udp p) (updated_at p (field_at p) pos a new))
