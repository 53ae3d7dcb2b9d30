-- An IPv6 packet with its headers between taken out.
use Rattle.std.specs.Prelude.{ℕ, ◌-◌, ◌/◌, ◌%◌, List, [], ◌∷◌, ◌++◌, take, drop}
use Rattle.wire.specs.Bytes.{put}
use Rattle.wire.specs.Outer.{declared_end}
use Rattle.wire.specs.Inner.{protocol_of, start_of}

-- what they leave of the payload
unfoldable pub remaining : List ℕ → ℕ
remaining p = declared_end p - start_of p

-- the fixed header, with the payload's length lowered and the next header set to the message's protocol, and what follows them
unfoldable pub stripped : List ℕ → List ℕ
stripped p = put (take 40 p ++ drop (start_of p) p) 4 (remaining p / 256 ∷ remaining p % 256 ∷ protocol_of p ∷ [])
