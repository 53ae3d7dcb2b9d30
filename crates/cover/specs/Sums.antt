-- The sums in use: the IPv4 header's, and that of the message behind its pseudo-header.
use Rattle.std.specs.Prelude.{ℕ, List, Bool, true, if◌then◌else◌}
use Rattle.sums.specs.Total.{total}
use Rattle.sums.specs.Fold.{passes}
use Rattle.wire.specs.Outer.{four}
use Rattle.wire.specs.Inner.{header_bytes, covered_of}

unfoldable pub header_total : List ℕ → ℕ
header_total p = total (header_bytes p)

unfoldable pub message_total : List ℕ → ℕ
message_total p = total (covered_of p)

-- IPv6 has no header sum
unfoldable pub header_sums : List ℕ → Bool
header_sums p = if four p then passes (header_total p) else true

unfoldable pub message_sums : List ℕ → Bool
message_sums p = passes (message_total p)
