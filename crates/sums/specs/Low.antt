-- Numbers read low byte first, and what the sum's steps keep. The paper says nothing of these: they are for contracts of
-- private functions, and of those that only sister crates call.
use Rattle.std.specs.Prelude.{ℕ, ◌+◌, ◌*◌, ◌≤◌, true, List, drop, slice_index}
use Rattle.sums.specs.Total.{weigh}

-- the numbers of two, four and eight bytes at i
unfoldable pub two_at : List ℕ → ℕ → ℕ
two_at xs i = slice_index xs i + 256 * slice_index xs (i + 1)

unfoldable pub four_at : List ℕ → ℕ → ℕ
four_at xs i = two_at xs i + 65536 * two_at xs (i + 2)

unfoldable pub eight_at : List ℕ → ℕ → ℕ
eight_at xs i = four_at xs i + 4294967296 * four_at xs (i + 4)

-- what is left from i on
abbrev pub rest_at : List ℕ → ℕ → ℕ
rest_at xs i = weigh true (drop i xs)

-- a carry c that can be added to n
abbrev pub Room : ℕ → ℕ → Type 0
Room n c = (c ≤ 1) × (n + c ≤ 18446744073709551615)
