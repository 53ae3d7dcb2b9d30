-- Numbers and words as the bytes that are printed.
use Rattle.std.specs.Prelude.{ℕ, zero, suc, ◌+◌, ◌/◌, List, [], ◌∷◌, length, ltb, if◌then◌else◌}
use Prim.Native.Char.{code}
use Prim.Native.String.{String, [] as nil, ◌∷◌ as cons}
use Rattle.io.specs.Digits.{last_digits}
use Rattle.wire.specs.Bytes.{put}

-- no line has more bytes
abbrev pub line_size : ℕ
line_size = 128

-- the bytes of a text in ASCII
abbrev pub ascii : String → List ℕ
ascii nil = []
ascii (cons c s) = code c ∷ ascii s

-- how many decimal digits a number takes, at most so many and one
unfoldable pub places_by : ℕ → ℕ → ℕ
places_by zero n = 1
places_by (suc most) n = if ltb n 10 then 1 else suc (places_by most (n / 10))

-- there are no more digits than the number itself and one
abbrev pub places : ℕ → ℕ
places n = places_by n n

-- a number in decimal, with no zero in front
unfoldable pub decimal_of : ℕ → List ℕ
decimal_of n = last_digits 10 (places n) n

-- a buffer that is written from the front: where its next byte stands, and its bytes
abbrev pub Page : Type 0
Page = ℕ × List ℕ

-- some bytes more
infixl 20 ◌then◌
unfoldable pub ◌then◌ : Page → List ℕ → Page
p then text = (p.0 + length text, put p.1 p.0 text)
