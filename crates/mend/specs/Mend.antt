-- What the mender answers, and the bytes that it leaves.
use Rattle.std.specs.Prelude.{ℕ, ◌+◌, ◌<◌, ◌≡◌, ◌⊎◌, List, true, false, ◌&&◌, if◌then◌else◌}
use Rattle.verdicts.specs.Rules.{first}
use Rattle.verdicts.specs.declared.Verdict.{Verdict}
use Rattle.verdicts.specs.declared.Verdict.TheVariants.{Good}
use Rattle.wire.specs.Bytes.{word_at, put_word}
use Rattle.wire.specs.Outer.{four, header_field}
use Rattle.wire.specs.Inner.{field_at, udp, silent_of, whole_rules}
use Rattle.mend.specs.Fresh.{fresh_header, fresh_message, Sum, placed, used}

-- IPv6 has no header field
unfoldable pub mended_header : List ℕ → List ℕ
mended_header p = if four p then put_word p header_field (fresh_header p) else p

-- UDP over IPv4 keeps 0000
unfoldable pub mended_message : List ℕ → List ℕ
mended_message p = if silent_of p && four p then p else put_word p (field_at p) (fresh_message p)

-- refused with 2, 3, 4, 6, 7 in the judge's order; otherwise both fields are set
unfoldable pub mend_of : List ℕ → Verdict × List ℕ
mend_of p = first (whole_rules p) (λ v. (v, p)) (Good, mended_message (mended_header p))

-- ---- what the theorems speak of
-- i is no byte of a sum field in use
abbrev pub Outside : List ℕ → ℕ → Type 0
Outside p i = (s : Sum) → used s p ≡ true → (i < placed s p) ⊎ (placed s p + 1 < i)

-- i is a byte of a field other than UDP's that stands at FFFF where the fresh one is 0000
abbrev pub Full : List ℕ → ℕ → Type 0
Full p i =
    ((four p ≡ true) × ((i ≡ header_field) ⊎ (i ≡ header_field + 1)) × (word_at p header_field ≡ 65535) × (fresh_header p ≡ 0))
    ⊎ ((udp p ≡ false) × ((i ≡ field_at p) ⊎ (i ≡ field_at p + 1)) × (word_at p (field_at p) ≡ 65535) × (fresh_message p ≡ 0))
