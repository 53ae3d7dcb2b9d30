-- The totals of a packet, as those of parts of it.
use Rattle.std.specs.Prelude.{if◌then◌else◌}
use mathlib.Core.Path.{◌≡◌, ap, ◌∙◌}
use Prim.Native.Nat.{ℕ, ◌+◌, ◌<◌}
use native.Mathlib.Omega.{arith}
use mathlib.Core.List.{List}
use mathlib.Core.Bool.{true, false}
use Rattle.verdicts.proofs.Tests.{by_cases}
use Rattle.sums.specs.Total.{weigh, total}
use Rattle.sums.proofs.Totals.{weigh-even}
use Rattle.wire.specs.Bytes.{part}
use Rattle.wire.specs.Outer.{family_of, header_end, addresses_at, addresses_length}
use Rattle.wire.specs.Messages.{rest_in, before_in}
use Rattle.wire.specs.Inner.{protocol_of, start_of, length_of, pseudo}
use Rattle.wire.proofs.Facts.{Facts}
use Rattle.wire.proofs.Same.{Same, header-end-same, covered-at}
use Rattle.cover.specs.Sums.{header_total, message_total}
use Rattle.cover.proofs.Before.{rest-total, addresses-even, before-even}

-- the addresses of q in the covered block of p's layout, and what else of the pseudo-header is
unfoldable pub address_total : List ℕ → List ℕ → ℕ
address_total p q = if pseudo p then total (part q (addresses_at p) (addresses_length p)) else 0

unfoldable pub rest_total : List ℕ → ℕ
rest_total p = if pseudo p then length_of p + protocol_of p else 0

-- a pseudo-header has something in it
pub rest_some : {p : List ℕ} → Facts p → pseudo p ≡ true → 0 < rest_total p
unfolding rest_total
rest_some {p} k t = simp t (omega arith)

pub header-part : {p q : List ℕ} → Same p q → header_total q ≡ total (part q 0 (header_end p))
unfolding header_total
header-part {p} {q} s = ap (λ n. total (part q 0 n)) (header-end-same s.header)

module _ {p q : List ℕ} (k : Facts p) (s : Same p q) where
  before-parts : total (before_in (family_of p) (protocol_of p) (part q (addresses_at p) (addresses_length p)) (length_of p)) ≡ address_total p q + rest_total p
  unfolding address_total rest_total pseudo weigh
  before-parts =
      let rest = rest_in (family_of p) (protocol_of p) (length_of p) in
      by_cases (pseudo p)
      (λ t. simp t
      (weigh-even false (part q (addresses_at p) (addresses_length p)) rest (addresses-even p q k.outer s.long)
      ∙ omega (arith, rest-total (family_of p) (protocol_of p) (length_of p))))
      (λ t. simp t)

  pub message-parts : message_total q ≡ address_total p q + rest_total p + total (part q (start_of p) (length_of p))
  unfolding message_total
  message-parts =
      let a = part q (addresses_at p) (addresses_length p) in
      let m = part q (start_of p) (length_of p) in
      ap total (covered-at s k)
      ∙ weigh-even false (before_in (family_of p) (protocol_of p) a (length_of p)) m
      (before-even (family_of p) (protocol_of p) a (length_of p) (addresses-even p q k.outer s.long))
      ∙ ap (λ n. n + total m) before-parts
