-- How long a covered block is at most, and that joining the sums of its parts is never refused.
use Rattle.std.proofs.Common.{◌≡◌, ℕ, ◌+◌, ◌≤◌, List, ◌++◌, length, ap, arith, length-append, Ok}
use Rattle.verdicts.proofs.Tests.{by_cases}
use Rattle.sums.specs.Partials.{partial_of, join_of}
use Rattle.sums.proofs.Joins.{join-string}
use Rattle.wire.specs.Bytes.{Bytes}
use Rattle.wire.specs.Outer.{four, family_of, header_end, declared_end, addresses_at, addresses_length}
use Rattle.wire.specs.Messages.{plan_in, rest_in, before_in}
use Rattle.wire.specs.Inner.{protocol_of, length_of, start_of, message_bytes, addresses_of, before_of, header_bytes, covered_of}
use Rattle.wire.specs.declared.Family.{Family}
use Rattle.wire.specs.declared.Family.TheVariants.{Four, Six}
use Rattle.wire.proofs.Parts.{part_length}
use Rattle.wire.proofs.Writes.{word_small}
use Rattle.wire.proofs.Facts.{OuterFacts, Facts}
use Rattle.wire.proofs.Same.{same_self, covered-at}

pub declared-small : (p : List ℕ) → Bytes p → declared_end p ≤ 65575
unfolding declared_end
declared-small p b =
    by_cases (four p)
    (λ f. simp f (omega (arith, word_small p 2 b)))
    (λ f. simp f (omega (arith, word_small p 4 b)))

rest-short : (family : Family) (n size : ℕ) → length (rest_in family n size) ≤ 8
rest-short Four n size = omega arith
rest-short Six n size = omega arith

before-short : (family : Family) (n : ℕ) (addresses : List ℕ) (size : ℕ) → length (before_in family n addresses size) ≤ length addresses + 8
before-short family n addresses size =
    by_cases (plan_in family n).pseudo
    (λ t. simp t (omega (arith, length-append addresses (rest_in family n size), rest-short family n size)))
    (λ t. simp t (omega arith))

-- so no join can pass the range whose strings together are no longer than what a field covers: its parts, with the field
-- or without, as judge and mender add them up
module _ (p : List ℕ) (bytes : Bytes p) where
  pub header-joins : OuterFacts p → (a b : List ℕ) → length (a ++ b) ≤ length (header_bytes p)
      → join_of (partial_of a) (partial_of b) ≡ Ok (partial_of (a ++ b))
  header-joins k a b h = join-string a b (omega (arith, declared-small p bytes, part_length p 0 (header_end p) (omega arith)))

  pub message-joins : Facts p → (a b : List ℕ) → length (a ++ b) ≤ length (covered_of p)
      → join_of (partial_of a) (partial_of b) ≡ Ok (partial_of (a ++ b))
  message-joins k a b h =
      join-string a b
      (omega (
        arith,
        ap length (covered-at (same_self p) k),
        length-append (before_of p) (message_bytes p),
        before-short (family_of p) (protocol_of p) (addresses_of p) (length_of p),
        part_length p (addresses_at p) (addresses_length p) (omega arith),
        part_length p (start_of p) (length_of p) (omega arith),
        declared-small p bytes,
      ))
