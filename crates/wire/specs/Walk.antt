-- The way from the IP header to the message: in IPv4 there is none, in IPv6 it leads over the headers between (RFC 8200, 4).
use Rattle.std.specs.Prelude.{ℕ, zero, suc, ◌+◌, ◌*◌, List, [], ◌∷◌, Bool, false, not, ◌&&◌, ◌||◌, ltb, eqb, if◌then◌else◌, Result, Ok, Err}
use Rattle.verdicts.specs.Numbers.{number_of}
use Rattle.verdicts.specs.Rules.{Rule, ◌⇒◌, first}
use Rattle.verdicts.specs.declared.Verdict.{Verdict}
use Rattle.verdicts.specs.declared.Verdict.TheVariants.{Shape, Fragment, Uncovered}
use Rattle.wire.specs.Bytes.{byte_at}
use Rattle.wire.specs.Outer.{four, header_end, declared_end, next_of, fragment_of}
use Rattle.wire.specs.declared.way.Met.{Met}
use Rattle.wire.specs.declared.way.Met.TheVariants as met

-- ---- one header
-- hop-by-hop (0), routing (43), fragment (44), destination options (60); anything else is the message's protocol
unfoldable pub between : ℕ → Bool
between n = eqb n 0 || (eqb n 43 || (eqb n 44 || eqb n 60))

-- byte 1 is the length in 8-byte units beyond the first 8 bytes
abbrev pub size_at : List ℕ → ℕ → ℕ
size_at p at = 8 + 8 * byte_at p (at + 1)

-- hop-by-hop, and not directly after the fixed header
unfoldable pub late : ℕ → ℕ → Bool
late n at = eqb n 0 && not (eqb at 40)

-- a routing header with segments left (byte 3) not 0
unfoldable pub unfinished_at : List ℕ → ℕ → ℕ → Bool
unfinished_at p n at = eqb n 43 && not (eqb (byte_at p (at + 3)) 0)

-- fragment; late; ninth, none being left; fewer than 8 bytes up to the payload's end; past that end; segments left
unfoldable pub header_rules : List ℕ → (end left n at : ℕ) → List Rule
header_rules p end left n at =
    (eqb n 44 ⇒ Fragment)
    ∷ (late n at ⇒ Uncovered)
    ∷ (eqb left 0 ⇒ Uncovered)
    ∷ (ltb end (at + 8) ⇒ Shape)
    ∷ (ltb end (at + size_at p at) ⇒ Shape)
    ∷ (unfinished_at p n at ⇒ Uncovered)
    ∷ []

-- what stands where n is the next header: the message, or a header, which is refused or passed
unfoldable pub met_of : List ℕ → (end left n at : ℕ) → Result Met Verdict
met_of p end left n at = if between n then first (header_rules p end left n at) Err (Ok met.Header) else Ok met.Message

-- ---- the walk
-- it ends in a refusal, or at the message, of protocol n at a place
pub data Way : Type 0 where
  refused : Verdict → Way
  reached : (n at : ℕ) → Way

-- and goes on behind a header that is passed
abbrev pub going : Result Met Verdict → (n at : ℕ) → Way → Way
going (Err v) n at on = refused v
going (Ok met.Message) n at on = reached n at
going (Ok met.Header) n at on = on

-- byte 0 of a header is the next one; so many are left, and where none is, none is passed
unfoldable pub walk_by : (left : ℕ) → List ℕ → (end n at : ℕ) → Way
walk_by zero p end n at = going (met_of p end zero n at) n at (refused Uncovered)
walk_by (suc left) p end n at = going (met_of p end (suc left) n at) n at (walk_by left p end (byte_at p at) (at + size_at p at))

-- at most eight, in the order in which they stand; of IPv4 no header is walked, and a fragment is refused
unfoldable pub walk_of : List ℕ → Way
walk_of p =
    if four p then (if fragment_of p then refused Fragment else reached (next_of p) (header_end p))
    else walk_by 8 p (declared_end p) (next_of p) (header_end p)

-- ---- what it leads to
abbrev pub ends : Way → Verdict → Bool
ends (refused v) w = eqb (number_of v) (number_of w)
ends (reached n at) w = false

-- the refusal that it ends in: one of these, or none
abbrev pub refusals : Way → List Rule
refusals w =
    (ends w Fragment ⇒ Fragment)
    ∷ (ends w Uncovered ⇒ Uncovered)
    ∷ (ends w Shape ⇒ Shape)
    ∷ []

unfoldable pub walk_rules : List ℕ → List Rule
walk_rules p = refusals (walk_of p)

-- and the message's protocol and place, where it ends in none
abbrev pub protocol_in : Way → ℕ
protocol_in (refused v) = 0
protocol_in (reached n at) = n

abbrev pub start_in : ℕ → Way → ℕ
start_in header (refused v) = header
start_in header (reached n at) = at

-- how far it reads: up to the message, and where it is refused no further than up to the payload's end
abbrev pub walked_in : ℕ → Way → ℕ
walked_in end (refused v) = end
walked_in end (reached n at) = at

unfoldable pub walked_of : List ℕ → ℕ
walked_of p = walked_in (declared_end p) (walk_of p)
