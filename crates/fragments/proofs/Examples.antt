-- Three bytes of ICMP echo behind its header, in two fragments, and what the theorems' premises are for: computed from the definitions.
use Rattle.std.proofs.Common.{◌≡◌, refl, sym, ◌∙◌, ℕ, List, [], ◌∷◌, ◌++◌, length}
use mathlib.Core.List.Memᴰ
use Rattle.verdicts.specs.declared.Verdict.TheVariants.{Good, Cut, Version, Shape, HeaderSum, MessageSum}
use Rattle.verdicts.specs.declared.Verdict.TheVariants as verdict
use Rattle.sums.specs.Total.{weigh}
use Rattle.sums.specs.Fold.{passes}
use Rattle.wire.specs.Outer.{header_end, declared_end, next_of, fragment_of, outer_rules}
use Rattle.wire.specs.Walk.{walk_of, walk_rules}
use Rattle.wire.specs.Table.{row_of}
use Rattle.wire.specs.Messages.{said_in, shape_rules}
use Rattle.wire.specs.Inner.{start_of, carried_of}
use Rattle.cover.specs.Sums.{header_total, header_sums}
use Rattle.judge.specs.Judge.{judge_rules, judge_of}
use Rattle.fragments.specs.Fragments.{some_outside, list_rules, packet_rules, packets_rules, piece_of, insert, sorted_with, together, equal, alike, shared_with, some_empty, some_past, fills, message_rules, pieces_rules, filling_rules, fragments_rules, fragments_of}
use Rattle.fragments.specs.Wholes.{Filling, Unfragmented, Carries}
use Rattle.fragments.specs.declared.Fragment.{Fragment}
use Rattle.fragments.proofs.Wholes.{fragments-whole}

-- a header with its total length, its flags and offset, and its sum's two bytes
abbrev header : (size flags offset high low : ℕ) → List ℕ
header size flags offset high low =
    0x45 ∷ 0 ∷ 0 ∷ size ∷ 0x12 ∷ 0x34 ∷ flags ∷ offset ∷ 64 ∷ 1 ∷ high ∷ low ∷ 192 ∷ 0 ∷ 2 ∷ 1 ∷ 192 ∷ 0 ∷ 2 ∷ 2 ∷ []

abbrev echo : List ℕ
echo = 0x08 ∷ 0x00 ∷ 0x33 ∷ 0x95 ∷ 0x00 ∷ 0x07 ∷ 0x00 ∷ 0x01 ∷ []

abbrev body : List ℕ
body = 0x61 ∷ 0x62 ∷ 0x63 ∷ []

-- the whole packet, and a buffer with both fragments and one more, whose last byte differs
abbrev whole : List ℕ
whole = header 31 0 0 0xe4 0xa6 ++ (echo ++ body)

abbrev buffer : List ℕ
buffer = header 28 0x20 0 0xc4 0xa9 ++ (echo ++ (header 23 0 1 0xe4 0xad ++ (body ++ (header 23 0 1 0xe4 0xad ++ (0x61 ∷ 0x62 ∷ 0x62 ∷ [])))))

abbrev one : Fragment
one = record { offset = 0; length = 28 }

abbrev two : Fragment
two = record { offset = 28; length = 23 }

abbrev other : Fragment
other = record { offset = 51; length = 23 }

-- in either order; one left out, or the other; one doubled; one damaged
answers :
    (fragments_of buffer (one ∷ two ∷ []) ≡ Good)
    × (fragments_of buffer (two ∷ one ∷ []) ≡ Good)
    × (fragments_of buffer (one ∷ []) ≡ verdict.Fragment)
    × (fragments_of buffer (two ∷ []) ≡ verdict.Fragment)
    × (fragments_of buffer (one ∷ two ∷ two ∷ []) ≡ verdict.Fragment)
    × (fragments_of buffer (one ∷ other ∷ []) ≡ MessageSum)
unfolding some_outside list_rules packet_rules packets_rules piece_of insert sorted_with together equal alike shared_with some_empty some_past fills message_rules filling_rules pieces_rules fragments_rules fragments_of header_end declared_end outer_rules row_of said_in shape_rules header_total header_sums weigh passes
answers = (refl, refl, refl, refl, refl, refl)

-- what the theorem on whole packets asks of a list and a packet holds of these, so the judge calls the packet good
both : List Fragment
both = two ∷ one ∷ []

filling : Filling buffer both
unfolding both some_outside list_rules packet_rules packets_rules piece_of insert sorted_with together equal alike shared_with some_empty some_past fills filling_rules header_end declared_end outer_rules header_total header_sums weigh passes
filling =
    record {
      list = (refl, (refl, (refl, tt)));
      packets = (refl, (refl, (refl, (refl, (refl, (refl, (refl, (refl, (refl, (refl, (refl, (refl, (refl, (refl, (refl, (refl, tt))))))))))))))));
      pieces = (refl, (refl, (refl, (refl, tt))));
    }

unfragmented : Unfragmented whole
unfolding header_end declared_end fragment_of outer_rules header_total header_sums weigh passes
unfragmented = record { outer = (refl, (refl, (refl, (refl, (refl, (refl, tt)))))); four = refl; header = refl; unsplit = refl }

carries : Carries buffer both whole
unfolding both piece_of insert sorted_with together header_end declared_end next_of fragment_of walk_of start_of carried_of
carries = record { one = two; among = Memᴰ.head refl; protocol = refl; addresses = refl; message = refl }

judged : judge_of whole ≡ Good
unfolding both
judged = sym (fragments-whole buffer both whole filling unfragmented carries) ∙ answers.1

-- ---- what the theorems ask is needed
-- alone: version 6; an empty fragment; one that ends past message byte 65,515
alone : List ℕ → Fragment
alone p = record { offset = 0; length = length p }

abbrev empty : List ℕ
empty = header 20 0x20 0 0xc4 0xb1

abbrev past : List ℕ
past = header 21 0x1f 0xff 0xc4 0xb1 ++ (0x61 ∷ [])

apart :
    (fragments_of (0x60 ∷ []) (alone (0x60 ∷ []) ∷ []) ≡ Version) × (judge_of (0x60 ∷ []) ≡ Cut)
    × (fragments_of empty (alone empty ∷ []) ≡ Shape) × (judge_of empty ≡ verdict.Fragment)
    × (fragments_of past (alone past ∷ []) ≡ Shape) × (judge_of past ≡ verdict.Fragment)
unfolding alone some_outside list_rules packet_rules packets_rules piece_of insert sorted_with together equal alike shared_with some_empty some_past fills message_rules filling_rules pieces_rules fragments_rules fragments_of header_end declared_end outer_rules row_of said_in shape_rules header_total header_sums weigh passes fragment_of walk_of walk_rules judge_rules judge_of
apart = (refl, refl, refl, refl, refl, refl)

-- in two orders: a header whose sum is wrong, and a version that is
abbrev mixed : List ℕ
mixed = header 28 0x20 0 0 0 ++ (echo ++ (0x60 ∷ []))

ordered :
    (fragments_of mixed (record { offset = 0; length = 28 } ∷ record { offset = 28; length = 1 } ∷ []) ≡ HeaderSum)
    × (fragments_of mixed (record { offset = 28; length = 1 } ∷ record { offset = 0; length = 28 } ∷ []) ≡ Version)
unfolding some_outside list_rules packet_rules packets_rules fragments_rules fragments_of header_end declared_end outer_rules header_total header_sums weigh passes
ordered = (refl, refl)
