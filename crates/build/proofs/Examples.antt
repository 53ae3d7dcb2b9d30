-- Packets built, computed from the definitions. The datagram is the paper's eleventh example, with either of its two bodies.
use Rattle.std.proofs.Common.{◌≡◌, refl, ℕ, List, [], ◌∷◌, ◌++◌}
use Rattle.verdicts.specs.declared.Verdict.TheVariants.{Place, Spent, Room}
use Rattle.sums.specs.Total.{weigh}
use Rattle.sums.specs.Fold.{fold}
use Rattle.wire.specs.Bytes.{put}
use Rattle.wire.specs.Walk.{between, met_of, walk_by, walk_of}
use Rattle.wire.specs.Table.{row_of}
use Rattle.wire.specs.Messages.{said_in}
use Rattle.wire.specs.Inner.{protocol_of, start_of, carried_of, end_of, field_at}
use Rattle.wire.specs.Outer.{family_of, header_end, declared_end, next_of, fragment_of}
use Rattle.cover.specs.Sums.{header_total, message_total}
use Rattle.mend.specs.Fresh.{sent, fresh_header, fresh_message}
use Rattle.build.specs.Layout.{Asked, asked, laid, packet_of}
use Rattle.build.specs.Build.{unfit, build_rules, refusal, built_of}
use Rattle.build.specs.Reads.{Builds}

-- from port 5000 to 5001, over IPv4
abbrev four : (lifetime : ℕ) → List ℕ → Asked
four lifetime body = asked (0xC0 ∷ 0xA8 ∷ 0x00 ∷ 0x01 ∷ []) (0xC0 ∷ 0xA8 ∷ 0x00 ∷ 0xC7 ∷ []) 0x1388 0x1389 lifetime body

-- a buffer of 32 bytes, of which the packet takes 30
abbrev room : List ℕ
room =
    9 ∷ 9 ∷ 9 ∷ 9 ∷ 9 ∷ 9 ∷ 9 ∷ 9 ∷ 9 ∷ 9 ∷ 9 ∷ 9 ∷ 9 ∷ 9 ∷ 9 ∷ 9 ∷ 9 ∷ 9 ∷ 9 ∷ 9 ∷ 9 ∷ 9 ∷ 9 ∷ 9 ∷ 9 ∷ 9 ∷ 9 ∷ 9 ∷ 9 ∷ 9 ∷ 0x5A ∷ 0xA5 ∷ []

built-four : Builds (four 64 (0x48 ∷ 0x69 ∷ [])) room 30 (
    0x45 ∷ 0x00 ∷ 0x00 ∷ 0x1E ∷ 0x00 ∷ 0x00 ∷ 0x00 ∷ 0x00 ∷ 0x40 ∷ 0x11 ∷ 0xF8 ∷ 0xB6 ∷ 0xC0 ∷ 0xA8 ∷ 0x00 ∷ 0x01 ∷ 0xC0 ∷ 0xA8 ∷ 0x00 ∷ 0xC7
    ∷ 0x13 ∷ 0x88 ∷ 0x13 ∷ 0x89 ∷ 0x00 ∷ 0x0A ∷ 0x0E ∷ 0x47 ∷ 0x48 ∷ 0x69 ∷ 0x5A ∷ 0xA5 ∷ [])
unfolding weigh fold put family_of header_end declared_end protocol_of next_of fragment_of walk_of row_of said_in start_of carried_of end_of field_at header_total message_total sent fresh_header fresh_message laid packet_of unfit build_rules built_of
built-four = refl

-- a body that makes the computed field 0000: FFFF is sent, over IPv4 and from ::1 to ::1 over IPv6
sent-four : packet_of (four 64 (0x56 ∷ 0xB0 ∷ [])) ≡
    0x45 ∷ 0x00 ∷ 0x00 ∷ 0x1E ∷ 0x00 ∷ 0x00 ∷ 0x00 ∷ 0x00 ∷ 0x40 ∷ 0x11 ∷ 0xF8 ∷ 0xB6 ∷ 0xC0 ∷ 0xA8 ∷ 0x00 ∷ 0x01 ∷ 0xC0 ∷ 0xA8 ∷ 0x00 ∷ 0xC7
    ∷ 0x13 ∷ 0x88 ∷ 0x13 ∷ 0x89 ∷ 0x00 ∷ 0x0A ∷ 0xFF ∷ 0xFF ∷ 0x56 ∷ 0xB0 ∷ []
unfolding weigh fold put family_of header_end declared_end protocol_of next_of fragment_of walk_of row_of said_in start_of carried_of end_of field_at header_total message_total sent fresh_header fresh_message laid packet_of
sent-four = refl

abbrev one : List ℕ
one = 0 ∷ 0 ∷ 0 ∷ 0 ∷ 0 ∷ 0 ∷ 0 ∷ 0 ∷ 0 ∷ 0 ∷ 0 ∷ 0 ∷ 0 ∷ 0 ∷ 0 ∷ 1 ∷ []

abbrev six : (lifetime : ℕ) → List ℕ → Asked
six lifetime body = asked one one 0x1388 0x1389 lifetime body

sent-six : packet_of (six 1 (0xD8 ∷ 0xC7 ∷ [])) ≡
    0x60 ∷ 0x00 ∷ 0x00 ∷ 0x00 ∷ 0x00 ∷ 0x0A ∷ 0x11 ∷ 0x01 ∷ (one ++ (one ++ (0x13 ∷ 0x88 ∷ 0x13 ∷ 0x89 ∷ 0x00 ∷ 0x0A ∷ 0xFF ∷ 0xFF ∷ 0xD8 ∷ 0xC7 ∷ [])))
unfolding weigh fold put family_of header_end declared_end protocol_of next_of walk_of walk_by met_of between row_of said_in start_of carried_of end_of field_at message_total sent fresh_message laid packet_of
sent-six = refl

-- ---- each refusal, with every fault behind it
refused-place : built_of (asked one (0x0A ∷ 0x00 ∷ 0x00 ∷ 0x01 ∷ []) 0 0 0 []) [] ≡ (refusal Place, [])
unfolding unfit build_rules built_of
refused-place = refl

refused-spent : built_of (six 0 []) [] ≡ (refusal Spent, [])
unfolding unfit build_rules built_of
refused-spent = refl

refused-room : built_of (four 1 (0x48 ∷ 0x69 ∷ 0x21 ∷ 0x21 ∷ 0x21 ∷ [])) room ≡ (refusal Room, room)
unfolding unfit build_rules built_of
refused-room = refl
