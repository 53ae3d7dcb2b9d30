-- Packets mended: each statement is computed. The datagram is the paper's eleventh example, the echo its twelfth.
use Prim.Native.Nat.{ℕ}
use mathlib.Core.Path.{◌≡◌, refl}
use mathlib.Core.List.{List, [], ◌∷◌}
use Rattle.verdicts.specs.declared.Verdict.TheVariants.{Good}
use Rattle.sums.specs.Total.{weigh}
use Rattle.sums.specs.Fold.{fold}
use Rattle.wire.specs.Bytes.{put}
use Rattle.wire.specs.Outer.{family_of, header_end, declared_end, next_of, fragment_of, outer_rules}
use Rattle.wire.specs.Walk.{between, late, unfinished_at, header_rules, met_of, walk_by, walk_of, walk_rules}
use Rattle.wire.specs.Table.{row_of}
use Rattle.wire.specs.Messages.{said_in, shape_rules}
use Rattle.wire.specs.Inner.{protocol_of, start_of, carried_of, end_of, field_at, body_of, pseudo, silent_of, message_rules, whole_rules}
use Rattle.cover.specs.Sums.{header_total, message_total}
use Rattle.mend.specs.Fresh.{sent, fresh_header, fresh_message}
use Rattle.mend.specs.Mend.{mended_header, mended_message, mend_of}

-- UDP over IPv4, with its header field and message field
abbrev datagram : ℕ → ℕ → ℕ → ℕ → List ℕ
datagram high low fh fl =
    0x45 ∷ 0x00 ∷ 0x00 ∷ 0x1E ∷ 0x00 ∷ 0x00 ∷ 0x40 ∷ 0x00 ∷ 0x40 ∷ 0x11 ∷ high ∷ low ∷ 0xC0 ∷ 0xA8 ∷ 0x00 ∷ 0x01 ∷ 0xC0 ∷ 0xA8 ∷ 0x00 ∷ 0xC7
    ∷ 0x13 ∷ 0x88 ∷ 0x13 ∷ 0x89 ∷ 0x00 ∷ 0x0A ∷ fh ∷ fl ∷ 0x48 ∷ 0x69 ∷ []

mended-udp : mend_of (datagram 0x12 0x34 0x00 0x01) ≡ (Good, datagram 0xB8 0xB6 0x0E 0x47)
unfolding weigh fold put family_of header_end declared_end protocol_of next_of fragment_of walk_of walk_rules outer_rules row_of said_in start_of carried_of end_of field_at body_of pseudo silent_of message_rules shape_rules whole_rules header_total message_total sent fresh_header fresh_message mended_header mended_message mend_of
mended-udp = refl

-- the same datagram with three bytes behind it in the packet: its field is the same, and they stay
abbrev trailed : ℕ → ℕ → ℕ → ℕ → List ℕ
trailed high low fh fl =
    0x45 ∷ 0x00 ∷ 0x00 ∷ 0x21 ∷ 0x00 ∷ 0x00 ∷ 0x40 ∷ 0x00 ∷ 0x40 ∷ 0x11 ∷ high ∷ low ∷ 0xC0 ∷ 0xA8 ∷ 0x00 ∷ 0x01 ∷ 0xC0 ∷ 0xA8 ∷ 0x00 ∷ 0xC7
    ∷ 0x13 ∷ 0x88 ∷ 0x13 ∷ 0x89 ∷ 0x00 ∷ 0x0A ∷ fh ∷ fl ∷ 0x48 ∷ 0x69 ∷ 0xAB ∷ 0xCD ∷ 0xEF ∷ []

mended-trailing : mend_of (trailed 0x12 0x34 0x00 0x01) ≡ (Good, trailed 0xB8 0xB3 0x0E 0x47)
unfolding weigh fold put family_of header_end declared_end protocol_of next_of fragment_of walk_of walk_rules outer_rules row_of said_in start_of carried_of end_of field_at body_of pseudo silent_of message_rules shape_rules whole_rules header_total message_total sent fresh_header fresh_message mended_header mended_message mend_of
mended-trailing = refl

-- TCP over IPv4: the window, 2000, stands before the field and stays
abbrev segment : ℕ → ℕ → ℕ → ℕ → List ℕ
segment high low fh fl =
    0x45 ∷ 0x00 ∷ 0x00 ∷ 0x2C ∷ 0x00 ∷ 0x00 ∷ 0x40 ∷ 0x00 ∷ 0x40 ∷ 0x06 ∷ high ∷ low ∷ 0xC0 ∷ 0xA8 ∷ 0x00 ∷ 0x01 ∷ 0xC0 ∷ 0xA8 ∷ 0x00 ∷ 0xC7
    ∷ 0x13 ∷ 0x88 ∷ 0x00 ∷ 0x50 ∷ 0x00 ∷ 0x00 ∷ 0x00 ∷ 0x01 ∷ 0x00 ∷ 0x00 ∷ 0x00 ∷ 0x00 ∷ 0x50 ∷ 0x02 ∷ 0x20 ∷ 0x00 ∷ fh ∷ fl ∷ 0x00 ∷ 0x00
    ∷ 0x48 ∷ 0x69 ∷ 0x21 ∷ 0x0A ∷ []

mended-tcp : mend_of (segment 0x12 0x34 0x00 0x01) ≡ (Good, segment 0xB8 0xB3 0x90 0x79)
unfolding weigh fold put family_of header_end declared_end protocol_of next_of fragment_of walk_of walk_rules outer_rules row_of said_in start_of carried_of end_of field_at body_of pseudo silent_of message_rules shape_rules whole_rules header_total message_total sent fresh_header fresh_message mended_header mended_message mend_of
mended-tcp = refl

-- ICMPv6 from ::1 to ::1
abbrev echo : ℕ → ℕ → List ℕ
echo fh fl =
    0x60 ∷ 0x00 ∷ 0x00 ∷ 0x00 ∷ 0x00 ∷ 0x08 ∷ 0x3A ∷ 0x40
    ∷ 0x00 ∷ 0x00 ∷ 0x00 ∷ 0x00 ∷ 0x00 ∷ 0x00 ∷ 0x00 ∷ 0x00 ∷ 0x00 ∷ 0x00 ∷ 0x00 ∷ 0x00 ∷ 0x00 ∷ 0x00 ∷ 0x00 ∷ 0x01
    ∷ 0x00 ∷ 0x00 ∷ 0x00 ∷ 0x00 ∷ 0x00 ∷ 0x00 ∷ 0x00 ∷ 0x00 ∷ 0x00 ∷ 0x00 ∷ 0x00 ∷ 0x00 ∷ 0x00 ∷ 0x00 ∷ 0x00 ∷ 0x01
    ∷ 0x80 ∷ 0x00 ∷ fh ∷ fl ∷ 0x00 ∷ 0x01 ∷ 0x00 ∷ 0x01 ∷ []

mended-icmp6 : mend_of (echo 0x00 0x00) ≡ (Good, echo 0x7F 0xB9)
unfolding weigh fold put family_of header_end declared_end protocol_of next_of fragment_of between late unfinished_at header_rules met_of walk_by walk_of walk_rules outer_rules row_of said_in start_of carried_of end_of field_at body_of pseudo silent_of message_rules shape_rules whole_rules header_total message_total sent fresh_header fresh_message mended_header mended_message mend_of
mended-icmp6 = refl

-- UDP from ::1 to ::1 behind hop-by-hop options: the field is that of the datagram alone, with its own protocol and length
abbrev optioned : ℕ → ℕ → List ℕ
optioned fh fl =
    0x60 ∷ 0x00 ∷ 0x00 ∷ 0x00 ∷ 0x00 ∷ 0x12 ∷ 0x00 ∷ 0x40
    ∷ 0x00 ∷ 0x00 ∷ 0x00 ∷ 0x00 ∷ 0x00 ∷ 0x00 ∷ 0x00 ∷ 0x00 ∷ 0x00 ∷ 0x00 ∷ 0x00 ∷ 0x00 ∷ 0x00 ∷ 0x00 ∷ 0x00 ∷ 0x01
    ∷ 0x00 ∷ 0x00 ∷ 0x00 ∷ 0x00 ∷ 0x00 ∷ 0x00 ∷ 0x00 ∷ 0x00 ∷ 0x00 ∷ 0x00 ∷ 0x00 ∷ 0x00 ∷ 0x00 ∷ 0x00 ∷ 0x00 ∷ 0x01
    ∷ 0x11 ∷ 0x00 ∷ 0x01 ∷ 0x04 ∷ 0x00 ∷ 0x00 ∷ 0x00 ∷ 0x00 ∷ 0x13 ∷ 0x88 ∷ 0x13 ∷ 0x89 ∷ 0x00 ∷ 0x0A ∷ fh ∷ fl ∷ 0x48 ∷ 0x69 ∷ []

mended-between : mend_of (optioned 0x00 0x00) ≡ (Good, optioned 0x90 0x5E)
unfolding weigh fold put family_of header_end declared_end protocol_of next_of fragment_of between late unfinished_at header_rules met_of walk_by walk_of walk_rules outer_rules row_of said_in start_of carried_of end_of field_at body_of pseudo silent_of message_rules shape_rules whole_rules header_total message_total sent fresh_header fresh_message mended_header mended_message mend_of
mended-between = refl

-- ICMP over IPv4, all zeros but for its field: mending is no update, and FFFF stays
abbrev blank : ℕ → ℕ → List ℕ
blank fh fl =
    0x45 ∷ 0x00 ∷ 0x00 ∷ 0x1C ∷ 0x00 ∷ 0x00 ∷ 0x00 ∷ 0x00 ∷ 0x40 ∷ 0x01 ∷ 0x66 ∷ 0xDF ∷ 0x0A ∷ 0x00 ∷ 0x00 ∷ 0x01 ∷ 0x0A ∷ 0x00 ∷ 0x00 ∷ 0x02
    ∷ 0x00 ∷ 0x00 ∷ fh ∷ fl ∷ 0x00 ∷ 0x00 ∷ 0x00 ∷ 0x00 ∷ []

mended-blank : mend_of (blank 0x00 0x00) ≡ (Good, blank 0xFF 0xFF)
unfolding weigh fold put family_of header_end declared_end protocol_of next_of fragment_of walk_of walk_rules outer_rules row_of said_in start_of carried_of end_of field_at body_of pseudo silent_of message_rules shape_rules whole_rules header_total message_total sent fresh_header fresh_message mended_header mended_message mend_of
mended-blank = refl
