-- Packets that show what the definitions say: each statement is computed. The datagram is the paper's eleventh example.
use Prim.Native.Nat.{ℕ}
use mathlib.Core.Path.{◌≡◌, refl, ap}
use native.Mathlib.Omega.{arith}
use mathlib.Core.List.{List, [], ◌∷◌, ◌++◌}
use mathlib.Core.Bool.{true, false}
use Rattle.verdicts.specs.declared.Verdict.{Verdict}
use Rattle.verdicts.specs.declared.Verdict.TheVariants.{Good, Version, Shape, HeaderSum, Fragment, Uncovered, Missing, MessageSum, Place, Blank}
use Rattle.sums.specs.Total.{odd, weigh, total}
use Rattle.sums.specs.Fold.{fold, field_of, passes}
use Rattle.sums.specs.Update.{equation3, updated}
use Rattle.wire.specs.Bytes.{put}
use Rattle.wire.specs.Outer.{family_of, header_end, declared_end, next_of, fragment_of, outer_rules}
use Rattle.wire.specs.Walk.{between, late, unfinished_at, header_rules, met_of, walk_by, walk_of, walk_rules}
use Rattle.wire.specs.Table.{row_of}
use Rattle.wire.specs.Messages.{said_in, shape_rules}
use Rattle.wire.specs.Inner.{protocol_of, carried_of, body_of, end_of, field_at, message_rules, pseudo, silent_of, start_of, whole_rules, carries}
use Rattle.cover.specs.Sums.{header_total, message_total, header_sums, message_sums}
use Rattle.judge.specs.Judge.{sum_rules, judge_rules, judge_of}
use Rattle.mend.specs.Fresh.{sent, fresh_header, fresh_message, header, message, used}
use Rattle.kept.specs.Update.{updated_at, header_after, message_after}
use Rattle.kept.specs.Edits.{edit_rules, lifetime_of, address_of, blank, stretch_of}
use Rattle.kept.specs.Prefix.{with_word, prefix_of}
use Rattle.kept.specs.Rfc.{adjustment, outward, inward}
use Rattle.kept.specs.Runs.{lifetime, address, stretch, prefix, apply, run}
use Rattle.kept.proofs.Prefix.{word-as}

-- UDP over IPv4: its lifetime, header field, last bytes of the addresses, message field and data
abbrev datagram : ℕ → ℕ → ℕ → ℕ → ℕ → ℕ → ℕ → ℕ → ℕ → List ℕ
datagram life high low from to fh fl a b =
    0x45 ∷ 0x00 ∷ 0x00 ∷ 0x1E ∷ 0x00 ∷ 0x00 ∷ 0x40 ∷ 0x00 ∷ life ∷ 0x11 ∷ high ∷ low ∷ 0xC0 ∷ 0xA8 ∷ 0x00 ∷ from ∷ 0xC0 ∷ 0xA8 ∷ 0x00 ∷ to
    ∷ 0x13 ∷ 0x88 ∷ 0x13 ∷ 0x89 ∷ 0x00 ∷ 0x0A ∷ fh ∷ fl ∷ a ∷ b ∷ []

-- its data edited byte by byte, the second at an odd place: the field computed 0000 is sent FFFF
edited : run (stretch 0 (0x56 ∷ []) ∷ stretch 1 (0xB0 ∷ []) ∷ []) (datagram 0x40 0xB8 0xB6 0x01 0xC7 0x0E 0x47 0x48 0x69)
    ≡ datagram 0x40 0xB8 0xB6 0x01 0xC7 0xFF 0xFF 0x56 0xB0
unfolding weigh fold equation3 updated put odd family_of start_of header_end carried_of end_of declared_end protocol_of next_of fragment_of walk_of walk_rules outer_rules row_of said_in field_at body_of pseudo silent_of message_rules shape_rules whole_rules sent updated_at message_after edit_rules stretch_of
edited = refl

-- its lifetime lowered and its addresses exchanged
forwarded : run (lifetime ∷ address 0 (0xC0 ∷ 0xA8 ∷ 0x00 ∷ 0xC7 ∷ []) ∷ address 1 (0xC0 ∷ 0xA8 ∷ 0x00 ∷ 0x01 ∷ []) ∷ []) (datagram 0x40 0xB8 0xB6 0x01 0xC7 0x0E 0x47 0x48 0x69)
    ≡ datagram 0x3F 0xB9 0xB6 0xC7 0x01 0x0E 0x47 0x48 0x69
unfolding weigh fold equation3 updated put odd family_of start_of header_end carried_of end_of declared_end protocol_of next_of fragment_of walk_of walk_rules outer_rules row_of said_in field_at body_of pseudo silent_of message_rules shape_rules whole_rules sent updated_at header_after message_after edit_rules lifetime_of address_of
forwarded = refl

-- ---- the same datagram with three bytes behind it in the packet
abbrev trailed : ℕ → ℕ → ℕ → ℕ → ℕ → ℕ → ℕ → ℕ → ℕ → ℕ → List ℕ
trailed life high low fh fl a b x y z =
    0x45 ∷ 0x00 ∷ 0x00 ∷ 0x21 ∷ 0x00 ∷ 0x00 ∷ 0x40 ∷ 0x00 ∷ life ∷ 0x11 ∷ high ∷ low ∷ 0xC0 ∷ 0xA8 ∷ 0x00 ∷ 0x01 ∷ 0xC0 ∷ 0xA8 ∷ 0x00 ∷ 0xC7
    ∷ 0x13 ∷ 0x88 ∷ 0x13 ∷ 0x89 ∷ 0x00 ∷ 0x0A ∷ fh ∷ fl ∷ a ∷ b ∷ x ∷ y ∷ z ∷ []

-- they are summed neither where that would spoil a right sum nor where it would make a wrong one right; a stretch ends before them
trailing : (judge_of (trailed 0x40 0xB8 0xB3 0x0E 0x47 0x48 0x69 0xFF 0xFE 0xFF) ≡ Good)
    × (judge_of (trailed 0x40 0xB8 0xB3 0x0E 0x46 0x48 0x69 0x00 0x01 0x00) ≡ MessageSum)
    × ((apply (stretch 1 (0x00 ∷ 0x00 ∷ [])) (trailed 0x40 0xB8 0xB3 0x0E 0x47 0x48 0x69 0xFF 0xFE 0xFF)).0 ≡ Place)
    × (run (stretch 2 (0x00 ∷ []) ∷ stretch 0 (0x56 ∷ 0xB0 ∷ []) ∷ lifetime ∷ []) (trailed 0x40 0xB8 0xB3 0x0E 0x47 0x48 0x69 0xFF 0xFE 0xFF)
    ≡ trailed 0x3F 0xB9 0xB3 0xFF 0xFF 0x56 0xB0 0xFF 0xFE 0xFF)
unfolding weigh fold passes equation3 updated put odd family_of start_of header_end carried_of end_of declared_end protocol_of next_of fragment_of walk_of walk_rules outer_rules row_of said_in field_at body_of pseudo silent_of message_rules shape_rules whole_rules header_total message_total header_sums message_sums sum_rules judge_rules judge_of sent updated_at header_after message_after edit_rules lifetime_of blank stretch_of
trailing = (refl, refl, refl, refl)

-- ---- a datagram from ::1 behind hop-by-hop options
abbrev optioned : ℕ → ℕ → ℕ → ℕ → ℕ → List ℕ
optioned life to fh fl b =
    0x60 ∷ 0x00 ∷ 0x00 ∷ 0x00 ∷ 0x00 ∷ 0x12 ∷ 0x00 ∷ life
    ∷ 0x00 ∷ 0x00 ∷ 0x00 ∷ 0x00 ∷ 0x00 ∷ 0x00 ∷ 0x00 ∷ 0x00 ∷ 0x00 ∷ 0x00 ∷ 0x00 ∷ 0x00 ∷ 0x00 ∷ 0x00 ∷ 0x00 ∷ 0x01
    ∷ 0x00 ∷ 0x00 ∷ 0x00 ∷ 0x00 ∷ 0x00 ∷ 0x00 ∷ 0x00 ∷ 0x00 ∷ 0x00 ∷ 0x00 ∷ 0x00 ∷ 0x00 ∷ 0x00 ∷ 0x00 ∷ 0x00 ∷ to
    ∷ 0x11 ∷ 0x00 ∷ 0x01 ∷ 0x04 ∷ 0x00 ∷ 0x00 ∷ 0x00 ∷ 0x00 ∷ 0x13 ∷ 0x88 ∷ 0x13 ∷ 0x89 ∷ 0x00 ∷ 0x0A ∷ fh ∷ fl ∷ 0x48 ∷ b ∷ []

-- its sum is wrong with the first next header in the pseudo-header, and with the payload's length; edits see through the options
optioning : (judge_of (optioned 0x40 0x01 0x90 0x5E 0x69) ≡ Good)
    × (judge_of (optioned 0x40 0x01 0x90 0x6F 0x69) ≡ MessageSum)
    × (judge_of (optioned 0x40 0x01 0x90 0x56 0x69) ≡ MessageSum)
    × (run (lifetime ∷ address 1 (0 ∷ 0 ∷ 0 ∷ 0 ∷ 0 ∷ 0 ∷ 0 ∷ 0 ∷ 0 ∷ 0 ∷ 0 ∷ 0 ∷ 0 ∷ 0 ∷ 0 ∷ 2 ∷ []) ∷ stretch 1 (0x6F ∷ []) ∷ []) (optioned 0x40 0x01 0x90 0x5E 0x69)
    ≡ optioned 0x3F 0x02 0x90 0x57 0x6F)
unfolding weigh fold passes equation3 updated put odd family_of start_of header_end carried_of end_of declared_end protocol_of next_of fragment_of between late unfinished_at header_rules met_of walk_by walk_of walk_rules outer_rules row_of said_in field_at body_of pseudo silent_of message_rules shape_rules whole_rules header_total message_total header_sums message_sums sum_rules judge_rules judge_of sent updated_at header_after message_after edit_rules lifetime_of address_of blank stretch_of
optioning = (refl, refl, refl, refl)

-- ---- a lifetime is lowered whatever is carried, and the verdict stays
-- IPv4 with these flags, lifetime, protocol and header field, and ten bytes of which the fifth and sixth are UDP's length
abbrev carrier : ℕ → ℕ → ℕ → ℕ → ℕ → ℕ → ℕ → List ℕ
carrier flags offset life protocol high low size =
    0x45 ∷ 0x00 ∷ 0x00 ∷ 0x1E ∷ 0x00 ∷ 0x00 ∷ flags ∷ offset ∷ life ∷ protocol ∷ high ∷ low ∷ 0xC0 ∷ 0xA8 ∷ 0x00 ∷ 0x01 ∷ 0xC0 ∷ 0xA8 ∷ 0x00 ∷ 0xC7
    ∷ 0x13 ∷ 0x88 ∷ 0x13 ∷ 0x89 ∷ 0x00 ∷ size ∷ 0x0E ∷ 0x47 ∷ 0x48 ∷ 0x69 ∷ []

-- UDP over IPv6 with the field 0000
abbrev missing : ℕ → List ℕ
missing life =
    0x60 ∷ 0x00 ∷ 0x00 ∷ 0x00 ∷ 0x00 ∷ 0x0A ∷ 0x11 ∷ life
    ∷ 0xFD ∷ 0x00 ∷ 0x00 ∷ 0x00 ∷ 0x00 ∷ 0x00 ∷ 0x00 ∷ 0x00 ∷ 0x00 ∷ 0x00 ∷ 0x00 ∷ 0x00 ∷ 0x00 ∷ 0x00 ∷ 0x00 ∷ 0x01
    ∷ 0xFD ∷ 0x00 ∷ 0x00 ∷ 0x00 ∷ 0x00 ∷ 0x00 ∷ 0x00 ∷ 0x00 ∷ 0x00 ∷ 0x00 ∷ 0x00 ∷ 0x00 ∷ 0x00 ∷ 0x00 ∷ 0x00 ∷ 0x02
    ∷ 0x13 ∷ 0x88 ∷ 0x13 ∷ 0x89 ∷ 0x00 ∷ 0x0A ∷ 0x00 ∷ 0x00 ∷ 0x48 ∷ 0x69 ∷ []

abbrev Lowered : Verdict → List ℕ → List ℕ → Type 0
Lowered v p q = (judge_of p ≡ v) × (apply lifetime p ≡ (Good, q)) × (judge_of q ≡ v)

-- a wrong header sum, a fragment, a protocol that isn't covered, a UDP length past the message, a missing sum
lowered : Lowered HeaderSum (carrier 0x40 0x00 0x40 0x11 0xB8 0xB7 0x0A) (carrier 0x40 0x00 0x3F 0x11 0xB9 0xB7 0x0A)
    × Lowered Fragment (carrier 0x20 0x01 0x40 0x11 0xD8 0xB5 0x0A) (carrier 0x20 0x01 0x3F 0x11 0xD9 0xB5 0x0A)
    × Lowered Uncovered (carrier 0x40 0x00 0x40 0x2F 0xB8 0x98 0x0A) (carrier 0x40 0x00 0x3F 0x2F 0xB9 0x98 0x0A)
    × Lowered Shape (carrier 0x40 0x00 0x40 0x11 0xB8 0xB6 0x0B) (carrier 0x40 0x00 0x3F 0x11 0xB9 0xB6 0x0B)
    × Lowered Missing (missing 0x40) (missing 0x3F)
unfolding weigh fold passes equation3 updated put odd family_of start_of header_end carried_of end_of declared_end protocol_of next_of fragment_of between late unfinished_at header_rules met_of walk_by walk_of walk_rules outer_rules row_of said_in field_at body_of pseudo silent_of message_rules shape_rules header_total message_total header_sums message_sums sum_rules judge_rules judge_of sent updated_at header_after lifetime_of
lowered = ((refl, refl, refl), (refl, refl, refl), (refl, refl, refl), (refl, refl, refl), (refl, refl, refl))

-- a fragment among other edits: they are refused, and its header's field, the only one in use, stands fresh
fragment-edited : ((apply (address 1 (0xC0 ∷ 0xA8 ∷ 0x00 ∷ 0x09 ∷ [])) (carrier 0x20 0x01 0x40 0x11 0xD8 0xB5 0x0A)).0 ≡ Fragment)
    × ((apply (stretch 0 (0xFF ∷ [])) (carrier 0x20 0x01 0x40 0x11 0xD8 0xB5 0x0A)).0 ≡ Fragment)
    × (run (lifetime ∷ stretch 0 (0xFF ∷ []) ∷ address 1 (0xC0 ∷ 0xA8 ∷ 0x00 ∷ 0x09 ∷ []) ∷ lifetime ∷ []) (carrier 0x20 0x01 0x40 0x11 0xD8 0xB5 0x0A)
    ≡ carrier 0x20 0x01 0x3E 0x11 0xDA 0xB5 0x0A)
    × (used header (carrier 0x20 0x01 0x3E 0x11 0xDA 0xB5 0x0A) ≡ true) × (used message (carrier 0x20 0x01 0x3E 0x11 0xDA 0xB5 0x0A) ≡ false)
    × (fresh_header (carrier 0x20 0x01 0x3E 0x11 0xDA 0xB5 0x0A) ≡ 0xDAB5)
unfolding weigh fold equation3 updated put odd family_of start_of header_end carried_of end_of declared_end protocol_of next_of fragment_of walk_of walk_rules outer_rules row_of said_in field_at body_of pseudo silent_of message_rules shape_rules whole_rules carries header_total fresh_header sent updated_at header_after message_after edit_rules lifetime_of address_of blank stretch_of
fragment-edited = (refl, refl, refl, refl, refl, refl)

-- ---- no negative zero
-- TCP over IPv4: its field and its data
abbrev segment : ℕ → ℕ → ℕ → ℕ → List ℕ
segment fh fl a b =
    0x45 ∷ 0x00 ∷ 0x00 ∷ 0x2A ∷ 0x00 ∷ 0x00 ∷ 0x40 ∷ 0x00 ∷ 0x40 ∷ 0x06 ∷ 0xB8 ∷ 0xB5 ∷ 0xC0 ∷ 0xA8 ∷ 0x00 ∷ 0x01 ∷ 0xC0 ∷ 0xA8 ∷ 0x00 ∷ 0xC7
    ∷ 0x13 ∷ 0x88 ∷ 0x13 ∷ 0x89 ∷ 0x00 ∷ 0x00 ∷ 0x00 ∷ 0x01 ∷ 0x00 ∷ 0x00 ∷ 0x00 ∷ 0x00 ∷ 0x50 ∷ 0x10 ∷ 0x06 ∷ 0xA8 ∷ fh ∷ fl ∷ 0x00 ∷ 0x00
    ∷ a ∷ b ∷ []

-- it passes with FFFF where the fresh field is 0000; equation 3 would keep that FFFF where data of fold FFFF becomes zeros, the update doesn't
no-negative-zero : (judge_of (segment 0xFF 0xFF 0xFF 0xFF) ≡ Good) × (fresh_message (segment 0xFF 0xFF 0xFF 0xFF) ≡ 0x0000)
    × (apply (stretch 0 (0x00 ∷ 0x00 ∷ [])) (segment 0xFF 0xFF 0xFF 0xFF) ≡ (Good, segment 0x00 0x00 0x00 0x00))
    × (fresh_message (segment 0x00 0x00 0x00 0x00) ≡ 0x0000)
unfolding weigh fold passes equation3 updated put odd family_of start_of header_end carried_of end_of declared_end protocol_of next_of fragment_of walk_of walk_rules outer_rules row_of said_in field_at body_of pseudo silent_of message_rules shape_rules whole_rules header_total message_total header_sums message_sums sum_rules judge_rules judge_of sent fresh_message updated_at message_after edit_rules blank stretch_of
no-negative-zero = (refl, refl, refl, refl)

-- the paper's echo, its capture's second record
echo-good : judge_of
    (0x45 ∷ 0x00 ∷ 0x00 ∷ 0x1C ∷ 0x00 ∷ 0x00 ∷ 0x00 ∷ 0x00 ∷ 0x40 ∷ 0x01 ∷ 0x66 ∷ 0xDF ∷ 0x0A ∷ 0x00 ∷ 0x00 ∷ 0x01 ∷ 0x0A ∷ 0x00 ∷ 0x00 ∷ 0x02
    ∷ 0x08 ∷ 0x00 ∷ 0xF7 ∷ 0xFD ∷ 0x00 ∷ 0x01 ∷ 0x00 ∷ 0x01 ∷ []) ≡ Good
unfolding weigh fold passes family_of start_of header_end carried_of end_of declared_end protocol_of next_of fragment_of walk_of walk_rules outer_rules row_of said_in field_at body_of pseudo silent_of message_rules shape_rules header_total message_total header_sums message_sums sum_rules judge_rules judge_of
echo-good = refl

-- ---- why both halves of the blank rule are needed
-- ICMP over IPv4, all zeros but for its field and one byte of body
abbrev icmp : ℕ → ℕ → ℕ → List ℕ
icmp fh fl byte =
    0x45 ∷ 0x00 ∷ 0x00 ∷ 0x1D ∷ 0x00 ∷ 0x00 ∷ 0x00 ∷ 0x00 ∷ 0x40 ∷ 0x01 ∷ 0x66 ∷ 0xDE ∷ 0x0A ∷ 0x00 ∷ 0x00 ∷ 0x01 ∷ 0x0A ∷ 0x00 ∷ 0x00 ∷ 0x02
    ∷ 0x00 ∷ 0x00 ∷ fh ∷ fl ∷ 0x00 ∷ 0x00 ∷ 0x00 ∷ 0x00 ∷ byte ∷ []

-- blank before: refused, since the update would make a wrong sum right
blank-before : ((apply (stretch 0 (8 ∷ [])) (icmp 0 0 0)).0 ≡ Blank)
    × (message_after (icmp 0 0 0) 8 28 (8 ∷ []) (icmp 0 0 8) ≡ icmp 0xF7 0xFF 8)
    × (judge_of (icmp 0 0 0) ≡ MessageSum) × (judge_of (icmp 0xF7 0xFF 8) ≡ Good)
unfolding weigh fold passes equation3 updated put odd family_of start_of header_end carried_of end_of declared_end protocol_of next_of fragment_of walk_of walk_rules outer_rules row_of said_in field_at body_of pseudo silent_of message_rules shape_rules whole_rules header_total message_total header_sums message_sums sum_rules judge_rules judge_of sent updated_at message_after edit_rules blank stretch_of
blank-before = (refl, refl, refl, refl)

-- blank after: refused, since it would make a right sum wrong
blank-after : ((apply (stretch 0 (0 ∷ [])) (icmp 0xF7 0xFF 8)).0 ≡ Blank)
    × (message_after (icmp 0xF7 0xFF 8) 8 28 (0 ∷ []) (icmp 0xF7 0xFF 0) ≡ icmp 0 0 0)
unfolding weigh fold equation3 updated put odd family_of start_of header_end carried_of end_of declared_end protocol_of next_of fragment_of walk_of walk_rules outer_rules row_of said_in field_at body_of pseudo silent_of message_rules shape_rules whole_rules sent updated_at message_after edit_rules blank stretch_of
blank-after = (refl, refl)

-- ---- RFC 6296's printed example: FD01:0203:0405/48 inside, 2001:0DB8:0001/48 outside, and the host FD01:0203:0405:0001::1234
abbrev inside : List ℕ
inside = 0xFD ∷ 0x01 ∷ 0x02 ∷ 0x03 ∷ 0x04 ∷ 0x05 ∷ []

abbrev outside : List ℕ
outside = 0x20 ∷ 0x01 ∷ 0x0D ∷ 0xB8 ∷ 0x00 ∷ 0x01 ∷ []

-- the numbers that it shows on the way: the prefixes' checksums, the adjustment, the word out, and the word back in
shown : (field_of (fold (total inside)) ≡ 0xFCF5) × (field_of (fold (total outside)) ≡ 0xD245) × (adjustment inside outside ≡ 0xD54F)
    × (outward inside outside 0x0001 ≡ 0xD550) × (inward inside outside 0xD550 ≡ 0x0001)
unfolding weigh fold
shown = (refl, refl, refl, refl, refl)

-- a datagram from that host, by the six bytes of its prefix and the word behind them
abbrev sent-by : List ℕ → ℕ → ℕ → List ℕ
sent-by six high low =
    0x60 ∷ 0x00 ∷ 0x00 ∷ 0x00 ∷ 0x00 ∷ 0x0A ∷ 0x11 ∷ 0x40
    ∷ (six ++ (high ∷ low ∷ 0x00 ∷ 0x00 ∷ 0x00 ∷ 0x00 ∷ 0x00 ∷ 0x00 ∷ 0x12 ∷ 0x34
    ∷ 0x20 ∷ 0x01 ∷ 0x0D ∷ 0xB8 ∷ 0x00 ∷ 0x02 ∷ 0x00 ∷ 0x00 ∷ 0x00 ∷ 0x00 ∷ 0x00 ∷ 0x00 ∷ 0x00 ∷ 0x00 ∷ 0x00 ∷ 0x01
    ∷ 0x13 ∷ 0x88 ∷ 0x13 ∷ 0x89 ∷ 0x00 ∷ 0x0A ∷ 0x4D ∷ 0x65 ∷ 0x48 ∷ 0x69 ∷ []))

-- it goes out with D550, its UDP field untouched and right; with FFFF it doesn't; IPv4 is another version, cut or not
exchanged : (apply (prefix 0 inside outside) (sent-by inside 0x00 0x01) ≡ (Good, sent-by outside 0xD5 0x50))
    × (judge_of (sent-by inside 0x00 0x01) ≡ Good) × (judge_of (sent-by outside 0xD5 0x50) ≡ Good)
    × ((apply (prefix 0 inside outside) (sent-by inside 0xFF 0xFF)).0 ≡ Place)
    × ((apply (prefix 0 inside outside) (0x45 ∷ [])).0 ≡ Version)
unfolding weigh fold passes put odd family_of start_of header_end carried_of end_of declared_end protocol_of next_of fragment_of between late unfinished_at header_rules met_of walk_by walk_of walk_rules outer_rules row_of said_in field_at body_of pseudo silent_of message_rules shape_rules whole_rules header_total message_total header_sums message_sums sum_rules judge_rules judge_of edit_rules prefix_of
exchanged =
    let p = sent-by inside 0x00 0x01 in
    (ap (λ (w : ℕ). (Good, put p 8 (with_word outside w))) (word-as p 8 outside (omega arith) refl), refl, refl, refl, refl)
