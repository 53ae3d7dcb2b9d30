-- When each verdict comes: the paper's conditions, in its order and in numbers, each with the verdict that it leads to.
use Rattle.std.specs.Prelude.{ℕ, ◌+◌, ◌-◌, ◌*◌, ◌/◌, ◌%◌, ◌<◌, ◌≡◌, ◌⊎◌, ◌≢◌, List, [], ◌∷◌, ◌++◌, length}
use Rattle.verdicts.specs.Rules.{Case, ◌leads◌}
use Rattle.verdicts.specs.declared.Verdict.TheVariants.{Unsummed, Cut, Version, Shape, HeaderSum, Fragment, Uncovered, Missing, MessageSum}
use Rattle.sums.specs.Total.{total}
use Rattle.wire.specs.Bytes.{byte_at, word_at}
use Rattle.wire.specs.Outer.{version_of, header4_of, declared_end}
use Rattle.wire.specs.Walk.{refused}
use Rattle.wire.specs.Chain.{WalksTo}
use Rattle.wire.specs.Inner.{protocol_of, start_of, header_bytes, covered_of}

-- a block passes: its total is a positive multiple of 65535
abbrev pub Pass : List ℕ → Type 0
Pass block = (0 < total block) × (total block % 65535 ≡ 0)

-- the table: ICMP, TCP and UDP over IPv4; TCP, UDP and ICMPv6 over IPv6
abbrev pub Listed : ℕ → ℕ → Type 0
Listed v n = ((v ≡ 4) × ((n ≡ 1) ⊎ (n ≡ 6) ⊎ (n ≡ 17))) ⊎ ((v ≡ 6) × ((n ≡ 6) ⊎ (n ≡ 17) ⊎ (n ≡ 58)))

-- no bytes; version; under 20 or 40 bytes; IPv4 header length under 5 words; total length below it; fewer bytes than declared
abbrev pub outer_cases : List ℕ → List Case
outer_cases p =
    let v = version_of p in
    ((length p ≡ 0) leads Cut)
    ∷ (((v ≢ 4) × (v ≢ 6)) leads Version)
    ∷ ((((v ≡ 4) × (length p < 20)) ⊎ ((v ≡ 6) × (length p < 40))) leads Cut)
    ∷ (((v ≡ 4) × (byte_at p 0 % 16 < 5)) leads Shape)
    ∷ (((v ≡ 4) × (word_at p 2 < header4_of p)) leads Shape)
    ∷ ((length p < declared_end p) leads Cut)
    ∷ []

abbrev pub header_sum_case : List ℕ → List Case
header_sum_case p = (((version_of p ≡ 4) × (¬ Pass (header_bytes p))) leads HeaderSum) ∷ []

-- on the way to the message: a fragment, in IPv4 by flag or offset and in IPv6 by a header of its own; over IPv6 a header that is late, the
-- ninth or has segments left; one past the payload
abbrev pub walk_cases : List ℕ → List Case
walk_cases p =
    let v = version_of p in
    let w = word_at p 6 in
    ((((v ≡ 4) × ((w / 8192 % 2 ≡ 1) ⊎ (w % 8192 ≢ 0))) ⊎ ((v ≡ 6) × WalksTo p (refused Fragment))) leads Fragment)
    ∷ (((v ≡ 6) × WalksTo p (refused Uncovered)) leads Uncovered)
    ∷ (((v ≡ 6) × WalksTo p (refused Shape)) leads Shape)
    ∷ []

-- protocol; message shorter than its fixed header; TCP's data offset under 5 words or past the message, UDP's length under 8 or past it
abbrev pub message_cases : List ℕ → List Case
message_cases p =
    let n = protocol_of p in
    let size = declared_end p - start_of p in
    let offset = byte_at p (start_of p + 12) / 16 * 4 in
    let datagram = word_at p (start_of p + 4) in
    ((¬ Listed (version_of p) n) leads Uncovered)
    ∷ (((((n ≡ 1) ⊎ (n ≡ 17)) × (size < 8)) ⊎ ((n ≡ 6) × (size < 20)) ⊎ ((n ≡ 58) × (size < 4))) leads Shape)
    ∷ ((((n ≡ 6) × ((offset < 20) ⊎ (size < offset))) ⊎ ((n ≡ 17) × ((datagram < 8) ⊎ (size < datagram)))) leads Shape)
    ∷ []

-- UDP zero in IPv6, in IPv4
abbrev pub missing_case : List ℕ → List Case
missing_case p = (((version_of p ≡ 6) × (protocol_of p ≡ 17) × (word_at p (start_of p + 6) ≡ 0)) leads Missing) ∷ []

abbrev pub unsummed_case : List ℕ → List Case
unsummed_case p = (((version_of p ≡ 4) × (protocol_of p ≡ 17) × (word_at p (start_of p + 6) ≡ 0)) leads Unsummed) ∷ []

abbrev pub message_sum_case : List ℕ → List Case
message_sum_case p = ((¬ Pass (covered_of p)) leads MessageSum) ∷ []

abbrev pub judge_cases : List ℕ → List Case
judge_cases p =
    outer_cases p ++ (header_sum_case p ++ (walk_cases p ++ (message_cases p ++ (missing_case p ++ (unsummed_case p ++ message_sum_case p)))))

-- the same but for the sums: the mender's
abbrev pub whole_cases : List ℕ → List Case
whole_cases p = outer_cases p ++ (walk_cases p ++ message_cases p)
