-- Reading what was laid out gives the packets back, and an undamaged capture is the layout of its records.
use Rattle.std.specs.Prelude.{Some, Ok}
use Rattle.std.proofs.Common.{◌≡◌, refl, sym, ap, ap₂, ◌∙◌, ℕ, ◌+◌, ◌/◌, ◌%◌, ◌≤◌, arith, List, [], ◌∷◌, false, length, drop, length-append, length-take, length-drop, take-append-drop, drop_of_length-le, drop-drop, get_or-drop, length-take-le}
use Rattle.std.proofs.Math.Seq.{take-append_seam, drop-append_seam}
use Rattle.std.proofs.Math.Bool.{true≢false}
use Rattle.wire.specs.Bytes.{Bytes}
use Rattle.capture.specs.Records.{record_head, most, front_of, packet, behind, ◌before◌, read_of, laid, Small}
use Rattle.capture.proofs.Reading.{Headed, head-packet, front-none, front_whole, read_step, by-reading}

-- ---- laid out, then read
laid-front : (p : List ℕ) (ps : List (List ℕ)) → length p ≤ most → front_of (laid (p ∷ ps)) ≡ Ok (Some (length p))
unfolding laid
laid-front p ps h =
    let xs = laid (p ∷ ps) in
    front_whole xs (length p) (head-packet xs (omega arith) (length p) (omega arith) h) (omega (arith, length-append p (laid ps)))

-- reading what was laid out gives the packets back, and no damage
pub read-laid : (ps : List (List ℕ)) → Small ps → read_of (laid ps) ≡ record { packets = ps; broken = false }
unfolding laid
read-laid [] s = read_step (laid []) ∙ rw (front-none (laid []) refl)
read-laid (p ∷ ps) s =
    let xs = laid (p ∷ ps) in
    let body : packet xs (length p) ≡ p = take-append_seam p (laid ps) in
    let rest : behind xs (length p) ≡ laid ps = sym (drop-drop (length p) record_head xs) ∙ drop-append_seam p (laid ps) in
    read_step xs ∙ rw (laid-front p ps s.0) (ap₂ (λ b r. b before r) body (ap read_of rest ∙ read-laid ps s.1))

-- ---- read, then laid out
-- each packet that was read has at most 2,048 bytes
pub read_small : (xs : List ℕ) → Small (read_of xs).packets
read_small = by-reading (λ xs r. Small r.packets) (λ xs e. tt) (λ xs d. tt) (λ xs n k l on. (simp length-take (omega arith), on))

-- a length that was read is written in the same two bytes
same_length : (xs : List ℕ) (n : ℕ) → Bytes xs → Headed xs n → (n / 256 ∷ n % 256 ∷ drop record_head xs) ≡ xs
same_length [] n b w = absurd (omega arith)
same_length (x ∷ []) n b w = absurd (omega arith)
same_length (x ∷ y ∷ xs) n b w =
    let high : n / 256 ≡ x = omega (arith, b 0, b 1) in
    let low : n % 256 ≡ y = omega (arith, b 0, b 1) in
    rw (high, low)

-- what is undamaged is the layout of its packets
pub laid-read : (xs : List ℕ) → Bytes xs → (read_of xs).broken ≡ false → laid (read_of xs).packets ≡ xs
unfolding laid
laid-read =
    by-reading (λ xs r. Bytes xs → r.broken ≡ false → laid r.packets ≡ xs)
    (λ xs e b s. sym (drop_of_length-le xs {i = 0} (omega arith)))
    (λ xs d b s. absurd (true≢false s))
    (λ xs n k l on b s.
    let long : length (packet xs n) ≡ n = length-take-le n (drop record_head xs) (rw length-drop (omega arith)) in
    let rest : laid (read_of (behind xs n)).packets ≡ drop n (drop record_head xs) = on (λ i. rw get_or-drop (b (record_head + n + i))) s ∙ sym (drop-drop n record_head xs) in
    rw (long, rest, take-append-drop) (same_length xs n b k))
