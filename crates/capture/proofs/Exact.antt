-- A capture is judged exactly when it is the layout of some packets that have places, and the answer is theirs.
use Rattle.std.proofs.Common.{◌≡◌, refl, sym, ap, ◌∙◌, ℕ, zero, suc, ◌+◌, ◌≤◌, ◌<◌, arith, List, [], ◌∷◌, Bool, true, false, length, get_or, drop, get_or-drop}
use Rattle.std.specs.Prelude.{Result, Ok, Err}
use borrow.Author.Tests.{le-ltb, ltb-false}
use Rattle.verdicts.specs.Numbers.{number_of}
use Rattle.verdicts.specs.Rules.{◌⇒◌, first}
use Rattle.verdicts.proofs.Rules.{first_either}
use Rattle.verdicts.specs.declared.Verdict.{Verdict}
use Rattle.verdicts.specs.declared.Verdict.TheVariants.{Mark, Edition, Record, Room}
use Rattle.wire.specs.Bytes.{byte_at, Bytes, put}
use Rattle.wire.proofs.Writes.{put-wrote}
use Rattle.judge.specs.Judge.{judge_of}
use Rattle.capture.specs.Records.{capture_head, records_in, capture_of, Small}
use Rattle.capture.specs.Judged.{capture_rules, verdicts_of, judged_of, count_in}
use Rattle.capture.proofs.Heads.{mark-laid, edition-laid, head-laid}
use Rattle.capture.proofs.Passes.{verdicts-length}
use Rattle.capture.proofs.Laid.{read-laid, read_small, laid-read}

-- the records of a layout are its packets
pub records-laid : (ps : List (List ℕ)) → Small ps → records_in (capture_of ps) ≡ record { packets = ps; broken = false }
unfolding capture_of
records-laid ps s = read-laid ps s

-- the answer to a layout with room for it: each packet's verdict, in order
pub judged-laid : (ps : List (List ℕ)) (buffer : List ℕ) → Small ps → length ps ≤ length buffer
    → judged_of (capture_of ps) buffer ≡ (Ok (length ps), put buffer 0 (verdicts_of ps))
unfolding judged_of capture_rules
judged-laid ps buffer s h = simp (mark-laid ps, edition-laid ps, records-laid ps s, le-ltb (length buffer) (length ps) h)

all-clear : (buffer written : List ℕ) (k n : ℕ) (m e d r : Bool)
    → (first {A = Result ℕ Verdict × List ℕ} ((m ⇒ Mark) ∷ (e ⇒ Edition) ∷ (d ⇒ Record) ∷ (r ⇒ Room) ∷ []) (λ v. (Err v, buffer)) (Ok k, written)).0 ≡ Ok n
    → (m ≡ false) × (e ≡ false) × (d ≡ false) × (r ≡ false) × (k ≡ n)
all-clear buffer written k n true e d r g = cc
all-clear buffer written k n false true d r g = cc
all-clear buffer written k n false false true r g = cc
all-clear buffer written k n false false false true g = cc
all-clear buffer written k n false false false false g = (refl, refl, refl, refl, cc)

-- a capture that isn't refused is the layout of its records, which are small, have places, and are as many as is answered
pub judged-good : (c buffer : List ℕ) (n : ℕ) → Bytes c → (judged_of c buffer).0 ≡ Ok n
    → (c ≡ capture_of (records_in c).packets) × Small (records_in c).packets × (length (records_in c).packets ≤ length buffer) × (length (records_in c).packets ≡ n)
unfolding judged_of capture_rules capture_of
judged-good c buffer n b g =
    let a = all-clear _ _ _ _ _ _ _ _ g in (
      head-laid c b a.0 a.1 ∙ ap (λ xs. 0x47 ∷ 0x4C ∷ 0x52 ∷ 0x00 ∷ 0x01 ∷ xs) (sym (laid-read (drop capture_head c) (λ i. rw get_or-drop (b (capture_head + i))) a.2)),
      read_small (drop capture_head c),
      ltb-false (length buffer) (length (records_in c).packets) a.3,
      a.4,
    )

verdict-at : (ps : List (List ℕ)) (i : ℕ) → i < length ps → byte_at (verdicts_of ps) i ≡ number_of (judge_of (get_or ps i []))
unfolding verdicts_of
verdict-at [] i h = absurd (omega arith)
verdict-at (p ∷ ps) zero h = refl
verdict-at (p ∷ ps) (suc i) h = verdict-at ps i (omega arith)

-- each verdict stands at its record's place, and the bytes past them stay
pub judged-places : (ps : List (List ℕ)) (buffer : List ℕ) → length ps ≤ length buffer
    → ((i : ℕ) → i < length ps → byte_at (put buffer 0 (verdicts_of ps)) i ≡ number_of (judge_of (get_or ps i [])))
    × ((i : ℕ) → length ps ≤ i → byte_at (put buffer 0 (verdicts_of ps)) i ≡ byte_at buffer i)
judged-places ps buffer h =
    let w = put-wrote buffer 0 (verdicts_of ps) (rw verdicts-length (omega arith)) in
    (λ i l. w.inside i i (omega arith) (rw verdicts-length l) ∙ verdict-at ps i l, λ i l. w.above i (rw verdicts-length (omega arith)))

-- a refusal counts nothing, and leaves the second buffer
pub judged-refused : (c buffer : List ℕ) (v : Verdict) → (judged_of c buffer).0 ≡ Err v → (count_in (judged_of c buffer).0 ≡ 0) × ((judged_of c buffer).1 ≡ buffer)
unfolding judged_of
judged-refused c buffer v =
    let packets = (records_in c).packets in
    first_either {A = Result ℕ Verdict × List ℕ} (λ x. x.0 ≡ Err v → (count_in x.0 ≡ 0) × (x.1 ≡ buffer)) (capture_rules c (length buffer)) _ (Ok (length packets), put buffer 0 (verdicts_of packets))
    (λ w e. (refl, refl))
    (λ k e. let z : ◌≡◌ {A = ℕ} 0 1 = cc in absurd (omega arith))
