-- What the two passes keep, said of the list of what is left.
use Rattle.std.proofs.Common.{◌≡◌, refl, sym, ap, ◌∙◌, ℕ, ◌+◌, ◌≤◌, ◌<◌, add-zero, add-one, arith, Bool, true, false, List, [], ◌∷◌, length, get_or, set, length-set, length-drop, zero-add}
use Rattle.std.specs.Prelude.{if◌then◌else◌, Result, Ok, Err}
use Rattle.std.specs.Borrow.{Bor}
use Rattle.std.proofs.lemmas.List.{length-map, set-get_or}
use Rattle.verdicts.specs.Numbers.{number_of}
use Rattle.wire.specs.Bytes.{put}
use Rattle.judge.specs.Judge.{judge_of}
use Rattle.capture.specs.Records.{damaged, Records, read_of}
use Rattle.capture.specs.Judged.{verdicts_of, counted_of, shown, listed}
use Rattle.capture.specs.declared.Damaged.{Damaged}
use Rattle.capture.proofs.Reading.{Damage, in_head, in-packet, head-none, by-reading}
use Rattle.capture.proofs.Places.{listed-none, listed-ruin, listed-before}

pub verdicts-length : (ps : List (List ℕ)) → length (verdicts_of ps) ≡ length ps
unfolding verdicts_of
verdicts-length ps = length-map ps _

-- ---- the first pass
-- so many packets, and those that are left, if nothing is damaged
abbrev pub counting : ℕ → List (Result (List ℕ) Damaged) → Result ℕ Damaged
counting n [] = Ok n
counting n (Ok p ∷ xs) = counting (n + 1) xs
counting n (Err d ∷ xs) = Err d

counting-on : (n : ℕ) (ps : List (List ℕ)) (b : Bool) → counting n (listed (record { packets = ps; broken = b })) ≡ (if b then Err damaged else Ok (n + length ps))
unfolding listed
counting-on n [] true = refl
counting-on n [] false = ap Ok (sym (add-zero n))
counting-on n (p ∷ ps) true = counting-on (n + 1) ps true
counting-on n (p ∷ ps) false = counting-on (n + 1) ps false ∙ ap Ok (omega arith)

pub counting_all : (r : Records) → counting 0 (listed r) ≡ counted_of r
counting_all r = counting-on 0 r.packets r.broken ∙ rw zero-add

-- damage takes a byte at least
some-damage : (xs : List ℕ) → Damage xs → 0 < length xs
some-damage [] (in_head e) = let f = head-none [] refl in cc
some-damage (x ∷ xs) d = omega arith
some-damage xs (in-packet n h c) = omega (arith, h.there)

-- there are no more packets than bytes, and damage takes one too
pub few_listed : (xs : List ℕ) → length (listed (read_of xs)) ≤ length xs
few_listed =
    by-reading (λ xs r. length (listed r) ≤ length xs)
    (λ xs z. rw listed-none (omega arith))
    (λ xs d. rw (listed-ruin damaged) (omega (arith, some-damage xs d)))
    (λ xs n h l on. let k = simp length-drop at on in rw listed-before (omega arith))

-- with the packets that are left, the count is that of the whole
pub record Counting (most count : ℕ) (left : List (Result (List ℕ) Damaged)) (whole : Result ℕ Damaged) : Type 0 where
  pub few : count + length left ≤ most
  pub same : counting count left ≡ whole

-- ---- the second pass
-- the packets before the damage
abbrev pub sound : List (Result (List ℕ) Damaged) → List (List ℕ)
sound [] = []
sound (Ok p ∷ xs) = p ∷ sound xs
sound (Err d ∷ xs) = []

sound-on : (ps : List (List ℕ)) (b : Bool) → sound (listed (record { packets = ps; broken = b })) ≡ ps
unfolding listed
sound-on [] true = refl
sound-on [] false = refl
sound-on (p ∷ ps) b = ap (λ qs. p ∷ qs) (sound-on ps b)

pub sound_listed : (r : Records) → sound (listed r) ≡ r.packets
sound_listed r = sound-on r.packets r.broken

nothing : (ps : List (List ℕ)) → length ps ≡ 0 → ps ≡ []
nothing [] e = refl
nothing (p ∷ ps) e = absurd (omega arith)

-- with the verdicts on what is left written from here on, the buffer is the answer's
pub record Judging (buffer verdicts : List ℕ) (i : ℕ) (left : List (Result (List ℕ) Damaged)) (all : List (List ℕ)) : Type 0 where
  pub room : i + length (sound left) ≤ length verdicts
  pub writes : put verdicts i (verdicts_of (sound left)) ≡ put buffer 0 (verdicts_of all)

module _ {buffer verdicts : List ℕ} {i : ℕ} {left : List (Result (List ℕ) Damaged)} {all : List (List ℕ)} where
  pub judging_on : {p : List ℕ} {v : ℕ} {rest : List (Result (List ℕ) Damaged)} → left ≡ Ok p ∷ rest → v ≡ number_of (judge_of p)
      → Judging buffer verdicts i left all → Judging buffer (set verdicts i v) (i + 1) rest all
  unfolding put verdicts_of
  judging_on {v = v} e n k =
      let room = rw e at k.room in
      record { room = rw length-set (omega arith); writes = rw (add-one i, n) (rw e at k.writes) }

  -- where no packet is left, all is written
  judging-end : sound left ≡ [] → Judging buffer verdicts i left all → verdicts ≡ put buffer 0 (verdicts_of all)
  unfolding put verdicts_of
  judging-end e k = sym (ap (λ ps. put verdicts i (verdicts_of ps)) e) ∙ k.writes

  pub judging_full : length verdicts ≤ i → Judging buffer verdicts i left all → verdicts ≡ put buffer 0 (verdicts_of all)
  judging_full h k = judging-end (nothing (sound left) (omega (arith, k.room))) k

  -- at the end and at damage the place that was reached stays
  pub judging_none : left ≡ [] → Judging buffer verdicts i left all → set verdicts i (get_or verdicts i 0) ≡ put buffer 0 (verdicts_of all)
  judging_none e k = set-get_or verdicts i 0 ∙ judging-end (ap sound e) k

  pub judging_damage : {x : Result (Bor (List ℕ)) Damaged} {d : Damaged} {rest : List (Result (List ℕ) Damaged)} → left ≡ shown x ∷ rest → x ≡ Err d
      → Judging buffer verdicts i left all → set verdicts i (get_or verdicts i 0) ≡ put buffer 0 (verdicts_of all)
  judging_damage e f k = let g = rw f at e in set-get_or verdicts i 0 ∙ judging-end (ap sound g) k
