-- What `record_at` answers tells of the records from a place on, and what stands first in some bytes of those that are left.
use Rattle.std.proofs.Common.{◌≡◌, refl, sym, ap, ◌∙◌, ℕ, ◌+◌, ◌-◌, ◌≤◌, arith, List, [], ◌∷◌, length, take, drop, length-drop, take_all, drop-drop}
use Rattle.std.specs.Prelude.{Option, Some, None, Result, Ok, Err}
use Rattle.capture.specs.Records.{record_head, Head, front_of, placed, ◌before◌, Records, none, ruin, read_of, record_at}
use Rattle.capture.specs.Judged.{listed}
use Rattle.capture.specs.declared.Damaged.{Damaged}
use Rattle.capture.specs.declared.Found.{Found}
use Rattle.capture.proofs.Reading.{Begins, begins, front-none, read_step}

-- ---- the list of what is left
pub listed-none : listed none ≡ []
unfolding listed
listed-none = refl

pub listed-ruin : (d : Damaged) → listed ruin ≡ Err d ∷ []
unfolding listed
listed-ruin d = refl

pub listed-before : (p : List ℕ) (r : Records) → listed (p before r) ≡ Ok p ∷ listed r
unfolding listed
listed-before p r = refl

-- ---- the record at a place
-- it lies within the capture, and reading goes on behind it
pub record Passed (c : List ℕ) (at start end : ℕ) : Type 0 where
  pub after : start ≡ at + record_head
  pub order : start ≤ end
  pub within : end ≤ length c
  pub reads : read_of (drop at c) ≡ take (end - start) (drop start c) before read_of (drop end c)

-- what each answer tells
abbrev pub Past : List ℕ → ℕ → Result (Option Found) Damaged → Type 0
Past c at (Ok None) = read_of (drop at c) ≡ none
Past c at (Ok (Some f)) = Passed c at f.start f.end
Past c at (Err d) = read_of (drop at c) ≡ ruin

past : (c : List ℕ) (at : ℕ) (f : Head) → Begins (drop at c) f → front_of (drop at c) ≡ f → Past c at (placed at f)
past c at (Ok None) z e = read_step (drop at c) ∙ rw e
past c at (Err d) g e = read_step (drop at c) ∙ rw e
past c at (Ok (Some n)) w e =
    let size : at + record_head + n - (at + record_head) ≡ n = omega arith in
    let next : at + record_head + n ≡ at + (record_head + n) = omega arith in
    record {
      after = refl;
      order = omega arith;
      within = omega (arith, length-drop at c, w.1);
      reads = read_step (drop at c) ∙ rw (e, size, next) (simp drop-drop);
    }

pub past-here : (c : List ℕ) (at : ℕ) (found : Result (Option Found) Damaged) → found ≡ record_at c at → Past c at found
unfolding record_at
past-here c at found e = rw e (past c at (front_of (drop at c)) (begins (drop at c)) refl)

-- where no record is found, none is left
pub none_left : (c : List ℕ) (at : ℕ) (found : Result (Option Found) Damaged) → Past c at found → ((f : Found) → found ≡ Ok (Some f) → ⊥) → (read_of (drop at c)).packets ≡ []
none_left c at (Ok None) e n = ap (λ (r : Records). r.packets) e
none_left c at (Ok (Some f)) p n = absurd (n f refl)
none_left c at (Err d) e n = ap (λ (r : Records). r.packets) e

-- ---- the first record of some bytes
module _ (xs : List ℕ) where
  pub first_end : record_at xs 0 ≡ Ok None → listed (read_of xs) ≡ []
  first_end e = ap listed (past-here xs 0 (Ok None) (sym e)) ∙ listed-none

  module _ (f : Found) (e : record_at xs 0 ≡ Ok (Some f)) where
    passed : Passed xs 0 f.start f.end
    passed = past-here xs 0 (Ok (Some f)) (sym e)

    pub first_order : f.start ≤ f.end
    first_order = passed.order

    pub first_within : f.end ≤ length xs
    first_within = passed.within

    pub first_packet : listed (read_of xs) ≡ Ok (take (f.end - f.start) (drop f.start xs)) ∷ listed (read_of (take (length xs - f.end) (drop f.end xs)))
    first_packet =
        let all : take (length xs - f.end) (drop f.end xs) ≡ drop f.end xs = take_all _ _ (rw length-drop (omega arith)) in
        rw all (ap listed passed.reads ∙ listed-before _ _)

  pub first_damage : (d : Damaged) → record_at xs 0 ≡ Err d → listed (read_of xs) ≡ Err d ∷ listed (read_of [])
  first_damage d e =
      ap listed (past-here xs 0 (Err d) (sym e)) ∙ listed-ruin d ∙ ap (λ ys. Err d ∷ ys) (sym (ap listed (read_step [] ∙ rw (front-none [] refl)) ∙ listed-none))
