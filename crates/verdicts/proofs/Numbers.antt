-- Each verdict has a number of its own.
use mathlib.Core.Path.{◌≡◌, refl, sym, ap, ◌∙◌}
use Prim.Native.Nat.{ℕ}
use mathlib.Core.List.{[], ◌∷◌}
use lib.ListN.{get_or}
use Rattle.verdicts.specs.Numbers.{number_of}
use Rattle.verdicts.specs.declared.Verdict.{Verdict}
use Rattle.verdicts.specs.declared.Verdict.TheVariants.{Good, Unsummed, Cut, Version, Shape, HeaderSum, Fragment, Uncovered, Missing, MessageSum, Place, Spent, Blank, Mark, Edition, Record, Room}

-- the verdict of a number
numbered : ℕ → Verdict
numbered n =
    get_or (Good ∷ Unsummed ∷ Cut ∷ Version ∷ Shape ∷ HeaderSum ∷ Fragment ∷ Uncovered ∷ Missing ∷ MessageSum ∷ Place ∷ Spent ∷ Blank ∷ Mark ∷ Edition ∷ Record ∷ Room ∷ []) n Good

numbered_is : (v : Verdict) → numbered (number_of v) ≡ v
unfolding numbered
numbered_is = elim [
  | Good ↦ refl
  | Unsummed ↦ refl
  | Cut ↦ refl
  | Version ↦ refl
  | Shape ↦ refl
  | HeaderSum ↦ refl
  | Fragment ↦ refl
  | Uncovered ↦ refl
  | Missing ↦ refl
  | MessageSum ↦ refl
  | Place ↦ refl
  | Spent ↦ refl
  | Blank ↦ refl
  | Mark ↦ refl
  | Edition ↦ refl
  | Record ↦ refl
  | Room ↦ refl
]

pub same_number : (v w : Verdict) → number_of v ≡ number_of w → v ≡ w
same_number v w e = sym (numbered_is v) ∙ ap numbered e ∙ numbered_is w
