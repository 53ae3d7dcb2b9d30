-- All are zeros, or one isn't.
use Rattle.std.proofs.Common.{◌≡◌, ◌≢◌, ℕ, ◌<◌, Bool, true, false, List, length, sym, arith, rules}
use Rattle.std.specs.Prelude.{MatchBool}
use Rattle.std.proofs.lemmas.Iterator.{cases_from_all, YieldsList-from_slice}
use borrow.Author.Tests.{tests}
use Rattle.std.specs.List.{AllWithin, HoldsAt}
use Rattle.verdicts.proofs.Tests.{by_cases}
use Rattle.kept.specs.Edits.{all_zero}
use Rattle.kept.proofs.Exactly.{zero-tells}
use Rattle.steps.proofs.blank.zeros.Goals as goal

told : (xs : List ℕ) (r : Bool) → MatchBool r (AllWithin (λ x. x ≡ 0) xs 0 (length xs)) ((k : ℕ) × (k < length xs) × HoldsAt (λ x. x ≢ 0) xs k) → r ≡ all_zero xs
told xs true h = by_cases (all_zero xs) (λ t. sym t) (λ f. absurd ((zero-tells xs).1 f (λ i l. h i 0 (omega arith) l)))
told xs false h = by_cases (all_zero xs) (λ t. absurd (h.2 0 ((zero-tells xs).0 t h.0 h.1))) (λ f. sym f)

pub returns : goal.returns
returns c =
    told _ _ (cases_from_all _ _ _ (λ x. x ≡ 0) (λ x. x ≢ 0) c.all.ensures.ran (YieldsList-from_slice c.args.bytes.now cc) (λ x q k. search (rules, tests)) (λ x q k. search (rules, tests)))
