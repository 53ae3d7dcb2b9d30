-- Each verdict on a message, from the facts that lead to it.
use Rattle.std.proofs.Common.{if◌then◌else◌, ◌≡◌, refl, sym, ap, ◌∙◌, ℕ, ◌+◌, ◌*◌, ◌%◌, ◌≤◌, ◌<◌, arith, List, [], ◌∷◌, ◌++◌, Bool, true, false, not, length, take, get_or, length-append, lt-ltb, le-ltb, ne_eqb}
use Rattle.verdicts.specs.Rules.{◌⇒◌, verdict_by}
use Rattle.verdicts.specs.declared.Verdict.{Verdict}
use Rattle.verdicts.specs.declared.Verdict.TheVariants.{Good, Shape, Uncovered, Unsummed, MessageSum}
use Rattle.sums.specs.Total.{odd, weigh, total}
use Rattle.sums.specs.Fold.{fold, passes}
use Rattle.sums.proofs.Folds.{fold-sum}
use Rattle.sums.proofs.Totals.{weigh-even, low-times}
use Rattle.sums.proofs.Passing.{passes-low}
use Rattle.wire.specs.Table.{row_of, uncovered}
use Rattle.wire.specs.Messages.{plan_in, said_in, end_in, silent_in, shape_rules, rest_in, covered_in}
use Rattle.wire.specs.declared.Family.TheVariants.{Four}
use Rattle.fragments.specs.Fragments.{message_rules}
use Rattle.fragments.specs.Gathered.{piece_at, Filled}
use Rattle.fragments.proofs.Headers.{addresses-long}

-- a block with what stands before it, summed low byte first
pub passes-behind : (xs ys : List ℕ) (s r : ℕ) → length xs % 2 ≡ 0 → fold s ≡ fold (256 * total xs) → fold r ≡ fold (s + weigh true ys) → passes r ≡ passes (total (xs ++ ys))
unfolding odd
passes-behind xs ys s r v e f =
    let w : total (xs ++ ys) ≡ total xs + total ys = weigh-even false xs ys (ne_eqb (length xs % 2) 1 (λ z. absurd (omega arith))) in
    passes-low r (total (xs ++ ys)) (f ∙ fold-sum s (256 * total xs) (weigh true ys) (256 * total ys) e (low-times ys) ∙ ap fold (omega (arith, w)))

passes-pseudo : (n : ℕ) (xs d : List ℕ) (size s r : ℕ) → length xs ≡ 8 → length d ≡ size
    → fold s ≡ fold (256 * total (xs ++ rest_in Four n size)) → fold r ≡ fold (s + weigh true d) → passes r ≡ passes (total ((xs ++ rest_in Four n (length d)) ++ d))
passes-pseudo n xs d size s r l k e f =
    passes-behind (xs ++ rest_in Four n (length d)) d s r (omega (arith, length-append xs (rest_in Four n (length d)))) (e ∙ ap (λ i. fold (256 * total (xs ++ rest_in Four n i))) (sym k)) f

-- with the addresses of the first of those that fill a message
pub passes-first : (n : ℕ) {b places : List ℕ} {all : ℕ} → Filled b places all → (d : List ℕ) (size s r : ℕ) → length d ≡ size
    → fold s ≡ fold (256 * total ((piece_at b (get_or places 0 0)).addresses ++ rest_in Four n size)) → fold r ≡ fold (s + weigh true d)
    → passes r ≡ passes (total (((piece_at b (get_or places 0 0)).addresses ++ rest_in Four n (length d)) ++ d))
passes-first n k d size s r l e f = let a = k.arrived 0 k.some in passes-pseudo n _ d size s r (addresses-long _ a.four a.outer) l e f

module _ (n : ℕ) (addresses m : List ℕ) where
  abbrev answer : Verdict
  answer = verdict_by (message_rules n addresses m)

  pub uncovered-as : uncovered (row_of Four n) ≡ true → Uncovered ≡ answer
  unfolding message_rules shape_rules
  uncovered-as u = simp u

  module _ (k : uncovered (row_of Four n) ≡ false) where
    pub short : length m < (plan_in Four n).fixed → Shape ≡ answer
    unfolding message_rules shape_rules
    short l = simp (k, lt-ltb (length m) (plan_in Four n).fixed l)

    module _ (f : (plan_in Four n).fixed ≤ length m) where
      pub low : said_in n m < (plan_in Four n).fixed → Shape ≡ answer
      unfolding message_rules shape_rules
      low l = simp (k, le-ltb (length m) (plan_in Four n).fixed f, lt-ltb (said_in n m) (plan_in Four n).fixed l)

      module _ (g : (plan_in Four n).fixed ≤ said_in n m) where
        pub past : length m < said_in n m → Shape ≡ answer
        unfolding message_rules shape_rules
        past l = simp (k, le-ltb (length m) (plan_in Four n).fixed f, le-ltb (said_in n m) (plan_in Four n).fixed g, lt-ltb (length m) (said_in n m) l)

        module _ (h : said_in n m ≤ length m) where
          abbrev datagram : List ℕ
          datagram = take (end_in n m) m

          pub silent : silent_in Four n datagram ≡ true → Unsummed ≡ answer
          unfolding message_rules shape_rules
          silent s = simp (k, le-ltb (length m) (plan_in Four n).fixed f, le-ltb (said_in n m) (plan_in Four n).fixed g, le-ltb (length m) (said_in n m) h, s)

          pub summed-as : silent_in Four n datagram ≡ false → (r : ℕ) → passes r ≡ passes (total (covered_in Four n addresses datagram)) → (if passes r then Good else MessageSum) ≡ answer
          unfolding message_rules shape_rules
          summed-as s r e = simp (k, le-ltb (length m) (plan_in Four n).fixed f, le-ltb (said_in n m) (plan_in Four n).fixed g, le-ltb (length m) (said_in n m) h, s, e) (last (passes (total (covered_in Four n addresses datagram))))
            where
              last : (b : Bool) → (if b then Good else MessageSum) ≡ verdict_by ((not b ⇒ MessageSum) ∷ [])
              last true = refl
              last false = refl
