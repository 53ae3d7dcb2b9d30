-- What stands before the message in the covered block: an even number of bytes, and its total.
use mathlib.Core.Path.{◌≡◌, refl, sym, ap, ◌∙◌}
use Prim.Native.Nat.{ℕ, ◌+◌, ◌*◌}
use native.Mathlib.Nat.{zero-add}
use native.Mathlib.Omega.{arith}
use mathlib.Core.List.{List}
use mathlib.Core.Bool.{true, false}
use lib.ListN.{length}
use Rattle.verdicts.proofs.Tests.{by_cases}
use Rattle.sums.specs.Total.{odd, weigh, total}
use Rattle.sums.specs.Fold.{fold}
use Rattle.sums.specs.Low.{eight_at}
use Rattle.sums.proofs.Folds.{fold-sum}
use Rattle.sums.proofs.Totals.{even-append, weigh-even, low-times}
use Rattle.sums.proofs.Rests.{more-eight, more-end}
use Rattle.wire.specs.Bytes.{part}
use Rattle.wire.specs.Outer.{four, family_of, addresses_at, addresses_length}
use Rattle.wire.specs.Messages.{plan_in, rest_in, before_in}
use Rattle.wire.specs.Inner.{protocol_of, length_of, message_bytes, pseudo, addresses_of, before_of, covered_of}
use Rattle.wire.specs.declared.Family.{Family}
use Rattle.wire.specs.declared.Family.TheVariants.{Four, Six}
use Rattle.wire.proofs.Parts.{part_length}
use Rattle.wire.proofs.Facts.{OuterFacts, Facts}
use Rattle.wire.proofs.Same.{same_self, covered-at}
use Rattle.cover.specs.Sums.{message_total}

-- in both families the bytes behind the addresses come to the message's length and the protocol
pub rest-total : (family : Family) (n size : ℕ) → total (rest_in family n size) ≡ size + n
unfolding weigh
rest-total Four n size = omega arith
rest-total Six n size = omega arith

pub rest-even : (family : Family) (n size : ℕ) → odd (length (rest_in family n size)) ≡ false
unfolding odd
rest-even Four n size = refl
rest-even Six n size = refl

-- so do the addresses, in a packet that has them
pub addresses-even : (p q : List ℕ) → OuterFacts p → length q ≡ length p → odd (length (part q (addresses_at p) (addresses_length p))) ≡ false
unfolding odd
addresses-even p q k e =
    rw (part_length q (addresses_at p) (addresses_length p) (omega arith)) (by_cases (four p) (λ f. rw f) (λ f. rw f))

pub before-even : (family : Family) (n : ℕ) (addresses : List ℕ) (size : ℕ) → odd (length addresses) ≡ false → odd (length (before_in family n addresses size)) ≡ false
unfolding odd
before-even family n addresses size e =
    by_cases (plan_in family n).pseudo
    (λ t. simp t (even-append addresses (rest_in family n size) e (rest-even family n size)))
    (λ t. simp t)

-- ---- their totals low byte first, as code adds them up
-- the addresses: of IPv4 one number
pub addresses4-low : (xs : List ℕ) (v : ℕ) → length xs ≡ 8 → v ≡ eight_at xs 0 → fold v ≡ fold (weigh true xs)
addresses4-low xs v h e =
    more-end xs v 8 (omega arith) ∙ more-eight xs 0 v v 0 8 (omega arith) refl e (ap fold (sym (zero-add v))) ∙ ap fold (zero-add (weigh true xs))

module _ (p : List ℕ) where
  pub before-none : pseudo p ≡ false → fold 0 ≡ fold (256 * total (before_of p))
  unfolding weigh pseudo
  before-none t = simp t

  module _ (k : Facts p) where
    -- that of the rest added to the addresses'
    pub before-some : pseudo p ≡ true → (rest a r : ℕ) → rest ≡ (length_of p + protocol_of p) * 256 → fold a ≡ fold (weigh true (addresses_of p)) → fold r ≡ fold (rest + a)
        → fold r ≡ fold (256 * total (before_of p))
    unfolding pseudo
    before-some t rest a r er ea e =
        let behind = rest_in (family_of p) (protocol_of p) (length_of p) in
        let w : total (before_of p) ≡ total (addresses_of p) + (length_of p + protocol_of p) =
        simp t (weigh-even false (addresses_of p) behind (addresses-even p p k.outer refl) ∙ ap (λ n. total (addresses_of p) + n) (rest-total (family_of p) (protocol_of p) (length_of p))) in
        e ∙ fold-sum rest rest a (256 * total (addresses_of p)) refl (ea ∙ low-times (addresses_of p)) ∙ ap fold (omega arith)

    -- and its own added to the message's, as that is lent: the covered block's
    pub message-low : {m : List ℕ} (b r : ℕ) → m ≡ message_bytes p → fold b ≡ fold (256 * total (before_of p)) → fold r ≡ fold (b + weigh true m)
        → fold r ≡ fold (256 * message_total p)
    unfolding message_total
    message-low b r em eb er =
        let w : total (covered_of p) ≡ total (before_of p) + total (message_bytes p) =
        ap total (covered-at (same_self p) k)
        ∙ weigh-even false (before_of p) (message_bytes p) (before-even (family_of p) (protocol_of p) (addresses_of p) (length_of p) (addresses-even p p k.outer refl)) in
        er ∙ ap (λ m. fold (b + weigh true m)) em ∙ fold-sum b (256 * total (before_of p)) (weigh true (message_bytes p)) (256 * total (message_bytes p)) eb (low-times (message_bytes p)) ∙ ap fold (omega arith)
