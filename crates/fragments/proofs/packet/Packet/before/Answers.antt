-- The addresses and what stands behind them, as the definition has them.
use Rattle.std.proofs.Common.{◌≡◌, refl, ap, ◌∙◌, ℕ, ◌+◌, ◌*◌, arith, List, ◌++◌, false, length}
use Rattle.sums.specs.Total.{odd, total}
use Rattle.sums.specs.Fold.{fold}
use Rattle.sums.specs.Low.{eight_at}
use Rattle.sums.proofs.Folds.{fold-sum}
use Rattle.sums.proofs.Totals.{weigh-even, low-times}
use Rattle.wire.specs.Messages.{rest_in}
use Rattle.wire.specs.declared.Family.TheVariants.{Four}
use Rattle.cover.proofs.Before.{addresses4-low, rest-total}
use Rattle.fragments.proofs.Headers.{addresses-long}
use Rattle.fragments.proofs.packet.Packet.before.Goals as goal

law : (xs : List ℕ) (n size rest a r : ℕ) → length xs ≡ 8 → rest ≡ (size + n) * 256 → a ≡ eight_at xs 0 → fold r ≡ fold (rest + a) → fold r ≡ fold (256 * total (xs ++ rest_in Four n size))
unfolding odd
law xs n size rest a r l er ea e =
    let w : total (xs ++ rest_in Four n size) ≡ total xs + (size + n) = weigh-even false xs (rest_in Four n size) (rw l) ∙ ap (λ k. total xs + k) (rest-total Four n size) in
    e ∙ fold-sum rest rest a (256 * total xs) refl (addresses4-low xs a l ea ∙ low-times xs) ∙ ap fold (omega arith)

pub returns : goal.returns
returns c =
    law _ _ _ _ _ _ (addresses-long _ c.args.self.now.is_four c.args.self.now.whole) refl c.addresses.ensures c.carry.ensures
