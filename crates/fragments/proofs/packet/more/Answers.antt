-- A mask of one bit.
use Rattle.std.proofs.Common.{◌≡◌, ap, ◌∙◌, ℕ, ◌*◌, ◌/◌, ◌%◌, arith, not, eqb, eqb-true}
use lib.Bits.{and_high}
use borrow.Author.Tests.{eqb-false}
use Rattle.verdicts.proofs.Tests.{by_cases}
use Rattle.fragments.proofs.packet.more.Goals as goal

bit : (f : ℕ) → not (eqb (f % 2 * 8192) 0) ≡ eqb (f % 2) 1
bit f =
    by_cases (eqb (f % 2) 1)
    (λ t. let e = eqb-true (f % 2) 1 t in rw e)
    (λ t. let n = eqb-false (f % 2) 1 t in let z : f % 2 ≡ 0 = omega arith in rw z)

pub returns : goal.returns
returns c = let w = c.args.w in ap (λ k. not (eqb k 0)) (and_high w 1 13) ∙ bit (w / 8192)
