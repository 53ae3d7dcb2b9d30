-- The header's bytes up to its end are those that its total is taken of.
use mathlib.Core.Path.{◌≡◌, ◌∙◌, sym, ap}
use Prim.Native.Nat.{ℕ, ◌*◌, ◌%◌, ◌≤◌}
use native.Mathlib.Omega.{arith}
use mathlib.Core.List.{List}
use mathlib.Core.Bool.{true}
use lib.ListN.{length, take}
use lib.Seq.{length-take-le}
use Rattle.sums.specs.Total.{total}
use Rattle.sums.specs.Fold.{fold}
use Rattle.sums.proofs.Passing.{passes-some}
use Rattle.wire.specs.Outer.{four, family_of, header_end}
use Rattle.wire.specs.declared.Header.{Header}
use Rattle.wire.proofs.Facts.{outer-facts}
use Rattle.wire.proofs.Held.{Headed, headed, is-four, is-six}
use Rattle.wire.proofs.Same.{same_self}
use Rattle.cover.specs.Sums.{header_total}
use Rattle.cover.proofs.Blocks.{header-some}
use Rattle.judge.proofs.Answers.{sums4, sums6}
use Rattle.judge.proofs.header_sums.Goals as goal

pub slice_bounds-header_total-end : goal.slice_bounds-header_total-end
slice_bounds-header_total-end c =
    let P : List ℕ = c.args.packet.now in
    let H : Header = c.args.h in
    let known : Headed P H = headed P H c.requires in
    let end : H.end ≡ header_end P = ap (λ (h : Header). h.end) known.is in
    let within : H.end ≤ length P = let k = outer-facts P known.outer in omega (arith, end) in
    let k = within in sym (length-take-le H.end P (omega arith))

pub header_total-requires : goal.header_total-requires
unfolding header_end
header_total-requires c =
    let P : List ℕ = c.args.packet.now in
    let H : Header = c.args.h in
    let known : Headed P H = headed P H c.requires in
    let end : H.end ≡ header_end P = ap (λ (h : Header). h.end) known.is in
    let family : H.family ≡ family_of P = ap (λ (h : Header). h.family) known.is in
    let within : H.end ≤ length P = let k = outer-facts P known.outer in omega (arith, end) in
    let words : four P ≡ true → H.end % 4 ≡ 0 = λ f. ap (λ (n : ℕ). n % 4) end ∙ simp f (omega arith) in
    let four4 : four P ≡ true = is-four P (sym family ∙ c.in-Four.is) in
    let k = outer-facts P known.outer in
    let w = words four4 in
    let l = length-take-le H.end P within in
    let e = end in
    (omega arith, omega arith)

pub returns-in-Four : goal.returns-in-Four
unfolding header_total
returns-in-Four c =
    let P : List ℕ = c.args.packet.now in
    let H : Header = c.args.h in
    let known : Headed P H = headed P H c.requires in
    let end : H.end ≡ header_end P = ap (λ (h : Header). h.end) known.is in
    let family : H.family ≡ family_of P = ap (λ (h : Header). h.family) known.is in
    let four4 : four P ≡ true = is-four P (sym family ∙ c.in-Four.is) in
    passes-some _ (header_total P) (header-some (outer-facts P known.outer) (same_self P))
    (c.header_total.ensures ∙ ap (λ (k : ℕ). fold (256 * total (take k P))) end)
    ∙ sums4 P four4

pub returns-in-Six : goal.returns-in-Six
returns-in-Six c =
    let P : List ℕ = c.args.packet.now in
    let H : Header = c.args.h in
    let known : Headed P H = headed P H c.requires in
    let family : H.family ≡ family_of P = ap (λ (h : Header). h.family) known.is in
    sums6 P (is-six P (sym family ∙ c.in-Six.is))
