-- Each return is a case of the message's verdict.
use Rattle.std.proofs.Common.{refl, sym, ap, ◌∙◌, ℕ, ◌+◌, arith, List, [], true, take}
use Rattle.sums.specs.Total.{weigh}
use Rattle.sums.specs.Fold.{fold}
use Rattle.wire.specs.Table.{row_of}
use Rattle.wire.specs.Messages.{said_in}
use Rattle.fragments.specs.Fragments.{together}
use Rattle.fragments.specs.Gathered.{pieces_at, message_of}
use Rattle.fragments.proofs.Messages.{passes-behind, short, summed-as}
use Rattle.fragments.proofs.sorted.Message.icmp.Goals as goal

pub returns-then-self-lt-ICMP_HEADER : goal.returns-then-self-lt-ICMP_HEADER
unfolding message_of row_of
returns-then-self-lt-ICMP_HEADER c =
    short 1 _ _ refl (omega (arith, c.args.self.now.filled.long, c.if-self-lt-ICMP_HEADER.true))

pub returns : goal.returns
unfolding message_of row_of said_in weigh
returns c =
    let M : List ℕ = together (pieces_at c.args.self.now.parts.buffer.now c.args.self.now.parts.places.now) in
    let l = c.args.self.now.filled.long in
    c.summed.ensures ∙ summed-as 1 _ _ refl (omega (arith, c.if-self-lt-ICMP_HEADER.false)) (omega (arith, c.if-self-lt-ICMP_HEADER.false)) (omega arith) refl c.total.result
    (passes-behind [] _ 0 c.total.result refl refl (c.total.ensures ∙ ap (λ n. fold (0 + weigh true (take n M))) (sym l)))
