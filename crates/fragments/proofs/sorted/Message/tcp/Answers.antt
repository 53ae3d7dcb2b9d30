-- Each return is a case of the message's verdict.
use Rattle.std.proofs.Common.{refl, sym, ap, ◌∙◌, ℕ, ◌+◌, ◌*◌, ◌/◌, arith, List, true, length, take}
use lib.Seq.{take-length}
use Rattle.sums.specs.Total.{weigh}
use Rattle.sums.specs.Fold.{fold}
use Rattle.wire.specs.Table.{row_of}
use Rattle.wire.specs.Messages.{said_in}
use Rattle.fragments.specs.Fragments.{together}
use Rattle.fragments.specs.Gathered.{pieces_at, message_of}
use Rattle.fragments.proofs.Messages.{passes-first, short, low, past, summed-as}
use Rattle.fragments.proofs.sorted.Message.tcp.Goals as goal

pub returns-then-self-lt-TCP_HEADER : goal.returns-then-self-lt-TCP_HEADER
unfolding message_of row_of
returns-then-self-lt-TCP_HEADER c =
    short 6 _ _ refl (omega (arith, c.args.self.now.filled.long, c.if-self-lt-TCP_HEADER.true))

pub returns-then-body-lt-TCP_HEADER : goal.returns-then-body-lt-TCP_HEADER
unfolding message_of row_of said_in
returns-then-body-lt-TCP_HEADER c =
    let body = ap (λ (x : ℕ). x / 16 * 4) c.byte.ensures in
    low 6 _ _ refl (omega (arith, c.args.self.now.filled.long, c.if-self-lt-TCP_HEADER.false)) (omega (arith, body, c.if-body-lt-TCP_HEADER.true))

pub returns-then-self-body : goal.returns-then-self-body
unfolding message_of row_of said_in
returns-then-self-body c =
    let b = ap (λ (x : ℕ). x / 16 * 4) c.byte.ensures in
    past 6 _ _ refl (omega (arith, c.args.self.now.filled.long, c.if-self-lt-TCP_HEADER.false)) (omega (arith, b, c.if-body-lt-TCP_HEADER.false)) (omega (arith, b, c.args.self.now.filled.long, c.if-self-body.true))

pub returns : goal.returns
unfolding message_of row_of said_in
returns c =
    let M : List ℕ = together (pieces_at c.args.self.now.parts.buffer.now c.args.self.now.parts.places.now) in
    let b = ap (λ (x : ℕ). x / 16 * 4) c.byte.ensures in
    let l = c.args.self.now.filled.long in
    c.summed.ensures
    ∙ summed-as 6 _ _ refl (omega (arith, l, c.if-self-lt-TCP_HEADER.false)) (omega (arith, b, c.if-body-lt-TCP_HEADER.false)) (omega (arith, b, l, c.if-self-body.false)) refl c.total.result
    (passes-first 6 c.args.self.now.filled _ c.args.self.now.size c.before-seed.result c.total.result (ap length (take-length M) ∙ l) c.before-seed.ensures (c.total.ensures ∙ ap (λ n. fold (c.before-seed.result + weigh true (take n M))) (sym l)))
