-- Each return is a case of the message's verdict.
use Rattle.std.proofs.Common.{◌≡◌, refl, sym, ap, ◌∙◌, ℕ, ◌+◌, ◌≤◌, arith, List, true, take, length-take-le, eq-eqb, ne_eqb}
use Rattle.sums.specs.Total.{weigh}
use Rattle.sums.specs.Fold.{fold}
use Rattle.wire.specs.Bytes.{word_at}
use Rattle.wire.specs.Table.{row_of}
use Rattle.wire.specs.Messages.{said_in}
use Rattle.wire.proofs.Parts.{part-word}
use Rattle.fragments.specs.Fragments.{together}
use Rattle.fragments.specs.Gathered.{pieces_at, message_of}
use Rattle.fragments.proofs.Messages.{passes-first, short, low, past, silent, summed-as}
use Rattle.fragments.proofs.sorted.Message.udp.Goals as goal

-- the field of a datagram that is not too short is the message's
field : (m : List ℕ) (own : ℕ) → 8 ≤ own → word_at (take own m) 6 ≡ word_at m 6
field m own l = part-word m 0 own 6 (omega arith)

pub returns-then-self-lt-UDP_HEADER : goal.returns-then-self-lt-UDP_HEADER
unfolding message_of row_of
returns-then-self-lt-UDP_HEADER c =
    short 17 _ _ refl (omega (arith, c.args.self.now.filled.long, c.if-self-lt-UDP_HEADER.true))

pub returns-then-own-lt-UDP_HEADER : goal.returns-then-own-lt-UDP_HEADER
unfolding message_of row_of said_in
returns-then-own-lt-UDP_HEADER c =
    low 17 _ _ refl (omega (arith, c.args.self.now.filled.long, c.if-self-lt-UDP_HEADER.false)) (omega (arith, c.word-own.ensures, c.if-own-lt-UDP_HEADER.true))

pub returns-then-self-own : goal.returns-then-self-own
unfolding message_of row_of said_in
returns-then-self-own c =
    let b = c.word-own.ensures in
    past 17 _ _ refl (omega (arith, c.args.self.now.filled.long, c.if-self-lt-UDP_HEADER.false)) (omega (arith, b, c.if-own-lt-UDP_HEADER.false)) (omega (arith, b, c.args.self.now.filled.long, c.if-self-own.true))

pub returns-then-word-eq0 : goal.returns-then-word-eq0
unfolding message_of row_of said_in
returns-then-word-eq0 c =
    let M : List ℕ = together (pieces_at c.args.self.now.parts.buffer.now c.args.self.now.parts.places.now) in
    let b = c.word-own.ensures in
    silent 17 _ _ refl (omega (arith, c.args.self.now.filled.long, c.if-self-lt-UDP_HEADER.false)) (omega (arith, b, c.if-own-lt-UDP_HEADER.false)) (omega (arith, b, c.args.self.now.filled.long, c.if-self-own.false))
    (eq-eqb _ 0 (field M (word_at M 4) (omega (arith, b, c.if-own-lt-UDP_HEADER.false)) ∙ sym c.word.ensures ∙ c.if-word-eq0.true))

pub returns : goal.returns
unfolding message_of row_of said_in
returns c =
    let M : List ℕ = together (pieces_at c.args.self.now.parts.buffer.now c.args.self.now.parts.places.now) in
    let b = c.word-own.ensures in
    let l = c.args.self.now.filled.long in
    c.summed.ensures
    ∙ summed-as 17 _ _ refl (omega (arith, l, c.if-self-lt-UDP_HEADER.false)) (omega (arith, b, c.if-own-lt-UDP_HEADER.false)) (omega (arith, b, l, c.if-self-own.false))
    (ne_eqb _ 0 (λ z. c.if-word-eq0.false (c.word.ensures ∙ sym (field M (word_at M 4) (omega (arith, b, c.if-own-lt-UDP_HEADER.false))) ∙ z))) c.total.result
    (passes-first 17 c.args.self.now.filled _ c.word-own.result c.before-seed.result c.total.result (length-take-le (word_at M 4) M (omega (arith, b, l, c.if-self-own.false)) ∙ sym b) c.before-seed.ensures (c.total.ensures ∙ ap (λ n. fold (c.before-seed.result + weigh true (take n M))) b))
