-- A refusal, or the new prefix with the word that keeps the class.
use Rattle.std.proofs.Common.{ap, ◌∙◌, arith, rules}
use Rattle.std.proofs.Math.Seq.{take_all}
use Rattle.wire.specs.Bytes.{put}
use Rattle.prefix.proofs.Answers.{Sized, sized, other-expected, other-new, other-prefix, full, exchanged}
use Rattle.prefix.proofs.exchange.Goals as goal

pub returns-then-expected-ne-PREFIX : goal.returns-then-expected-ne-PREFIX
returns-then-expected-ne-PREFIX c = other-expected _ _ _ _ c.if-expected-ne-PREFIX.true

pub returns-then-new-ne-PREFIX : goal.returns-then-new-ne-PREFIX
returns-then-new-ne-PREFIX c = other-new _ _ _ _ c.if-expected-ne-PREFIX.false c.if-new-ne-PREFIX.true

pub returns-then-address-le6 : goal.returns-then-address-le6
returns-then-address-le6 c =
    let a = c.args in
    let k : Sized a.packet.now a.at a.expected.now a.new.now c.le8-address.result c.le6.result =
    sized (λ i. search rules) (λ i. omega (arith, c.type_inv.expected i)) c.requires c.if-expected-ne-PREFIX.false c.if-new-ne-PREFIX.false c.le8-address.ensures c.le6.ensures
    in
    other-prefix k c.if-address-le6.true

pub returns-then-address-eq65535 : goal.returns-then-address-eq65535
returns-then-address-eq65535 c =
    let a = c.args in
    let k : Sized a.packet.now a.at a.expected.now a.new.now c.le8-address.result c.le6.result =
    sized (λ i. search rules) (λ i. omega (arith, c.type_inv.expected i)) c.requires c.if-expected-ne-PREFIX.false c.if-new-ne-PREFIX.false c.le8-address.ensures c.le6.ensures
    in
    full k c.if-address-le6.false c.if-address-eq65535.true

pub returns : goal.returns
returns c =
    let a = c.args in
    let k : Sized a.packet.now a.at a.expected.now a.new.now c.le8-address.result c.le6.result =
    sized (λ i. search rules) (λ i. omega (arith, c.type_inv.expected i)) c.requires c.if-expected-ne-PREFIX.false c.if-new-ne-PREFIX.false c.le8-address.ensures c.le6.ensures
    in
    exchanged k c.if-address-le6.false c.if-address-eq65535.false _ _ c.le6-2.ensures c.between-word.result.reduced c.between-word.ensures
    _ _ (c.copy.ensures ∙ ap (put a.packet.now a.at) (take_all 6 a.new.now (omega (arith, c.if-new-ne-PREFIX.false)))) c.put_low.ensures
