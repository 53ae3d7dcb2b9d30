-- Each return is a case of the fresh field.
use Rattle.std.proofs.Common.{◌≡◌, ◌∙◌, refl, sym, ap, ℕ, true, false, eqb}
use native.Mathlib.Omega.{arith}
use borrow.Author.Tests.{eq-eqb, ne_eqb, eqb-true, eqb-false}
use Rattle.wire.specs.Bytes.{put_word}
use Rattle.wire.specs.Inner.{protocol_of, field_at}
use Rattle.wire.proofs.Same.{same_self}
use Rattle.wire.proofs.Held.{known}
use Rattle.cover.specs.Sums.{message_total}
use Rattle.cover.proofs.Blocks.{message-some}
use Rattle.mend.proofs.Numbers.{fresh-udp, fresh-zero, fresh-blank}
use Rattle.mend.proofs.Fresh.{fresh-is, same_f}
use Rattle.mend.proofs.Without.{plain-total}
use Rattle.mend.proofs.zero_field.Goals as goal

pub returns-then-m-eq-UDP : goal.returns-then-m-eq-UDP
returns-then-m-eq-UDP c =
    let k = known c.message-m.ensures in
    fresh-is _ true (eq-eqb (protocol_of c.args.packet.now) 17 (sym k.protocol ∙ c.if-m-eq-UDP.true)) 65535 (fresh-udp _ c.requires) refl

pub returns-then-m : goal.returns-then-m
returns-then-m c =
    let p = c.args.packet.now in
    let k = known c.message-m.ensures in
    fresh-is p false (ne_eqb (protocol_of p) 17 (λ e. c.if-m-eq-UDP.false (k.protocol ∙ e))) 0
    (fresh-zero _ c.requires (message-some k.facts (same_f k.facts (same_self p) 0) (sym k.pseudo ∙ c.if-m.true))) refl

pub returns-then-blank : goal.returns-then-blank
returns-then-blank c =
    let p = c.args.packet.now in
    let k = known c.message-m.ensures in
    let t = message_total (put_word p (field_at p) 0) in
    let zeros : c.blank.result ≡ eqb t 0 = c.blank.ensures ∙ ap (λ (n : ℕ). eqb n 0) (sym (plain-total p k.facts (sym k.pseudo ∙ c.if-m.false))) in
    fresh-is p false (ne_eqb (protocol_of p) 17 (λ e. c.if-m-eq-UDP.false (k.protocol ∙ e))) 65535
    (fresh-blank t (eqb-true t 0 (sym zeros ∙ c.if-blank.true))) refl

pub returns-else-blank : goal.returns-else-blank
returns-else-blank c =
    let p = c.args.packet.now in
    let k = known c.message-m.ensures in
    let t = message_total (put_word p (field_at p) 0) in
    let zeros : c.blank.result ≡ eqb t 0 = c.blank.ensures ∙ ap (λ (n : ℕ). eqb n 0) (sym (plain-total p k.facts (sym k.pseudo ∙ c.if-m.false))) in
    let n : t ≡ 0 → ⊥ = eqb-false t 0 (sym zeros ∙ c.if-blank.false) in
    fresh-is p false (ne_eqb (protocol_of p) 17 (λ e. c.if-m-eq-UDP.false (k.protocol ∙ e))) 0
    (fresh-zero t c.requires (omega arith)) refl
