-- The address is written, and the fields are those that the definition gives.
use Rattle.std.proofs.Common.{◌≡◌, ◌+◌, ◌-◌, ◌∙◌, refl, sym, ap, length, arith}
use mathlib.Core.Bool.{true≢false}
use Rattle.wire.proofs.Held.{known}
use Rattle.wire.specs.Bytes.{put}
use Rattle.edit.proofs.Sides.{address-set}
use Rattle.edit.proofs.address.set.Goals as goal

pub slice_bounds-fours-end : goal.slice_bounds-fours-end
slice_bounds-fours-end g c = let k = (known c.requires.holds).facts.outer in let r = c.requires.place in omega arith

pub renewed-message-requires : goal.renewed-message-requires
renewed-message-requires g c = let k = known c.requires.holds in omega arith

pub silent-quiet-requires : goal.silent-quiet-requires
silent-quiet-requires g c = let k = known c.requires.holds in omega arith

pub put_message-requires : goal.put_message-requires
put_message-requires g c = let k = known c.requires.holds in omega (arith, c.put.auto.s, c.put_header.auto.packet)

pub returns-then-m : goal.returns-then-m
returns-then-m g c =
    let a = c.args in
    let k = c.in-Some.ensures.cases in
    let n : a.at + g.row.N - a.at ≡ length a.address.now = let l = k.long in omega arith in
    address-set a.packet.now a.at a.address.now (k.long ∙ c.requires.size.0) (rw k.long c.requires.place) c.requires.holds
    _ _ _ (rw n at c.fours.ensures) (rw k.same at c.fours-2.ensures) c.between-d.ensures
    _ c.renewed-header.ensures _ _ (c.put.ensures ∙ ap (put a.packet.now a.at) k.same) c.put_header.ensures
    _ _ c.silent-quiet.ensures c.renewed-message.ensures _ (λ t. c.put_message.ensures) (λ f. absurd (true≢false (sym c.if-m.true ∙ f)))

pub returns-else-m : goal.returns-else-m
returns-else-m g c =
    let a = c.args in
    let k = c.in-Some.ensures.cases in
    let n : a.at + g.row.N - a.at ≡ length a.address.now = let l = k.long in omega arith in
    address-set a.packet.now a.at a.address.now (k.long ∙ c.requires.size.0) (rw k.long c.requires.place) c.requires.holds
    _ _ _ (rw n at c.fours.ensures) (rw k.same at c.fours-2.ensures) c.between-d.ensures
    _ c.renewed-header.ensures _ _ (c.put.ensures ∙ ap (put a.packet.now a.at) k.same) c.put_header.ensures
    _ _ c.silent-quiet.ensures c.renewed-message.ensures _ (λ t. absurd (true≢false (sym t ∙ c.if-m.false))) (λ f. refl)
