-- The addresses and the rest are those of the definition, in each family.
use mathlib.Core.Path.{◌∙◌, refl, sym}
use Prim.Native.Nat.{◌+◌, ◌-◌, ◌*◌}
use native.Mathlib.Omega.{arith}
use mathlib.Core.Bool.{true}
use borrow.Author.Tests.{not-true, not-false}
use Rattle.sums.specs.Total.{weigh}
use Rattle.sums.proofs.Rests.{more-end}
use Rattle.wire.specs.Bytes.{part}
use Rattle.wire.proofs.Parts.{part_length}
use Rattle.wire.proofs.Held.{lent, known, held-four, held-six}
use Rattle.cover.proofs.Before.{addresses4-low, before-none, before-some}
use Rattle.cover.proofs.Lengths.{declared-small}
use Rattle.cover.proofs.pseudo_total.Goals as goal

pub returns-then-not-m : goal.returns-then-not-m
returns-then-not-m c = before-none _ (sym (known c.message-m.ensures).pseudo ∙ not-true _ c.if-not-m.true)

pub overflow_sub-rest : goal.overflow_sub-rest
overflow_sub-rest c = let k = known (lent c.bytes-bytes.ensures c.message-m.ensures) in omega arith

-- a packet is short, so no product wraps
pub overflow_cast-rest : goal.overflow_cast-rest
overflow_cast-rest c =
    let k = known (lent c.bytes-bytes.ensures c.message-m.ensures) in
    let s = declared-small c.bytes-bytes.result.now (λ i. omega (arith, c.type_inv.bytes i)) in
    let f = k.facts in
    omega arith

pub overflow_mul-rest : goal.overflow_mul-rest
overflow_mul-rest c =
    let k = known (lent c.bytes-bytes.ensures c.message-m.ensures) in
    let s = declared-small c.bytes-bytes.result.now (λ i. omega (arith, c.type_inv.bytes i)) in
    let f = k.facts in
    omega arith

pub overflow_add-rest : goal.overflow_add-rest
overflow_add-rest c =
    let k = known (lent c.bytes-bytes.ensures c.message-m.ensures) in
    let s = declared-small c.bytes-bytes.result.now (λ i. omega (arith, c.type_inv.bytes i)) in
    let f = k.facts in
    omega arith

pub slice_bounds-le8-end : goal.slice_bounds-le8-end
slice_bounds-le8-end c = let k = known (lent c.bytes-bytes.ensures c.message-m.ensures) in omega arith

pub slice_bounds-add-end : goal.slice_bounds-add-end
slice_bounds-add-end c =
    let h = lent c.bytes-bytes.ensures c.message-m.ensures in
    let k = known h in
    let s = k.facts.outer.six (held-six h c.in-Six.is) in
    omega arith

pub returns-in-Four : goal.returns-in-Four
returns-in-Four c =
    let p = c.bytes-bytes.result.now in
    let h = lent c.bytes-bytes.ensures c.message-m.ensures in
    let k = known h in
    rw (← c.bytes-bytes.ensures)
    (before-some p k.facts (sym k.pseudo ∙ not-false _ c.if-not-m.false) _ _ _ (omega arith)
    (simp (held-four h c.in-Four.is) (addresses4-low _ _ (part_length p 12 8 (omega arith)) c.le8.ensures)) c.carry.ensures)

pub returns-in-Six : goal.returns-in-Six
returns-in-Six c =
    let p = c.bytes-bytes.result.now in
    let h = lent c.bytes-bytes.ensures c.message-m.ensures in
    let k = known h in
    let xs = part p 8 32 in
    let f = held-six h c.in-Six.is in
    let x = k.facts.outer.six f in
    let l = part_length p 8 32 (omega arith) in
    let m = c.message-m.result in
    rw (← c.bytes-bytes.ensures)
    (before-some p k.facts (sym k.pseudo ∙ not-false _ c.if-not-m.false) ((m.end - m.start + m.protocol) * 256) (weigh true xs) c.add.result (omega arith) (simp f refl)
    (more-end xs c.add.result 32 (omega arith) ∙ c.add.ensures))
