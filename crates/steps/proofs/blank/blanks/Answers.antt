-- Each part's test, in the order in which `blank-read` has them.
use Rattle.std.proofs.Common.{refl, ap, ◌∙◌, length, arith}
use borrow.Author.Tests.{ne_eqb}
use Rattle.wire.specs.Inner.{protocol_of}
use Rattle.wire.proofs.Held.{known}
use Rattle.steps.proofs.AllZero.{blank-read}
use Rattle.steps.proofs.blank.blanks.Goals as goal

pub returns-then-m-ne-ICMP : goal.returns-then-m-ne-ICMP
returns-then-m-ne-ICMP c =
    simp (ne_eqb (protocol_of c.args.packet.now) 1 (λ e. c.if-m-ne-ICMP.true ((known c.message-m.ensures).protocol ∙ e)))

pub slice_bounds-zeros-count : goal.slice_bounds-zeros-count
slice_bounds-zeros-count c = let k = known c.message-m.ensures in let l = ap length c.bytes-bytes.ensures in omega arith

pub slice_bounds-zeros-start : goal.slice_bounds-zeros-start
slice_bounds-zeros-start c = let k = known c.message-m.ensures in let l = ap length c.bytes-bytes.ensures in omega arith

pub slice_bounds-zeros-end : goal.slice_bounds-zeros-end
slice_bounds-zeros-end c = let k = known c.message-m.ensures in let l = ap length c.bytes-bytes.ensures in omega arith

pub overflow_add-m : goal.overflow_add-m
overflow_add-m c = let k = known c.message-m.ensures in let l = ap length c.bytes-bytes.ensures in omega arith

pub slice_bounds-zeros-count-2 : goal.slice_bounds-zeros-count-2
slice_bounds-zeros-count-2 c = let k = known c.message-m.ensures in let l = ap length c.bytes-bytes.ensures in omega arith

pub slice_bounds-zeros-start-2 : goal.slice_bounds-zeros-start-2
slice_bounds-zeros-start-2 c = let k = known c.message-m.ensures in let l = ap length c.bytes-bytes.ensures in omega arith

pub slice_bounds-zeros-end-2 : goal.slice_bounds-zeros-end-2
slice_bounds-zeros-end-2 c = let k = known c.message-m.ensures in let l = ap length c.bytes-bytes.ensures in omega arith

pub overflow_add-next : goal.overflow_add-next
overflow_add-next c = let k = known c.message-m.ensures in let l = ap length c.bytes-bytes.ensures in omega arith

pub slice_bounds-zeros-count-3 : goal.slice_bounds-zeros-count-3
slice_bounds-zeros-count-3 c = let k = known c.message-m.ensures in let l = ap length c.bytes-bytes.ensures in omega arith

pub slice_bounds-zeros-start-3 : goal.slice_bounds-zeros-start-3
slice_bounds-zeros-start-3 c = let k = known c.message-m.ensures in let l = ap length c.bytes-bytes.ensures in omega arith

pub slice_bounds-zeros-end-3 : goal.slice_bounds-zeros-end-3
slice_bounds-zeros-end-3 c = let k = known c.message-m.ensures in let l = ap length c.bytes-bytes.ensures in omega arith

pub slice_bounds-zeros-end-4 : goal.slice_bounds-zeros-end-4
slice_bounds-zeros-end-4 c = let k = known c.message-m.ensures in let l = ap length c.bytes-bytes.ensures in omega arith

pub returns-then-not-zeros : goal.returns-then-not-zeros
returns-then-not-zeros c =
    rw c.if-not-zeros.true at (blank-read c.message-m.ensures _ _ c.requires.0 c.requires.1 c.bytes-bytes.ensures c.if-m-ne-ICMP.false _ _ _ _ _ c.zeros.ensures refl refl refl refl)

pub returns-then-not-zeros-2 : goal.returns-then-not-zeros-2
returns-then-not-zeros-2 c =
    rw (c.if-not-zeros.false, c.if-not-zeros-2.true) at (blank-read c.message-m.ensures _ _ c.requires.0 c.requires.1 c.bytes-bytes.ensures c.if-m-ne-ICMP.false _ _ _ _ _ c.zeros.ensures c.zeros-2.ensures refl refl refl)

pub returns-then-not-zeros-3 : goal.returns-then-not-zeros-3
returns-then-not-zeros-3 c =
    rw (c.if-not-zeros.false, c.if-not-zeros-2.false, c.if-not-zeros-3.true) at
    (blank-read c.message-m.ensures _ _ c.requires.0 c.requires.1 c.bytes-bytes.ensures c.if-m-ne-ICMP.false _ _ _ _ _ c.zeros.ensures c.zeros-2.ensures c.zeros-3.ensures refl refl)

pub returns-then-zeros : goal.returns-then-zeros
returns-then-zeros c =
    rw (c.if-not-zeros.false, c.if-not-zeros-2.false, c.if-not-zeros-3.false, c.if-zeros.true) at
    (blank-read c.message-m.ensures _ _ c.requires.0 c.requires.1 c.bytes-bytes.ensures c.if-m-ne-ICMP.false _ _ _ _ _ c.zeros.ensures c.zeros-2.ensures c.zeros-3.ensures c.zeros-4.ensures refl)

pub returns : goal.returns
returns c =
    rw (c.if-not-zeros.false, c.if-not-zeros-2.false, c.if-not-zeros-3.false, c.if-zeros.false) at
    (blank-read c.message-m.ensures _ _ c.requires.0 c.requires.1 c.bytes-bytes.ensures c.if-m-ne-ICMP.false _ _ _ _ _ c.zeros.ensures c.zeros-2.ensures c.zeros-3.ensures c.zeros-4.ensures c.zeros-5.ensures)
