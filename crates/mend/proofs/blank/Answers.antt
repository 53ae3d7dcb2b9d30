-- What stands before the field, and what follows it.
use Rattle.std.proofs.Common.{ap, ◌∙◌}
use native.Mathlib.Nat.{zero-add}
use native.Mathlib.Omega.{arith}
use Rattle.sums.specs.Fold.{fold}
use Rattle.wire.proofs.Held.{lent, known}
use Rattle.mend.proofs.Numbers.{zero-low}
use Rattle.mend.proofs.Without.{without-low}
use Rattle.mend.proofs.blank.Goals as goal

pub slice_bounds-total-count : goal.slice_bounds-total-count
slice_bounds-total-count c = let k = known (lent c.bytes-bytes.ensures c.message-m.ensures) in omega arith

pub slice_bounds-total-start : goal.slice_bounds-total-start
slice_bounds-total-start c = let k = known (lent c.bytes-bytes.ensures c.message-m.ensures) in omega arith

pub slice_bounds-total-end : goal.slice_bounds-total-end
slice_bounds-total-end c = let k = known (lent c.bytes-bytes.ensures c.message-m.ensures) in omega arith

pub overflow_add-m : goal.overflow_add-m
overflow_add-m c = let k = known (lent c.bytes-bytes.ensures c.message-m.ensures) in omega arith

pub slice_bounds-total-count-2 : goal.slice_bounds-total-count-2
slice_bounds-total-count-2 c = let k = known (lent c.bytes-bytes.ensures c.message-m.ensures) in omega arith

pub slice_bounds-total-start-2 : goal.slice_bounds-total-start-2
slice_bounds-total-start-2 c = let k = known (lent c.bytes-bytes.ensures c.message-m.ensures) in omega arith

pub slice_bounds-total-end-2 : goal.slice_bounds-total-end-2
slice_bounds-total-end-2 c = let k = known (lent c.bytes-bytes.ensures c.message-m.ensures) in omega arith

pub returns : goal.returns
returns c =
    let m = c.message-m.result in
    let k = known (lent c.bytes-bytes.ensures c.message-m.ensures) in
    rw (← c.bytes-bytes.ensures)
    (zero-low _ _
    (without-low c.bytes-bytes.result.now m.start m.field m.end (omega arith) (rw (k.start, k.field) k.facts.even) (omega arith) (omega arith) _ _
    (c.total-before.ensures ∙ ap fold (zero-add _)) c.total.ensures)
    ∙ rw (k.start, k.end, k.field))
