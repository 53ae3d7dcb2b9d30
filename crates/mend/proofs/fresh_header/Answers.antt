-- The header with its field read as 0000.
use Rattle.std.proofs.Common.{◌≡◌, sym, ap, ◌∙◌, ◌-◌, ◌*◌, ◌%◌, true}
use native.Mathlib.Omega.{arith}
use lib.Seq.{length-take-le}
use Rattle.sums.specs.Total.{total}
use Rattle.sums.specs.Fold.{fold}
use Rattle.wire.specs.Bytes.{part, put_word}
use Rattle.wire.specs.Outer.{four, header_end, header_field}
use Rattle.wire.proofs.Parts.{part_length}
use Rattle.wire.proofs.Facts.{start-four}
use Rattle.wire.proofs.Held.{lent, known}
use Rattle.mend.proofs.Without.{without-low, header-without}
use Rattle.mend.proofs.fresh_header.Goals as goal

pub slice_bounds-before_field-end : goal.slice_bounds-before_field-end
slice_bounds-before_field-end c = let k = known (lent c.bytes-bytes.ensures c.message-m.ensures) in sym (length-take-le 10 c.bytes-bytes.result.now (omega arith))

pub before_field-before-requires : goal.before_field-before-requires
before_field-before-requires c = let k = known (lent c.bytes-bytes.ensures c.message-m.ensures) in length-take-le 10 c.bytes-bytes.result.now (omega arith)

pub slice_bounds-after_field-count : goal.slice_bounds-after_field-count
slice_bounds-after_field-count c = let k = known (lent c.bytes-bytes.ensures c.message-m.ensures) in omega arith

pub slice_bounds-after_field-start : goal.slice_bounds-after_field-start
slice_bounds-after_field-start c = let k = known (lent c.bytes-bytes.ensures c.message-m.ensures) in omega arith

pub slice_bounds-after_field-end : goal.slice_bounds-after_field-end
slice_bounds-after_field-end c = let k = known (lent c.bytes-bytes.ensures c.message-m.ensures) in omega arith

pub after_field-requires : goal.after_field-requires
unfolding header_end
after_field-requires c =
    let P = c.bytes-bytes.result.now in
    let f : four P ≡ true = rw c.bytes-bytes.ensures c.requires in
    let k = known (lent c.bytes-bytes.ensures c.message-m.ensures) in
    let end : c.message-m.result.start ≡ header_end P = k.start ∙ start-four P f in
    let words : header_end P % 4 ≡ 0 = simp f (omega arith) in
    let l = part_length P 12 (c.message-m.result.start - 12) (omega arith) in
    (omega (arith, end), omega (arith, end, words))

pub returns : goal.returns
returns c =
    let P = c.bytes-bytes.result.now in
    let f : four P ≡ true = rw c.bytes-bytes.ensures c.requires in
    let k = known (lent c.bytes-bytes.ensures c.message-m.ensures) in
    let end : c.message-m.result.start ≡ header_end P = k.start ∙ start-four P f in
    let r = c.field_low.ensures in
    rw (← c.bytes-bytes.ensures)
    (header-without P k.facts _ _
    (without-low P 0 header_field c.message-m.result.start (omega arith) (omega arith) (omega arith) (omega arith) _ _
    c.before_field-before.ensures c.after_field.ensures
    ∙ ap (λ n. fold (256 * total (part (put_word P header_field 0) 0 (n - 0)))) end) r.0 r.1)
