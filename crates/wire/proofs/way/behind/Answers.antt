-- The loop walks over the packet up to its declared end.
use Rattle.std.proofs.Common.{sym, ◌∙◌, arith}
use Rattle.verdicts.proofs.Rules.{passed-on}
use Rattle.wire.proofs.Ways.{room6, over6}
use Rattle.wire.proofs.way.behind.Goals as goal

pub slice_bounds-between-end : goal.slice_bounds-between-end
slice_bounds-between-end c = let d = c.requires in sym (room6 _ _ d.0 d.1).0

pub between-requires : goal.between-requires
between-requires c = let d = c.requires in let r = room6 _ _ d.0 d.1 in omega arith

pub returns-in_err-between : goal.returns-in_err-between
returns-in_err-between c =
    let d = c.requires in passed-on c.from_residual.ensures ∙ sym c.in_err-between.was ∙ c.between.ensures ∙ over6 _ _ d.0 d.1

pub returns : goal.returns
returns c = let d = c.requires in sym c.in_ok-between.was ∙ c.between.ensures ∙ over6 _ _ d.0 d.1
