-- One text more in each turn, and then the line's end.
use Rattle.std.proofs.Common.{◌≤◌, [], ap, arith, length}
use Rattle.lines.specs.Lines.{room_of}
use Rattle.lines.proofs.Texts.{spelling_start, spelling-room, spelling-more, spelled-room, spelled}
use Rattle.lines.proofs.spell_counts.Goals as goal

pub loop-text-init : goal.loop-text-init
loop-text-init c = spelling_start _ _

pub put_count-at-requires : goal.put_count-at-requires
put_count-at-requires c =
    let room = spelling-room c.args.counts.now c.loop-text.invariant (record { ref_ptr = (0, 0); now = [] }, 0) c.loop-text-test.true in
    omega (arith, room, ap length c.as_bytes.ensures.value)

pub loop-text-preserved : goal.loop-text-preserved
loop-text-preserved c =
    spelling-more _ c.loop-text.invariant _ c.loop-text-test.true _ _ (rw c.as_bytes.ensures.value at c.put_count-at.ensures.out_after)
    (rw c.as_bytes.ensures.value at c.put_count-at.ensures.upper_bound)

pub put_text-requires : goal.put_text-requires
put_text-requires c =
    let room : c.loop-text.at ≤ room_of c.args.counts.now = spelled-room _ c.loop-text.invariant c.loop-text-test.false in omega arith

pub returns-clause-out_after : goal.returns-clause-out_after
returns-clause-out_after c = spelled _ c.loop-text.invariant c.loop-text-test.false _ _ _ c.put_text.ensures.out_after

pub returns-clause-upper_bound : goal.returns-clause-upper_bound
returns-clause-upper_bound c =
    let room : c.loop-text.at ≤ room_of c.args.counts.now = spelled-room _ c.loop-text.invariant c.loop-text-test.false in omega arith
