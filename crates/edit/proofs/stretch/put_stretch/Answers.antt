-- The new bytes are written, and the field is that which the definition gives.
use native.Mathlib.Omega.{arith}
use Rattle.wire.proofs.Held.{Known, known}
use Rattle.edit.proofs.Made.{stretch-made}
use Rattle.edit.proofs.stretch.put_stretch.Goals as goal

pub overflow_add-end : goal.overflow_add-end
overflow_add-end c =
    let places : Known c.args.packet.now c.args.m = known c.requires.holds in
    let k = places in let r = c.requires.within in omega arith

pub overflow_sub-odd : goal.overflow_sub-odd
overflow_sub-odd c =
    let places : Known c.args.packet.now c.args.m = known c.requires.holds in
    let k = places in let r = c.requires.within in omega arith

pub slice_bounds-of-end : goal.slice_bounds-of-end
slice_bounds-of-end c =
    let places : Known c.args.packet.now c.args.m = known c.requires.holds in
    let k = places in let r = c.requires.within in omega arith

pub renewed-message-requires : goal.renewed-message-requires
renewed-message-requires c =
    let places : Known c.args.packet.now c.args.m = known c.requires.holds in
    let k = places in omega arith

pub silent-quiet-requires : goal.silent-quiet-requires
silent-quiet-requires c =
    let places : Known c.args.packet.now c.args.m = known c.requires.holds in
    let k = places in omega arith

pub put_bytes-requires : goal.put_bytes-requires
put_bytes-requires c =
    let places : Known c.args.packet.now c.args.m = known c.requires.holds in
    let k = places in
    let r = c.requires.within in
    omega arith

pub put_message-requires : goal.put_message-requires
put_message-requires c =
    let places : Known c.args.packet.now c.args.m = known c.requires.holds in
    let k = places in
    omega (arith, c.put_bytes.auto.s)

pub returns : goal.returns
returns c =
    stretch-made c.requires.holds c.args.at c.args.bytes.now _ _ _ c.of.ensures c.aligned-d.ensures
    c.renewed-message.ensures _ c.silent-quiet.ensures _ _ c.put_bytes.ensures c.put_message.ensures
