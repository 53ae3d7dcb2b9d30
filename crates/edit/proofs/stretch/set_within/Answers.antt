-- A refusal, or a case of the stretch's own rules.
use Prim.Native.Nat.{ℕ}
use native.Mathlib.Omega.{arith}
use mathlib.Core.List.{List}
use Rattle.wire.proofs.Held.{Known, known}
use Rattle.edit.proofs.Stretches.{too_long, empty-kept, blank-refused, stretch-set}
use Rattle.edit.proofs.stretch.set_within.Goals as goal

pub overflow_sub-room : goal.overflow_sub-room
overflow_sub-room c =
    let places : Known c.args.packet.now c.args.m = known c.requires in
    omega arith

pub returns-then-room-bytes : goal.returns-then-room-bytes
returns-then-room-bytes c =
    let P : List ℕ = c.args.packet.now in
    let N : List ℕ = c.args.bytes.now in
    let places : Known P c.args.m = known c.requires in
    let k = places in
    too_long P c.args.place N (omega arith)

pub returns-then-room-bytes-2 : goal.returns-then-room-bytes-2
returns-then-room-bytes-2 c =
    let P : List ℕ = c.args.packet.now in
    let N : List ℕ = c.args.bytes.now in
    let places : Known P c.args.m = known c.requires in
    let k = places in
    too_long P c.args.place N (omega arith)

pub returns-then-bytes-eq0 : goal.returns-then-bytes-eq0
returns-then-bytes-eq0 c =
    let P : List ℕ = c.args.packet.now in
    let N : List ℕ = c.args.bytes.now in
    let places : Known P c.args.m = known c.requires in
    let k = places in
    empty-kept P c.args.place N (omega arith) c.if-bytes-eq0.true

pub blanks-requires : goal.blanks-requires
blanks-requires c =
    let P : List ℕ = c.args.packet.now in
    let places : Known P c.args.m = known c.requires in
    let k = places in rw c.new.ensures (omega arith, omega arith)

pub returns-then-blanks : goal.returns-then-blanks
returns-then-blanks c =
    let P : List ℕ = c.args.packet.now in
    let N : List ℕ = c.args.bytes.now in
    let places : Known P c.args.m = known c.requires in
    let k = places in
    let b = c.blanks in
    blank-refused P c.args.place N (omega arith) c.if-bytes-eq0.false c.args.m.body k.body b.result (rw c.new.ensures at b.ensures) c.if-blanks.true

pub put_stretch-requires : goal.put_stretch-requires
put_stretch-requires c =
    let P : List ℕ = c.args.packet.now in
    let places : Known P c.args.m = known c.requires in
    let k = places in record { holds = c.requires; within = (omega arith, omega arith) }

pub returns : goal.returns
returns c =
    let P : List ℕ = c.args.packet.now in
    let N : List ℕ = c.args.bytes.now in
    let places : Known P c.args.m = known c.requires in
    let k = places in
    let b = c.blanks in
    stretch-set P c.args.place N (omega arith) c.if-bytes-eq0.false c.args.m.body k.body b.result (rw c.new.ensures at b.ensures) c.if-blanks.false _ c.put_stretch.ensures
