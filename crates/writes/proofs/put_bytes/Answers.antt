-- The last 32 bytes are put, and then the first i.
use Rattle.std.proofs.Common.{◌+◌, ◌-◌, arith, length, refl}
use Rattle.wire.specs.Bytes.{put}
use Rattle.wire.proofs.Writes.{put_next, put-ends}
use Rattle.writes.proofs.put_bytes.Goals as goal

pub loop-i-init : goal.loop-i-init
unfolding put
loop-i-init c = (refl, omega arith)

pub loop-i-preserved : goal.loop-i-preserved
loop-i-preserved c =
    let a = c.args in
    let i = c.loop-i.i in
    let e = c.copy-in-loop-i.ensures in
    let n = put_next c.copy.new.s a.at a.new.now i 32 (omega arith) in
    (cc n, omega arith)

pub returns-else-new-le64 : goal.returns-else-new-le64
returns-else-new-le64 c =
    let a = c.args in
    let e = c.copy.ensures in
    let new = a.new.now in
    cc (put-ends a.s.now a.at new c.loop-i.i (length new - 32) 32 (omega arith) (omega arith) (omega arith) (omega arith))

-- the turn in which the end is reached
pub returns-else-new-le64-2 : goal.returns-else-new-le64-2
returns-else-new-le64-2 c =
    let a = c.args in
    let i = c.loop-i.i in
    let new = a.new.now in
    let e = c.copy.ensures in
    let f = c.copy-in-loop-i.ensures in
    let n = put_next c.copy.new.s a.at new i 32 (omega arith) in
    cc (put-ends a.s.now a.at new (i + 32) (length new - 32) 32 (omega arith) (omega arith) (omega arith) (omega arith))
