-- The last bytes and then the first, which reach to them, are all.
use Rattle.std.proofs.Common.{arith, length, ◌-◌}
use Rattle.wire.proofs.Writes.{put-ends}
use Rattle.writes.proofs.ends.Goals as goal

pub returns : goal.returns
returns g c =
    let a = c.args in
    let first = c.copy.ensures in
    let second = c.copy-2.ensures in
    let n = length a.new.now in
    cc (put-ends a.s.now a.at a.new.now g.row.N (n - g.row.N) g.row.N (omega arith) (omega arith) (omega arith) (omega arith))
