-- The message stands in the packet, from its start to its end.
use Rattle.std.proofs.Common.{ap, ap₂, ◌∙◌, ◌-◌, arith}
use Rattle.wire.specs.Bytes.{part}
use Rattle.wire.specs.Inner.{message_bytes}
use Rattle.wire.proofs.Held.{known, held-own}
use Rattle.wire.proofs.packet.Packet.block.Goals as goal

pub slice_bounds-result-count : goal.slice_bounds-result-count
slice_bounds-result-count c = let k = known c.self.invariant in omega arith

pub slice_bounds-result-start : goal.slice_bounds-result-start
slice_bounds-result-start c = let k = known c.self.invariant in omega arith

pub slice_bounds-result-end : goal.slice_bounds-result-end
slice_bounds-result-end c = let k = known c.self.invariant in omega arith

pub returns : goal.returns
returns c =
    let p = c.self.inside.bytes.now in
    let k = known c.self.invariant in
    record {
      bytes = ap₂ (λ s e. part p s (e - s)) k.start k.end ∙ ap message_bytes c.self.view_is;
      whole = held-own c.self.view_is c.self.invariant;
    }
