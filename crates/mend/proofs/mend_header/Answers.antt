-- IPv4's field is set to the fresh one; IPv6 has none.
use Rattle.std.proofs.Common.{sym, ap, ◌∙◌}
use native.Mathlib.Omega.{arith}
use Rattle.wire.specs.Bytes.{put_word}
use Rattle.wire.specs.Outer.{header_field}
use Rattle.wire.proofs.Held.{held-facts, held-four, held-six}
use Rattle.mend.specs.Fresh.{fresh_header}
use Rattle.mend.specs.Mend.{mended_header}
use Rattle.mend.proofs.mend_header.Goals as goal

pub fresh_header-fresh-requires : goal.fresh_header-fresh-requires
fresh_header-fresh-requires c = rw c.new.ensures (held-four c.requires c.in-Four.is)

pub put_low-requires : goal.put_low-requires
put_low-requires c = let f = held-facts c.requires in omega arith

pub returns-in-Four : goal.returns-in-Four
unfolding mended_header
returns-in-Four c =
    c.put_low.ensures
    ∙ ap (put_word c.args.packet.now header_field) (c.fresh_header-fresh.ensures ∙ ap fresh_header c.new.ensures)
    ∙ sym (simp (held-four c.requires c.in-Four.is))

pub returns-in-Six : goal.returns-in-Six
unfolding mended_header
returns-in-Six c = sym (simp (held-six c.requires c.in-Six.is))
