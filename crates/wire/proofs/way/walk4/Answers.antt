-- A fragment, or the line of the protocol that the header names.
use Rattle.std.proofs.Common.{◌∙◌}
use Rattle.wire.proofs.Ways.{split4, direct4}
use Rattle.wire.proofs.way.walk4.Goals as goal

pub returns-then-h : goal.returns-then-h
returns-then-h c = let d = c.requires in split4 _ _ d.0 d.1 c.if-h.true

pub returns : goal.returns
returns c = let d = c.requires in c.listed.ensures ∙ direct4 _ _ d.0 d.1 c.if-h.false
