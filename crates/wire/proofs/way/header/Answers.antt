-- Each return is a case of `met_of` for a header that may be passed.
use mathlib.Core.Path.{sym, ◌∙◌}
use native.Mathlib.Omega.{arith}
use Rattle.wire.proofs.Meeting.{ninth, short, past, segments, passed}
use Rattle.wire.proofs.way.header.Goals as goal

pub returns-then-left-eq0 : goal.returns-then-left-eq0
returns-then-left-eq0 c = ninth _ _ _ _ _ c.requires.1 (omega arith)

pub returns-then-room-lt-UNIT : goal.returns-then-room-lt-UNIT
returns-then-room-lt-UNIT c = short _ _ _ _ _ c.requires.1 (λ z. omega arith) (omega arith)

pub returns-then-room-size : goal.returns-then-room-size
returns-then-room-size c = past _ _ _ _ _ c.requires.1 (λ z. omega arith) (omega arith) (omega arith)

pub returns-then-unfinished : goal.returns-then-unfinished
returns-then-unfinished c =
    segments _ _ _ _ _ c.requires.1 (λ z. omega arith) (omega arith) (omega arith) (sym c.unfinished.ensures ∙ c.if-unfinished.true)

pub returns : goal.returns
returns c =
    passed _ _ _ _ _ c.requires.1 (λ z. omega arith) (omega arith) (omega arith) (sym c.unfinished.ensures ∙ c.if-unfinished.false)
