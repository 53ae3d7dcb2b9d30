-- A refusal of the packet's outer shape, or what `lower` leaves.
use Rattle.std.proofs.Common.{sym, ap, ◌∙◌, arith}
use Rattle.wire.specs.declared.Header.{Header}
use Rattle.wire.proofs.Facts.{outer-facts}
use Rattle.wire.proofs.Held.{after-outer, headed}
use Rattle.kept.specs.Edits.{lifetime_of}
use Rattle.edit.proofs.lower_lifetime.Goals as goal

pub lower-requires-clause-long : goal.lower-requires-clause-long
lower-requires-clause-long c = let k = outer-facts _ (headed _ _ (sym c.in-Ok.is ∙ c.outer.ensures)).outer in omega arith

pub lower-requires-clause-family : goal.lower-requires-clause-family
lower-requires-clause-family c = ap (λ (h : Header). h.family) (headed _ _ (sym c.in-Ok.is ∙ c.outer.ensures)).is

pub returns-in-Err : goal.returns-in-Err
unfolding lifetime_of
returns-in-Err c = sym (after-outer _ _ _ _ ∙ rw (← c.outer.ensures, c.in-Err.is))

pub returns-in-Ok : goal.returns-in-Ok
unfolding lifetime_of
returns-in-Ok c = c.lower.ensures ∙ sym (after-outer _ _ _ _ ∙ rw (← c.outer.ensures, c.in-Ok.is))
