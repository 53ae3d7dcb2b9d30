-- The verdict's number, and the packet as the call leaves it.
use mathlib.Core.Path.{◌∙◌, ap}
use Prim.Native.Nat.{ℕ}
use Rattle.hifrostum.specs.Answers.{numbered}
use Rattle.hifrostum.proofs.hifrostum_lower_lifetime.Goals as goal

pub returns : goal.returns
returns c = ap (λ (n : ℕ). (n, c.lower_lifetime.new.packet)) c.from.ensures ∙ ap numbered c.lower_lifetime.ensures
