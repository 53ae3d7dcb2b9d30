-- Each return is a case of the verdict on the first piece and those behind it.
use Rattle.std.proofs.Common.{sym, ◌∙◌}
use Rattle.fragments.proofs.Filling.{misshapen-at, unfit-at, message-at, filled-at}
use Rattle.fragments.proofs.sorted.Sorted.verdict.Goals as goal

pub returns-then-not-is_shaped : goal.returns-then-not-is_shaped
returns-then-not-is_shaped c = misshapen-at _ _ c.args.self.now.some (sym c.is_shaped.ensures ∙ c.if-not-is_shaped.true)

pub invariant_of-verdict : goal.invariant_of-verdict
invariant_of-verdict c = record {
  filled = filled-at _ _ c.args.self.now.some (sym c.is_shaped.ensures ∙ c.if-not-is_shaped.false) _ (sym c.filled.ensures ∙ c.in-Some.is) c.args.self.now.arrived;
}

pub returns-in-Some : goal.returns-in-Some
returns-in-Some c =
    c.verdict.ensures ∙ message-at _ _ c.args.self.now.some (sym c.is_shaped.ensures ∙ c.if-not-is_shaped.false) _ (sym c.filled.ensures ∙ c.in-Some.is)

pub returns-in-None : goal.returns-in-None
returns-in-None c = unfit-at _ _ c.args.self.now.some (sym c.is_shaped.ensures ∙ c.if-not-is_shaped.false) (sym c.filled.ensures ∙ c.in-None.is)
