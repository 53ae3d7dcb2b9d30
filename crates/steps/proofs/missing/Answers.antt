-- Of IPv4 nothing is missing; of IPv6 what is silent.
use Rattle.std.proofs.Common.{sym, ◌∙◌}
use Rattle.verdicts.proofs.Tests.{by_cases}
use Rattle.wire.specs.Inner.{silent_of}
use Rattle.wire.proofs.Held.{held-four, held-six}
use Rattle.steps.proofs.missing.Goals as goal

pub returns-in-Four : goal.returns-in-Four
returns-in-Four c =
    let f = held-four c.message.ensures c.in-Four.is in
    by_cases (silent_of c.args.packet.now) (λ t. sym (simp (t, f))) (λ t. sym (simp t))

pub returns-in-Six : goal.returns-in-Six
returns-in-Six c =
    let f = held-six c.message.ensures c.in-Six.is in
    c.silent.ensures
    ∙ by_cases (silent_of c.args.packet.now) (λ t. simp (t, f)) (λ t. simp t)
