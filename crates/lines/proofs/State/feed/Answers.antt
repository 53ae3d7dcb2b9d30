-- What is decided is spelled.
use Rattle.lines.specs.Feed.{fed_of}
use Rattle.lines.proofs.Texts.{from_first}
use Rattle.lines.proofs.State.feed.Goals as goal

pub returns-in-Some-clause-out_after : goal.returns-in-Some-clause-out_after
unfolding fed_of
returns-in-Some-clause-out_after c =
    let p = from_first _ _ _ _ c.spell.ensures.out_after in
    rw (← c.step.ensures, c.in-Some.is, p.0, p.1)
