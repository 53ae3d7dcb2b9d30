-- The first packet says the protocol; one that isn't among the three is uncovered.
use Rattle.std.proofs.Common.{◌≡◌, ℕ, List, ap, ◌∙◌, arith, ne_eqb}
use Rattle.verdicts.specs.declared.Verdict.TheVariants.{Uncovered}
use Rattle.wire.specs.Table.{row_of}
use Rattle.fragments.specs.Fragments.{piece_of}
use Rattle.fragments.specs.Gathered.{message_of}
use Rattle.fragments.proofs.Messages.{uncovered-as}
use Rattle.fragments.proofs.sorted.Message.verdict.Goals as goal

other : (b places : List ℕ) (n : ℕ) → (n ≡ 17 → ⊥) → (n ≡ 6 → ⊥) → (n ≡ 1 → ⊥) → Uncovered ≡ message_of b places n
unfolding message_of row_of
other b places n u t i = uncovered-as n _ _ (simp (ne_eqb n 1 i, ne_eqb n 6 t, ne_eqb n 17 u))

pub returns-in_default : goal.returns-in_default
returns-in_default c =
    let b : List ℕ = c.args.self.now.parts.buffer.now in
    let places : List ℕ = c.args.self.now.parts.places.now in
    other b places c.protocol.result (omega arith) (omega arith) (omega arith)
    ∙ ap (message_of b places) (c.protocol.ensures ∙ ap (λ q. (piece_of q).protocol) c.first.ensures)
