-- Where the words and the protocols are equal, the addresses decide.
use Rattle.std.proofs.Common.{◌≡◌, ap₂, sym, ◌∙◌, eqb, eq-eqb, eqb-true}
use Rattle.fragments.specs.Fragments.{Piece, piece_of, equal, alike}
use Rattle.fragments.proofs.Headers.{addresses-long, addresses-alike}
use Rattle.fragments.proofs.packet.Packet.is_alike.Goals as goal
use Rattle.fragments.proofs.packet.Packet.is_alike.Goals.{then-identification, else-identification}

decided : (p q : Piece) → p.identification ≡ q.identification → p.protocol ≡ q.protocol → equal p.addresses q.addresses ≡ alike p q
unfolding alike
decided p q i e = simp (eq-eqb p.identification q.identification i, eq-eqb p.protocol q.protocol e)

pub returns-then-protocol : goal.returns-then-protocol
returns-then-protocol c =
    let p = c.args.self.now in
    let q = c.args.other.now in
    ap₂ eqb c.addresses.ensures c.addresses-then-protocol.ensures
    ∙ addresses-alike p.bytes.now q.bytes.now p.in_range q.in_range (addresses-long _ p.is_four p.whole) (addresses-long _ q.is_four q.whole)
    ∙ elim c.if-identification.branch [
      | then-identification w ↦ decided (piece_of p.bytes.now) (piece_of q.bytes.now)
          (sym c.identification.ensures ∙ w.if-identification.true ∙ c.identification-2.ensures)
          (sym w.protocol.ensures ∙ eqb-true _ _ (sym w.value-is ∙ c.if-protocol.true) ∙ w.protocol-then-identification.ensures)
      | else-identification w ↦ absurd (w.if-identification.false (eqb-true _ _ (sym w.value-is ∙ c.if-protocol.true)))
    ]
