-- What the address edit leaves.
use Rattle.std.proofs.Common.{◌≡◌, ℕ, ◌+◌, ◌-◌, ◌%◌, Bool, true, false, not, ◌&&◌, List, [], ◌∷◌, length, eqb, Result, Ok, Err, sym, ap, ◌∙◌, arith}
use borrow.Author.Tests.{eq-eqb}
use Rattle.verdicts.specs.Rules.{◌⇒◌}
use Rattle.verdicts.specs.declared.Verdict.{Verdict}
use Rattle.verdicts.specs.declared.Verdict.TheVariants.{Good, Place}
use Rattle.verdicts.proofs.Tests.{by_cases}
use Rattle.sums.specs.Total.{odd, weigh}
use Rattle.sums.specs.Fold.{fold}
use Rattle.wire.specs.Bytes.{word_at, part, put}
use Rattle.wire.specs.Outer.{four, address_size, addresses_at, header_field}
use Rattle.wire.specs.Inner.{pseudo, Holds}
use Rattle.wire.specs.declared.Message.{Message}
use Rattle.wire.proofs.Held.{answered, known, family4, family6}
use Rattle.kept.specs.Update.{header_after}
use Rattle.kept.specs.Edits.{Addressed, side_at, address_rules, address_left, address_of}
use Rattle.steps.specs.Steps.{Change, Renewed, message_put, editable_of}
use Rattle.steps.specs.Sides.{side_of, placed}
use Rattle.steps.specs.declared.side.Side.{Side}
use Rattle.steps.proofs.Common.{by_editable}
use Rattle.steps.proofs.Sides.{by_side, by_side_then, side-placed}
use Rattle.steps.proofs.Changes.{low-change, changes}
use Rattle.edit.specs.Rest.{header_put, address_in, address_on}
use Rattle.edit.proofs.Made.{header_made, message-made}

module _ (p : List ℕ) (a : ℕ) (new : List ℕ) where
  -- what is left where d is the change of its bytes, by totals s and t
  module _ (n : length new ≡ address_size p) (at : Addressed p a (length new)) {m : Message} (h : Holds p m) (d s t : ℕ)
      (es : fold s ≡ fold (0 + weigh true (part p a (length new)))) (et : fold t ≡ fold (0 + weigh true new)) (e : (d + s) % 65535 ≡ t % 65535) where
    position : odd (a - addresses_at p) ≡ false
    unfolding odd
    position = rw at.even

    even : odd a ≡ false
    unfolding odd
    even =
        let k = at in
        let z : addresses_at p % 2 ≡ 0 = by_cases (four p) (λ f. simp f) (λ f. simp f) in
        let y : a % 2 ≡ 0 = omega arith in
        rw y

    -- d counts them by their position in the pseudo-header
    by-position : Change d (weigh (odd (a - addresses_at p)) (part p a (length new))) (weigh (odd (a - addresses_at p)) new)
    by-position = rw position (changes (part p a (length new)) new d (low-change _ _ s t d es et e) false)

    -- l has the address, and w in the header's field
    module _ (w : ℕ) (r : Renewed false (word_at p header_field) d w) (q l : List ℕ) (eq : q ≡ put p a new) (el : l ≡ header_put m.family q w) where
      header-left : l ≡ header_after p a new (put p a new)
      unfolding header_after
      header-left =
          let k = known h in
          by_cases (four p)
          (λ f. el ∙ rw (k.family ∙ family4 p f, eq) (header_made p (a - addresses_at p) a d new by-position f (even ∙ sym position) w r (put p a new)))
          (λ f. el ∙ rw (k.family ∙ family6 p f) (eq ∙ sym (simp f)))

      -- and v in the message's, where that covers the addresses and is in use
      pub address-set : (v : ℕ) (silent : Bool) → silent ≡ (eqb m.protocol 17 && eqb (word_at p m.field) 0) → Renewed (eqb m.protocol 17) (word_at p m.field) d v
          → (x : List ℕ) → (m.pseudo ≡ true → x ≡ message_put silent m.field l v) → (m.pseudo ≡ false → x ≡ l) → ◌≡◌ {A = Verdict × List ℕ} (Good, x) (address_in p a new)
      address-set v silent es rv x on off =
          let f = (known h).pseudo in
          let made : x ≡ address_left p a new =
          by_cases m.pseudo
          (λ t.
          let u : pseudo p ≡ true = sym f ∙ t in
          on t ∙ rw header-left (message-made p (a - addresses_at p) a d new by-position h v silent es rv (header_after p a new (put p a new)) ∙ sym (simp u)))
          (λ t. let u : pseudo p ≡ false = sym f ∙ t in off t ∙ rw header-left (sym (simp u))) in
          ap (λ (x : List ℕ). (Good, x)) made ∙ sym (simp (eq-eqb (length new) (address_size p) n))

-- ---- the side's own rule before those of the address
module _ (p : List ℕ) (n : ℕ) (new : List ℕ) (s : Result Side Verdict) (e : s ≡ side_of n) where
  asked : address_on p n new ≡ answered (λ v. (v, p)) (address_in p (side_at p n) new) s
  asked = by_side n [] (λ v. (v, p)) (address_in p (side_at p n) new) ∙ rw (← e)

  pub side-refused : (v : Verdict) → s ≡ Err v → ◌≡◌ {A = Verdict × List ℕ} (v, p) (address_on p n new)
  side-refused v f = sym (asked ∙ rw f)

  pub side-set : (k : Side) → s ≡ Ok k → address_in p (placed k (addresses_at p) (address_size p)) new ≡ address_on p n new
  side-set k f = ap (λ a. address_in p a new) (side-placed p n k (sym f ∙ e)) ∙ sym (asked ∙ rw f)

-- and behind those of all edits
pub side-behind : (p : List ℕ) (n : ℕ) (new : List ℕ) (r : Result Message Verdict) (m : Message) → r ≡ editable_of p → r ≡ Ok m → address_on p n new ≡ address_of p n new
unfolding address_of
side-behind p n new r m e f =
    let size = (not (eqb (length new) (address_size p)) ⇒ Place) ∷ [] in
    by_side_then n size (λ v. (v, p)) (Good, address_left p (side_at p n) new)
    ∙ sym (by_editable p (address_rules p n new) (λ v. (v, p)) (Good, address_left p (side_at p n) new) ∙ rw (← e, f))
