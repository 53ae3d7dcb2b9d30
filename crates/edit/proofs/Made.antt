-- What the code writes is what the definitions of the edits say.
use Prim.Native.Nat.{ℕ, ◌+◌, ◌-◌, ◌*◌, ◌%◌, ◌<◌, ◌≤◌}
use mathlib.Core.Path.{◌≡◌, refl, sym, ap, ◌∙◌}
use mathlib.Core.Bool.{Bool, true, false, ◌&&◌}
use mathlib.Core.List.{List, [], ◌∷◌}
use native.Mathlib.Omega.{arith}
use lib.ListN.{length, set}
use lib.Seq.{drop-cons}
use lib.Dec.{eqb}
use borrow.Author.Tests.{lt-ltb, le-ltb}
use Rattle.verdicts.specs.declared.Verdict.{Verdict}
use Rattle.verdicts.specs.declared.Verdict.TheVariants.{Good, Spent}
use Rattle.verdicts.proofs.Tests.{by_cases}
use Rattle.sums.specs.Total.{odd, weigh}
use Rattle.sums.specs.Fold.{swap}
use Rattle.sums.specs.Partials.{swap_if}
use Rattle.sums.proofs.Folds.{mod-in}
use Rattle.wire.specs.Bytes.{byte_at, word_at, part, put, put_word}
use Rattle.wire.specs.Outer.{four, family_of, header_field, lifetime_at}
use Rattle.wire.specs.Inner.{Holds, start_of}
use Rattle.wire.specs.declared.Family.{Family}
use Rattle.wire.specs.declared.Message.{Message}
use Rattle.wire.proofs.Held.{held-silent, family4, family6}
use Rattle.mend.specs.Fresh.{sent}
use Rattle.kept.specs.Update.{updated_at, header_after, message_after}
use Rattle.steps.specs.Steps.{Change, Renewed, message_put}
use Rattle.steps.proofs.Changes.{changes}
use Rattle.edit.specs.Rest.{header_put, lifetime_by, lifetime_in}

-- ---- the change of the bytes from a, n old ones for new ones
pub part-changes : (p : List ℕ) (a n d : ℕ) (new : List ℕ) → n ≡ length new
    → (d + weigh true (part p a (a + n - a))) % 65535 ≡ weigh true new % 65535
    → (o : Bool) → Change (swap_if o d) (weigh o (part p a (length new))) (weigh o new)
part-changes p a n d new l e = let k : a + n - a ≡ length new = omega arith in changes (part p a (length new)) new d (rw k at e)

-- ---- the fields, where d is that change, and pos the bytes' position in the covered block
module _ (p : List ℕ) (pos a d : ℕ) (new : List ℕ) (k : Change d (weigh (odd pos) (part p a (length new))) (weigh (odd pos) new)) where
  pub header_made : four p ≡ true → odd a ≡ odd pos → (w : ℕ) → Renewed false (word_at p header_field) d w
      → (q : List ℕ) → put_word q header_field (swap w) ≡ header_after p a new q
  unfolding header_after updated_at sent
  header_made f e w r q = simp f (rw (e, r.is _ _ k))

  pub message-made : {m : Message} → Holds p m → (w : ℕ) (quiet : Bool) → quiet ≡ (eqb m.protocol 17 && eqb (word_at p m.field) 0)
      → Renewed (eqb m.protocol 17) (word_at p m.field) d w
      → (q : List ℕ) → message_put quiet m.field q w ≡ message_after p pos a new q
  unfolding message_after updated_at
  message-made h w quiet e r q = rw (e ∙ held-silent h, r.is _ _ k, h.is)

-- ---- the lifetime
module _ (p : List ℕ) where
  lifetime-is : lifetime_by (family_of p) ≡ lifetime_at p
  unfolding family_of
  lifetime-is = by_cases (four p) (λ f. simp f) (λ f. simp f)

  abbrev one_less : List ℕ
  one_less = (byte_at p 8 - 1) ∷ []

  lifetime-changes : 8 < length p → 2 ≤ byte_at p 8 → Change 65534 (weigh (odd 8) (part p 8 1)) (weigh (odd 8) one_less)
  unfolding odd weigh
  lifetime-changes l h =
      let e : weigh (odd 8) (part p 8 1) ≡ 256 * byte_at p 8 = rw (drop-cons p 8 0 l) (omega arith) in
      let f : weigh (odd 8) one_less ≡ 256 * (byte_at p 8 - 1) = omega arith in
      rw (e, f) (mod-in (65534 + 256 * (256 * byte_at p 8)) (256 * (256 * (byte_at p 8 - 1))) 0 2 (omega arith))

  module _ (family : Family) (is : family ≡ family_of p) (a : ℕ) (e : a ≡ lifetime_by family) where
    at : a ≡ lifetime_at p
    at = e ∙ ap lifetime_by is ∙ lifetime-is

    pub spent : byte_at p a < 2 → ◌≡◌ {A = Verdict × List ℕ} (Spent, p) (lifetime_in p)
    spent l = let k : byte_at p (lifetime_at p) < 2 = rw at at l in simp lt-ltb

    -- w is the header's new field
    pub lowered-to : 8 < length p → 2 ≤ byte_at p a → (w : ℕ) → Renewed false (word_at p header_field) 65534 w
        → (q : List ℕ) → q ≡ header_put family (set p a (byte_at p a - 1)) w → ◌≡◌ {A = Verdict × List ℕ} (Good, q) (lifetime_in p)
    unfolding put header_after
    lowered-to n l w r q eq =
        by_cases (four p)
        (λ f.
        let a8 : a ≡ 8 = simp f at at in
        let m : 2 ≤ byte_at p 8 = rw a8 at l in
        let s : header_put family (set p a (byte_at p a - 1)) w ≡ put_word (set p 8 (byte_at p 8 - 1)) header_field (swap w) = rw (is ∙ family4 p f, a8) in
        ap (λ (q : List ℕ). (Good, q)) (eq ∙ s ∙ header_made p 8 8 65534 one_less (lifetime-changes n m) f refl w r (set p 8 (byte_at p 8 - 1)))
        ∙ sym (simp (f, le-ltb)))
        (λ f.
        let a7 : a ≡ 7 = simp f at at in
        let m : 2 ≤ byte_at p 7 = rw a7 at l in
        let s : header_put family (set p a (byte_at p a - 1)) w ≡ set p 7 (byte_at p 7 - 1) = rw (is ∙ family6 p f, a7) in
        ap (λ (q : List ℕ). (Good, q)) (eq ∙ s) ∙ sym (simp (f, le-ltb)))

-- ---- the stretch, whose change is c where its first byte stands at an even position
pub stretch-made : {p : List ℕ} {m : Message} → Holds p m → (a : ℕ) (new : List ℕ) (c d v : ℕ)
    → (c + weigh true (part p a (a + length new - a))) % 65535 ≡ weigh true new % 65535
    → d ≡ swap_if (eqb ((a - m.start) % 2) 1) c → Renewed (eqb m.protocol 17) (word_at p m.field) d v
    → (quiet : Bool) → quiet ≡ (eqb m.protocol 17 && eqb (word_at p m.field) 0)
    → (q r : List ℕ) → q ≡ put p a new → r ≡ message_put quiet m.field q v → r ≡ message_after p (a - start_of p) a new (put p a new)
unfolding odd
stretch-made {p} {m} h a new c d v e ed rn quiet eq q r ep er =
    let z : d ≡ swap_if (odd (a - start_of p)) c = ed ∙ ap (λ (x : ℕ). swap_if (odd (a - x)) c) (ap (λ (x : Message). x.start) h.is) in
    er ∙ ap (λ (l : List ℕ). message_put quiet m.field l v) ep
    ∙ message-made p (a - start_of p) a d new (rw z (part-changes p a (length new) c new refl e (odd (a - start_of p)))) h v quiet eq rn (put p a new)
