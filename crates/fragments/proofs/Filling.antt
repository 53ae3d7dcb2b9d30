-- The verdict on sorted pieces, from their shape, their filling and their message.
use Rattle.std.proofs.Common.{◌≡◌, refl, sym, ap, ◌∙◌, ℕ, ◌+◌, ◌≤◌, ◌<◌, arith, List, [], ◌∷◌, Bool, true, false, not, ◌&&◌, ◌||◌, true≢false, length, get_or, Option, None, Some, eqb, ltb, ltb-false}
use borrow.Author.Tests.{not-true}
use Rattle.verdicts.specs.Rules.{verdict_by}
use Rattle.verdicts.specs.declared.Verdict.TheVariants.{Shape}
use Rattle.verdicts.specs.declared.Verdict.TheVariants as verdict
use Rattle.verdicts.proofs.Tests.{by_cases, or-false, and-true}
use Rattle.fragments.specs.Fragments.{Piece, alike, shared_with, some_empty, some_past, fills, together, message_rules, filling_rules, pieces_rules}
use Rattle.verdicts.specs.declared.Verdict.{Verdict}
use Rattle.fragments.specs.Gathered.{piece_at, pieces_at, shaped_of, filled_of, message_of, AllArrived, Filled}
use Rattle.fragments.proofs.Headers.{alike_self}
use Rattle.fragments.proofs.Along.{left, left-cons, fills-begin, fills-behind, fills-none, together-one, together-long}

-- ---- whether they fill, and what
pub filled-none : (ps : List Piece) → filled_of ps ≡ None → fills 0 ps ≡ false
unfolding filled_of
filled-none ps e = by_cases (fills 0 ps) (λ t. let n : Some (length (together ps)) ≡ None = simp t at e in (cc)) (λ f. f)

pub filled-some : (ps : List Piece) (size : ℕ) → filled_of ps ≡ Some size → (fills 0 ps ≡ true) × (length (together ps) ≡ size)
unfolding filled_of
filled-some ps size e =
    by_cases (fills 0 ps)
    (λ t. let n : Some (length (together ps)) ≡ Some size = simp t at e in (t, cc))
    (λ f. let n : ◌≡◌ {A = Option ℕ} None (Some size) = simp f at e in absurd (cc))

-- ---- the three tests of shape are one
shaped-as : (f : Piece) (ps : List Piece) → shaped_of f ps ≡ (shared_with f ps && (not (some_empty ps) && not (some_past ps)))
unfolding shaped_of shared_with some_empty some_past
shaped-as f [] = refl
shaped-as f (p ∷ ps) =
    ap (λ s. alike f p && (not (eqb (length p.bytes) 0) && (not (ltb 65515 (p.begin + length p.bytes)) && s))) (shaped-as f ps)
    ∙ turn (alike f p) (eqb (length p.bytes) 0) (ltb 65515 (p.begin + length p.bytes)) (shared_with f ps) (some_empty ps) (some_past ps)
  where
    turn : (a e o s f g : Bool) → (a && (not e && (not o && (s && (not f && not g))))) ≡ ((a && s) && (not (e || f) && not (o || g)))
    turn false e o s f g = refl
    turn true true o true f g = refl
    turn true true o false f g = refl
    turn true false false s f g = refl
    turn true false true false f g = refl
    turn true false true true true g = refl
    turn true false true true false g = refl

module _ (p : Piece) (ps : List Piece) where
  shapes : shaped_of p (p ∷ ps) ≡ (shared_with p ps && (not (some_empty (p ∷ ps)) && not (some_past (p ∷ ps))))
  unfolding shared_with
  shapes = shaped-as p (p ∷ ps) ∙ ap (λ a. (a && shared_with p ps) && (not (some_empty (p ∷ ps)) && not (some_past (p ∷ ps)))) (alike_self p)

  misshapen : shaped_of p (p ∷ ps) ≡ false → Shape ≡ verdict_by (pieces_rules (p ∷ ps))
  unfolding pieces_rules filling_rules
  misshapen e =
      by_cases (shared_with p ps) (λ s.
      by_cases (some_empty (p ∷ ps)) (λ t. simp (s, t)) (λ n.
      by_cases (some_past (p ∷ ps)) (λ t. simp (s, n, t)) (λ k. absurd (true≢false (simp (s, n, k) at (sym shapes ∙ e))))))
      (λ s. simp s)

  module _ (e : shaped_of p (p ∷ ps) ≡ true) where
    shared : shared_with p ps ≡ true
    shared = (and-true (shared_with p ps) _ (sym shapes ∙ e)).0

    none-empty : some_empty (p ∷ ps) ≡ false
    none-empty = not-true (some_empty (p ∷ ps)) (and-true (not (some_empty (p ∷ ps))) _ (and-true (shared_with p ps) _ (sym shapes ∙ e)).1).0

    none-past : some_past (p ∷ ps) ≡ false
    none-past = not-true (some_past (p ∷ ps)) (and-true (not (some_empty (p ∷ ps))) _ (and-true (shared_with p ps) _ (sym shapes ∙ e)).1).1

    unfit : filled_of (p ∷ ps) ≡ None → verdict.Fragment ≡ verdict_by (pieces_rules (p ∷ ps))
    unfolding pieces_rules filling_rules
    unfit z = simp (shared, none-empty, none-past, filled-none (p ∷ ps) z)

    module _ (size : ℕ) (f : filled_of (p ∷ ps) ≡ Some size) where
      fit : fills 0 (p ∷ ps) ≡ true
      fit = (filled-some (p ∷ ps) size f).0

      messaged : verdict_by (message_rules p.protocol p.addresses (together (p ∷ ps))) ≡ verdict_by (pieces_rules (p ∷ ps))
      unfolding pieces_rules filling_rules
      messaged = simp (shared, none-empty, none-past, fit)

-- ---- what fills ends where the last piece does
pub filled-short : (at : ℕ) (ps : List Piece) → fills at ps ≡ true → some_past ps ≡ false → at + length (together ps) ≤ 65515
unfolding some_past
filled-short at [] e s = absurd (fills-none at e)
filled-short at (p ∷ []) e s =
    let o = or-false (ltb 65515 (p.begin + length p.bytes)) false s in
    omega (arith, fills-begin at p [] e, ap length (together-one p), ltb-false 65515 (p.begin + length p.bytes) o.0)
filled-short at (p ∷ q ∷ ps) e s =
    let o = or-false (ltb 65515 (p.begin + length p.bytes)) (some_past (q ∷ ps)) s in
    omega (arith, together-long p (q ∷ ps), filled-short (at + length p.bytes) (q ∷ ps) (fills-behind at p q ps e).fills o.1)

-- ---- those at some places
module _ (b places : List ℕ) (some : 0 < length places) where
  abbrev P : Piece
  P = piece_at b (get_or places 0 0)

  here : pieces_at b places ≡ P ∷ left b places 1
  here = left-cons b places 0 some

  of_all : {v : Verdict} → v ≡ verdict_by (pieces_rules (P ∷ left b places 1)) → v ≡ verdict_by (pieces_rules (pieces_at b places))
  of_all e = e ∙ ap (λ ps. verdict_by (pieces_rules ps)) (sym here)

  pub misshapen-at : shaped_of P (pieces_at b places) ≡ false → Shape ≡ verdict_by (pieces_rules (pieces_at b places))
  misshapen-at e = of_all (misshapen P _ (sym (ap (shaped_of P) here) ∙ e))

  module _ (e : shaped_of P (pieces_at b places) ≡ true) where
    shape : shaped_of P (P ∷ left b places 1) ≡ true
    shape = sym (ap (shaped_of P) here) ∙ e

    pub unfit-at : filled_of (pieces_at b places) ≡ None → verdict.Fragment ≡ verdict_by (pieces_rules (pieces_at b places))
    unfit-at z = of_all (unfit P _ shape (sym (ap filled_of here) ∙ z))

    module _ (size : ℕ) (f : filled_of (pieces_at b places) ≡ Some size) where
      pub message-at : message_of b places P.protocol ≡ verdict_by (pieces_rules (pieces_at b places))
      unfolding message_of
      message-at = of_all (ap (λ ps. verdict_by (message_rules P.protocol P.addresses (together ps))) here ∙ messaged P _ shape size (sym (ap filled_of here) ∙ f))

      pub filled-at : AllArrived b places → Filled b places size
      filled-at a =
          let k = filled-some _ size f in
          record {
            arrived = a;
            some = some;
            fills = k.0;
            long = k.1;
            short = omega (arith, k.1, filled-short 0 (pieces_at b places) k.0 (ap some_past here ∙ none-past P _ shape));
          }
