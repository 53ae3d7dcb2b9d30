-- The pieces that are left have the shape of all.
use Rattle.std.proofs.Common.{◌≡◌, ℕ, ◌+◌, ◌<◌, List, ◌∷◌, length, get_or, drop, sym, ap, ◌∙◌, arith, eqb-true}
use borrow.Author.Tests.{eqb-false}
use Rattle.fragments.specs.Fragments.{piece_of}
use Rattle.fragments.specs.Gathered.{pieces_at, shaped_of}
use Rattle.fragments.proofs.Along.{left, left-cons, left-none, unlike, vacant, overlong, shaped-next, shaped-none}
use Rattle.fragments.proofs.sorted.Sorted.is_shaped.Goals as goal

-- of a packet p at the place k: what is said of it and of those behind it is said of all
whole : (b places f : List ℕ) (k : ℕ) {p : List ℕ} → k < length places → p ≡ drop (get_or places k 0) b → shaped_of (piece_of f) (left b places k) ≡ shaped_of (piece_of f) (pieces_at b places)
    → shaped_of (piece_of f) (piece_of p ∷ left b places (k + 1)) ≡ shaped_of (piece_of f) (pieces_at b places)
whole b places f k l e i = ap (shaped_of (piece_of f)) (ap (λ q. piece_of q ∷ left b places (k + 1)) e ∙ sym (left-cons b places k l)) ∙ i

some_bytes : {xs ys : List ℕ} → xs ≡ ys → (length xs ≡ 0 → ⊥) → length ys ≡ 0 → ⊥
some_bytes e n z = n (ap length e ∙ z)

pub returns-then-not-is_alike : goal.returns-then-not-is_alike
returns-then-not-is_alike c =
    let ps = pieces_at c.args.self.now.buffer.now c.args.self.now.places.now in
    sym (unlike _ _ _ (sym c.is_alike.ensures ∙ c.if-not-is_alike.true))
    ∙ whole _ _ _ _ c.loop-place-test.true c.at-packet.ensures c.loop-place.invariant ∙ ap (λ q. shaped_of (piece_of q) ps) c.first-first.ensures

pub returns-then-is_empty : goal.returns-then-is_empty
returns-then-is_empty c =
    let ps = pieces_at c.args.self.now.buffer.now c.args.self.now.places.now in
    sym (vacant _ _ _ (sym c.is_alike.ensures ∙ c.if-not-is_alike.false) (ap length (sym c.span-span.ensures.bytes) ∙ eqb-true _ _ (sym c.is_empty.ensures ∙ c.if-is_empty.true)))
    ∙ whole _ _ _ _ c.loop-place-test.true c.at-packet.ensures c.loop-place.invariant ∙ ap (λ q. shaped_of (piece_of q) ps) c.first-first.ensures

pub returns-then-span-gt-LONGEST : goal.returns-then-span-gt-LONGEST
returns-then-span-gt-LONGEST c =
    let ps = pieces_at c.args.self.now.buffer.now c.args.self.now.places.now in
    let s = c.span-span.ensures in
    let some = some_bytes s.bytes (eqb-false _ _ (sym c.is_empty.ensures ∙ c.if-is_empty.false)) in
    sym (overlong _ _ _ (sym c.is_alike.ensures ∙ c.if-not-is_alike.false) some (omega (arith, s.begin, ap length s.bytes, c.if-span-gt-LONGEST.true)))
    ∙ whole _ _ _ _ c.loop-place-test.true c.at-packet.ensures c.loop-place.invariant ∙ ap (λ q. shaped_of (piece_of q) ps) c.first-first.ensures

pub loop-place-preserved : goal.loop-place-preserved
loop-place-preserved c =
    let s = c.span-span.ensures in
    let some = some_bytes s.bytes (eqb-false _ _ (sym c.is_empty.ensures ∙ c.if-is_empty.false)) in
    sym (shaped-next _ _ _ (sym c.is_alike.ensures ∙ c.if-not-is_alike.false) some (omega (arith, s.begin, ap length s.bytes, c.if-span-gt-LONGEST.false)))
    ∙ whole _ _ _ _ c.loop-place-test.true c.at-packet.ensures c.loop-place.invariant

pub returns : goal.returns
returns c =
    let ps = pieces_at c.args.self.now.buffer.now c.args.self.now.places.now in
    sym (ap (shaped_of (piece_of c.first-first.result.bytes.now)) (left-none c.args.self.now.buffer.now c.args.self.now.places.now c.loop-place.place-index c.loop-place-test.false) ∙ shaped-none _)
    ∙ c.loop-place.invariant ∙ ap (λ q. shaped_of (piece_of q) ps) c.first-first.ensures
