-- Where the pieces that are left fill from a place, all fill from the beginning.
use Rattle.std.proofs.Common.{◌≡◌, false, ℕ, ◌+◌, ◌%◌, ◌<◌, ◌≤◌, List, [], ◌∷◌, ◌++◌, None, Some, length, get_or, refl, sym, ap, subst, ◌∙◌, arith, length-append}
use lib.Seq.{get_or_at}
use Rattle.fragments.specs.Fragments.{Piece, fills, together}
use Rattle.fragments.specs.Gathered.{piece_at, pieces_at, filled_of, Arrived, AllArrived}
use Rattle.fragments.proofs.Along.{left, left-cons, left-none, gap, ended, ragged, fills-next, unclosed, closed, unfilled, full, together-one, together-long}
use Rattle.fragments.proofs.sorted.Sorted.filled.Goals as goal

none : (b places : List ℕ) → length places ≡ 0 → None ≡ filled_of (pieces_at b places)
unfolding filled_of fills
none b [] e = refl
none b (x ∷ xs) e = absurd (omega arith)

module _ (b others : List ℕ) (last k : ℕ) where
  abbrev P : Piece
  P = piece_at b (get_or others k 0)

  abbrev Next : List Piece
  Next = left b others (k + 1) ++ (piece_at b last ∷ [])

  rest : 0 < length Next
  rest = omega (arith, length-append (left b others (k + 1)) (piece_at b last ∷ []))

  -- ---- one that is not the last, from a place at
  here : k < length others → left b others k ++ (piece_at b last ∷ []) ≡ P ∷ Next
  here l = ap (λ ps. ps ++ (piece_at b last ∷ [])) (left-cons b others k l)

  not-filled : (at : ℕ) (ps : List Piece) → k < length others → fills at (left b others k ++ (piece_at b last ∷ [])) ≡ fills 0 ps → fills at (P ∷ Next) ≡ false → None ≡ filled_of ps
  not-filled at ps l i f = unfilled ps (sym i ∙ ap (fills at) (here l) ∙ f)

  -- ---- the last
  one : length others ≤ k → left b others k ++ (piece_at b last ∷ []) ≡ piece_at b last ∷ []
  one l = ap (λ ps. ps ++ (piece_at b last ∷ [])) (left-none b others k l)

  -- ---- it has arrived
  module _ (places : List ℕ) (e : places ≡ others ++ (last ∷ [])) (a : AllArrived b places) where
    last-arrived : Arrived b last
    last-arrived =
        subst (Arrived b) (ap (λ xs. get_or xs (length others) 0) e ∙ get_or_at others last [] 0 (length others) refl) (a (length others) (omega (arith, ap length e, length-append others (last ∷ []))))

pub returns-in_err-last : goal.returns-in_err-last
returns-in_err-last c = c.from_residual.ensures ∙ none c.args.self.now.buffer.now c.args.self.now.places.now c.in_err-last.ensures.cases

pub span-span-requires-2 : goal.span-span-requires-2
span-span-requires-2 c = last-arrived _ _ _ 0 _ c.in_ok-last.ensures.cases.0 c.args.self.now.arrived

pub returns-then-span-end : goal.returns-then-span-end
returns-then-span-end c =
    not-filled _ _ _ _ _ _ c.loop-place-test.true c.loop-place.invariant.1 (gap _ _ _ (λ e. c.if-span-end.true (c.span-span.ensures.begin ∙ e)))

pub returns-then-not-span : goal.returns-then-not-span
returns-then-not-span c =
    let s = c.span-span.ensures in
    not-filled _ _ _ _ _ _ c.loop-place-test.true c.loop-place.invariant.1
    (ended _ _ (sym s.begin ∙ c.if-span-end.false) _ (rest c.args.self.now.buffer.now c.in_ok-last.others.now c.in_ok-last.last.now c.loop-place.place-index) (sym s.more ∙ c.if-not-span.true))

pub returns-then-span-ne0 : goal.returns-then-span-ne0
returns-then-span-ne0 c =
    let s = c.span-span.ensures in
    not-filled _ _ _ _ _ _ c.loop-place-test.true c.loop-place.invariant.1
    (ragged _ _ (sym s.begin ∙ c.if-span-end.false) _ (rest c.args.self.now.buffer.now c.in_ok-last.others.now c.in_ok-last.last.now c.loop-place.place-index) (sym s.more ∙ c.if-not-span.false) (λ z. c.if-span-ne0.true (ap (λ xs. length xs % 8) s.bytes ∙ z)))

pub loop-place-preserved : goal.loop-place-preserved
loop-place-preserved c =
    let b : List ℕ = c.args.self.now.buffer.now in
    let others : List ℕ = c.in_ok-last.others.now in
    let last : ℕ = c.in_ok-last.last.now in
    let k : ℕ = c.loop-place.place-index in
    let at : ℕ = c.loop-place.end in
    let s = c.span-span.ensures in
    let h = here b others last k c.loop-place-test.true in
    let next = Next b others last k in (
      omega (arith, s.short, s.small, c.if-span-end.false),
      ap (λ xs. fills (at + length xs) next) s.bytes
          ∙ sym (fills-next _ _ (sym s.begin ∙ c.if-span-end.false) next (rest b others last k) (sym s.more ∙ c.if-not-span.false) (sym (ap (λ xs. length xs % 8) s.bytes) ∙ c.if-span-ne0.false))
          ∙ sym (ap (fills at) h)
          ∙ c.loop-place.invariant.1,
      omega (arith, ap length s.bytes, together-long (P b others last k) next, ap (λ ps. length (together ps)) h, c.loop-place.invariant.2),
    )

pub returns-then-span-end-2 : goal.returns-then-span-end-2
returns-then-span-end-2 c =
    let o = one c.args.self.now.buffer.now c.in_ok-last.others.now c.in_ok-last.last.now c.loop-place.place-index c.loop-place-test.false in
    unfilled _ (sym c.loop-place.invariant.1 ∙ ap (fills c.loop-place.end) o ∙ gap _ _ [] (λ e. c.if-span-end-2.true (c.span-span-2.ensures.begin ∙ e)))

pub returns-then-span : goal.returns-then-span
returns-then-span c =
    let o = one c.args.self.now.buffer.now c.in_ok-last.others.now c.in_ok-last.last.now c.loop-place.place-index c.loop-place-test.false in
    let s = c.span-span-2.ensures in
    unfilled _ (sym c.loop-place.invariant.1 ∙ ap (fills c.loop-place.end) o ∙ unclosed _ _ (sym s.begin ∙ c.if-span-end-2.false) (sym s.more ∙ c.if-span.true))

pub returns : goal.returns
returns c =
    let o = one c.args.self.now.buffer.now c.in_ok-last.others.now c.in_ok-last.last.now c.loop-place.place-index c.loop-place-test.false in
    let s = c.span-span-2.ensures in
    let long : c.loop-place.end + length c.span-span-2.result.bytes.now ≡ length (together (pieces_at c.args.self.now.buffer.now c.args.self.now.places.now)) =
    omega (arith, ap length s.bytes, c.loop-place.invariant.2, ap (λ ps. length (together ps)) o, ap length (together-one (piece_at c.args.self.now.buffer.now c.in_ok-last.last.now))) in
    ap (λ n. Some n) long
    ∙ full _ (sym c.loop-place.invariant.1 ∙ ap (fills c.loop-place.end) o ∙ closed _ _ (sym s.begin ∙ c.if-span-end-2.false) (sym s.more ∙ c.if-span.false))
