-- What is summed so far and what is left have the fold of the whole.
use Rattle.std.proofs.Common.{◌≡◌, ℕ, ◌+◌, ◌-◌, ◌<◌, min, List, true, length, get_or, take, refl, sym, subst, ap, ◌∙◌, arith, add-zero, add_assoc, take_all}
use native.Mathlib.Decide.{dec_lt}
use lib.Seq.{take-nil}
use Rattle.sums.specs.Total.{weigh}
use Rattle.sums.specs.Fold.{fold}
use Rattle.sums.proofs.Folds.{fold-sum}
use Rattle.fragments.specs.Fragments.{together}
use Rattle.fragments.specs.Gathered.{piece_at}
use Rattle.fragments.proofs.Along.{left, left-cons, left-none, Evens, evens-next, fills-evens, cut-weigh}
use Rattle.fragments.proofs.sorted.Message.total.Goals as goal

least : (xs : List ℕ) (m n : ℕ) → m ≡ min (length xs) n → take m xs ≡ take n xs
least xs m n e = elim (dec_lt n (length xs)) [
  | yes l ↦ let x : m ≡ n = omega arith in ap (λ i. take i xs) x
  | no l ↦ take_all m xs (omega arith) ∙ sym (take_all n xs (omega arith))
]

-- one piece more, whose bytes are xs: m of them are summed
more : (b places xs : List ℕ) (k n m t r : ℕ) → k < length places → Evens (left b places k)
    → xs ≡ (piece_at b (get_or places k 0)).bytes → m ≡ min (length xs) n → fold r ≡ fold (t + weigh true (take m xs))
    → Evens (left b places (k + 1)) × (fold (r + weigh true (take (n - m) (together (left b places (k + 1))))) ≡ fold (t + weigh true (take n (together (left b places k)))))
more b places xs k n m t r l v e w f =
    let p = piece_at b (get_or places k 0) in
    let rest = left b places (k + 1) in
    let behind = weigh true (take (n - length p.bytes) (together rest)) in
    let here = left-cons b places k l in
    let some = subst Evens here v in
    let less : n - m ≡ n - length p.bytes = omega (arith, ap length e) in (
      evens-next p rest some,
      ap (λ i. fold (r + weigh true (take i (together rest)))) less
          ∙ fold-sum r (t + weigh true (take m xs)) behind behind f refl
          ∙ ap fold (add_assoc t (weigh true (take m xs)) behind ∙ ap (λ ys. t + (weigh true ys + behind)) (least xs m n w ∙ ap (take n) e))
          ∙ sym (ap (λ ps. fold (t + weigh true (take n (together ps)))) here ∙ ap (λ x. fold (t + x)) (cut-weigh p rest n some)),
    )

pub loop-place-init : goal.loop-place-init
loop-place-init c = (fills-evens 0 _ c.args.self.now.filled.fills, refl)

pub loop-place-preserved : goal.loop-place-preserved
loop-place-preserved c =
    let m =
    more c.args.self.now.parts.buffer.now c.args.self.now.parts.places.now c.span.result.bytes.now c.loop-place.place-index c.loop-place.left c.min-n.result c.loop-place.t c.total-t.result c.loop-place-test.true
    c.loop-place.invariant.0 c.span.ensures.bytes c.min-n.ensures c.total-t.ensures in
    (m.0, m.1 ∙ c.loop-place.invariant.1)

pub returns : goal.returns
unfolding together weigh
returns c =
    sym (ap fold (ap (λ ps. c.loop-place.t + weigh true (take c.loop-place.left (together ps))) (left-none c.args.self.now.parts.buffer.now c.args.self.now.parts.places.now c.loop-place.place-index c.loop-place-test.false)
    ∙ ap (λ xs. c.loop-place.t + weigh true xs) (take-nil c.loop-place.left) ∙ add-zero c.loop-place.t))
    ∙ c.loop-place.invariant.1
