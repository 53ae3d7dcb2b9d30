-- Where the byte stands in the pieces that are left.
use Rattle.std.proofs.Common.{◌≡◌, ℕ, ◌+◌, ◌-◌, ◌<◌, ◌≤◌, List, ◌++◌, length, get_or, sym, ap, ◌∙◌}
use Rattle.wire.specs.Bytes.{byte_at}
use Rattle.fragments.specs.Fragments.{together}
use Rattle.fragments.specs.Gathered.{piece_at}
use Rattle.fragments.proofs.Along.{left, left-cons, left-none, together-cons, byte_inside, byte-behind}
use Rattle.fragments.proofs.sorted.Sorted.byte.Goals as goal

-- xs are the bytes of the piece at the place k
module _ (b places : List ℕ) (k : ℕ) {xs : List ℕ} (l : k < length places) (s : xs ≡ (piece_at b (get_or places k 0)).bytes) where
  split : xs ++ together (left b places (k + 1)) ≡ together (left b places k)
  split = ap (λ ys. ys ++ together (left b places (k + 1))) s ∙ sym (ap together (left-cons b places k l) ∙ together-cons _ _)

  here : (i : ℕ) → i < length xs → byte_at xs i ≡ byte_at (together (left b places k)) i
  here i h = sym (byte_inside xs (together (left b places (k + 1))) i h) ∙ ap (λ ys. byte_at ys i) split

  behind : (i : ℕ) → length xs ≤ i → byte_at (together (left b places (k + 1))) (i - length xs) ≡ byte_at (together (left b places k)) i
  behind i h = sym (byte-behind xs (together (left b places (k + 1))) i h) ∙ ap (λ ys. byte_at ys i) split

pub returns-then-i-bytes : goal.returns-then-i-bytes
returns-then-i-bytes c =
    here c.args.self.now.buffer.now c.args.self.now.places.now c.loop-at.at-index c.loop-at-test.true c.span.ensures.bytes c.loop-at.i c.if-i-bytes.true ∙ c.loop-at.invariant

pub loop-at-preserved : goal.loop-at-preserved
loop-at-preserved c =
    behind c.args.self.now.buffer.now c.args.self.now.places.now c.loop-at.at-index c.loop-at-test.true c.span.ensures.bytes c.loop-at.i c.if-i-bytes.false ∙ c.loop-at.invariant

pub returns : goal.returns
unfolding together
returns c =
    ap (λ ps. byte_at (together ps) c.loop-at.i) (sym (left-none c.args.self.now.buffer.now c.args.self.now.places.now c.loop-at.at-index c.loop-at-test.false)) ∙ c.loop-at.invariant
