-- Which of 0000 and FFFF a field of their class becomes.
use Rattle.std.proofs.Common.{◌≡◌, ℕ, ◌+◌, ◌*◌, ◌%◌, ◌<◌, List, ap, ◌∙◌, arith}
use Rattle.sums.specs.Low.{two_at}
use Rattle.wire.specs.Bytes.{byte_at}
use Rattle.steps.proofs.Changes.{renewed-udp, renewed-other}
use Rattle.steps.proofs.update.renewed.Goals as goal

-- the class of the word at i, by its bytes
class : (p : List ℕ) (i w d f : ℕ) → (w + d) % 65535 ≡ f % 65535 → f ≡ two_at p i → (w + d) % 65535 ≡ (byte_at p i + 256 * byte_at p (i + 1)) % 65535
unfolding two_at
class p i w d f e n = e ∙ ap (λ k. k % 65535) n

pub returns-then-udp : goal.returns-then-udp
returns-then-udp c =
    let byte : (i : ℕ) → byte_at c.args.packet.now i < 256 = λ i. omega (arith, c.type_inv.packet i) in
    let e = c.less-w.ensures in
    rw c.if-udp.true (renewed-udp _ _ _ _ (byte _) (byte _) (omega arith) (class _ _ _ _ _ e.1 c.le2.ensures) e.0)

pub returns-then-w : goal.returns-then-w
returns-then-w c =
    let byte : (i : ℕ) → byte_at c.args.packet.now i < 256 = λ i. omega (arith, c.type_inv.packet i) in
    let e = class _ _ _ _ _ c.less-w.ensures.1 c.le2.ensures in
    let t = c.if-w.true in
    rw c.if-udp.false (renewed-other _ _ _ _ (byte _) (byte _) (omega arith) (omega arith) (omega arith))

pub returns : goal.returns
returns c =
    let byte : (i : ℕ) → byte_at c.args.packet.now i < 256 = λ i. omega (arith, c.type_inv.packet i) in
    let t = c.if-w.false in
    rw c.if-udp.false (renewed-other _ _ _ _ (byte _) (byte _) (omega arith) (class _ _ _ _ _ c.less-w.ensures.1 c.le2.ensures) (omega arith))
