-- What writing bytes does to the total of a part of a packet.
use mathlib.Core.Path.{◌≡◌, sym, ap, ap₂, ◌∙◌}
use Prim.Native.Nat.{ℕ, suc, ◌+◌, ◌-◌, ◌%◌, ◌<◌, ◌≤◌}
use native.Mathlib.Omega.{arith}
use native.Mathlib.Nat.{add-zero}
use native.Mathlib.Numerals.{add-one}
use mathlib.Core.List.{List, ◌++◌}
use mathlib.Core.Bool.{false}
use lib.ListN.{length}
use lib.Seq.{drop-cons}
use Rattle.sums.specs.Total.{odd, weigh, total}
use Rattle.sums.proofs.Totals.{weigh-around, total-some}
use Rattle.wire.specs.Bytes.{byte_at, word_at, part}
use Rattle.wire.proofs.Parts.{part_length, part-byte, part-add}
use Rattle.wire.proofs.Writes.{Wrote, part-below, part-above, part-they}

-- new bytes written from at, in a part around them: pos is their position in it
pub part-around : {p q : List ℕ} {at : ℕ} {new : List ℕ} → Wrote p q at new → (a n pos : ℕ) → at ≡ a + pos → at + length new ≤ a + n → a + n ≤ length p
    → total (part q a n) + weigh (odd pos) (part p at (length new)) ≡ total (part p a n) + weigh (odd pos) new
part-around {p} {q} {at} {new} w a n pos e h k =
    let m = length new in
    let y = n - (pos + m) in
    let x = part p a pos in
    let z = part p (at + m) y in
    let size : n ≡ pos + (m + y) = omega arith in
    let three : (r : List ℕ) → part r a n ≡ part r a pos ++ (part r at m ++ part r (at + m) y) =
    λ r. ap (part r a) size ∙ part-add r a pos (m + y)
    ∙ ap (λ l. part r a pos ++ l) (ap (λ b. part r b (m + y)) (sym e) ∙ part-add r at m y) in
    let is : part q a n ≡ x ++ (new ++ z) =
    three q ∙ ap₂ ◌++◌ (part-below w a pos (omega arith) (omega arith)) (ap₂ ◌++◌ (part-they w (omega arith)) (part-above w (at + m) y (omega arith) (omega arith))) in
    let c : total (part q a n) + weigh (odd (length x)) (part p at m) ≡ total (part p a n) + weigh (odd (length x)) new =
    rw (is, three p) (weigh-around x (part p at m) new z (sym (part_length p at m (omega arith)))) in
    rw (part_length p a pos (omega arith)) at c

-- a word at an even position counts as it is read
pub word-weigh : (q : List ℕ) (f pos : ℕ) → pos % 2 ≡ 0 → f + 2 ≤ length q → weigh (odd pos) (part q f 2) ≡ word_at q f
unfolding odd weigh
word-weigh q f pos e h =
    let l : f < length q = omega arith in
    let m : suc f < length q = omega arith in
    rw (e, drop-cons q f 0 l, drop-cons q (suc f) 0 m) (rw add-one (omega arith))

-- a part whose first byte isn't 0 has a total
pub part-some : (q : List ℕ) (a n : ℕ) → 0 < n → 0 < byte_at q a → 0 < total (part q a n)
part-some q a n h s = (total-some false (part q a n)).1 (0, λ e. omega (arith, part-byte q a n 0 h, ap (byte_at q) (add-zero a)))
