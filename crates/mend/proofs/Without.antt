-- A block with a word of it read as 0000: the total of what stands before the word added to that of what follows it.
use Prim.Native.Nat.{ℕ, ◌+◌, ◌*◌, ◌-◌, ◌%◌, ◌≤◌, ◌<◌}
use mathlib.Core.Path.{◌≡◌, ap, ap₂, ◌∙◌}
use mathlib.Core.Bool.{true, false}
use mathlib.Core.List.{List, [], ◌∷◌, ◌++◌}
use native.Mathlib.Omega.{arith}
use lib.ListN.{length}
use Rattle.sums.specs.Total.{odd, weigh, total}
use Rattle.sums.specs.Fold.{fold, swap}
use Rattle.sums.proofs.Folds.{fold-as, fold-sum}
use Rattle.sums.proofs.Totals.{weigh-even, low-times, field-from-low}
use Rattle.wire.specs.Bytes.{part, put_word}
use Rattle.wire.specs.Outer.{header_end, header_field}
use Rattle.wire.specs.Inner.{start_of, length_of, field_at, pseudo}
use Rattle.wire.proofs.Parts.{part_length, part_cut}
use Rattle.wire.proofs.Facts.{Facts}
use Rattle.wire.proofs.Writes.{Wrote, part-below, part-above, part-they, put-wrote}
use Rattle.wire.proofs.Same.{same_self, header-end-same}
use Rattle.cover.specs.Sums.{header_total, message_total}
use Rattle.cover.proofs.Totals.{address_total, rest_total, message-parts}
use Rattle.cover.proofs.Blocks.{header-some}
use Rattle.mend.specs.Fresh.{fresh_header}
use Rattle.mend.proofs.Fresh.{same_h, same_f}

module _ (p : List ℕ) (a f e : ℕ) (low : a ≤ f) (even : (f - a) % 2 ≡ 0) (high : f + 2 ≤ e) (fits : e ≤ length p) where
  w : Wrote p (put_word p f 0) f (0 ∷ 0 ∷ [])
  w = put-wrote p f (0 ∷ 0 ∷ []) (omega arith)

  without-total : total (part (put_word p f 0) a (e - a)) ≡ total (part p a (f - a)) + total (part p (f + 2) (e - (f + 2)))
  unfolding odd weigh
  without-total =
      let q = put_word p f 0 in
      let x = part p a (f - a) in
      let y = part p (f + 2) (e - (f + 2)) in
      let n : f + 2 - f ≡ 2 = omega arith in
      let word : part q f (f + 2 - f) ≡ 0 ∷ 0 ∷ [] = rw n (part-they w (omega arith)) in
      let behind : part q f (e - f) ≡ 0 ∷ 0 ∷ y = part_cut q f (f + 2) e (omega arith) high ∙ ap₂ ◌++◌ word (part-above w (f + 2) (e - (f + 2)) (omega arith) (omega arith)) in
      let o : odd (length x) ≡ false = rw (part_length p a (f - a) (omega arith), even) in
      ap total (part_cut q a f e low (omega arith) ∙ ap₂ ◌++◌ (part-below w a (f - a) (omega arith) (omega arith)) behind)
      ∙ weigh-even false x (0 ∷ 0 ∷ y) o ∙ omega arith

  -- the same as code counts it
  pub without-low : (s t : ℕ) → fold s ≡ fold (weigh true (part p a (f - a))) → fold t ≡ fold (s + weigh true (part p (f + 2) (e - (f + 2))))
      → fold t ≡ fold (256 * total (part (put_word p f 0) a (e - a)))
  without-low s t es et =
      let x = part p a (f - a) in
      let y = part p (f + 2) (e - (f + 2)) in
      et ∙ fold-sum s (256 * total x) (weigh true y) (256 * total y) (es ∙ low-times x) (low-times y) ∙ ap fold (omega (arith, without-total))

-- ---- the blocks of a packet
module _ (p : List ℕ) (k : Facts p) where
  pub header-without : (t r : ℕ) → fold t ≡ fold (256 * total (part (put_word p header_field 0) 0 (header_end p - 0))) → r < 65535 → (r + t) % 65535 ≡ 0 → swap r ≡ fresh_header p
  unfolding fresh_header header_total
  header-without t r e small m =
      let s = same_h k.outer (same_self p) 0 in
      let n : header_end p - 0 ≡ header_end (put_word p header_field 0) = omega (arith, header-end-same s.header) in
      let h = e ∙ ap (λ (n : ℕ). fold (256 * total (part (put_word p header_field 0) 0 n))) n in
      let some : 0 < t = omega (arith, fold-as t, fold-as (256 * header_total (put_word p header_field 0)), header-some k.outer s) in
      field-from-low t (header_total (put_word p header_field 0)) r h some small m

  -- without a pseudo-header the message is the block
  pub plain-total : pseudo p ≡ false → message_total (put_word p (field_at p) 0) ≡ total (part (put_word p (field_at p) 0) (start_of p) (length_of p))
  unfolding address_total rest_total
  plain-total t = message-parts k (same_f k (same_self p) 0) ∙ simp t (omega arith)
