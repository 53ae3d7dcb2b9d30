-- What one read more gives stands behind what was read.
use Rattle.std.proofs.Common.{◌≡◌, ℕ, ◌+◌, ◌-◌, ◌≤◌, List, ◌++◌, rules, arith, length, take, sym, ap, ◌∙◌, subst, length-take-le}
use Rattle.std.proofs.lemmas.List.{take-append-le}
use Rattle.std.proofs.Math.Seq.{take-append-add}
use Rattle.std.proofs.KnownBytes.{Consumes-trans}
use Rattle.std.specs.Io.KnownBytes.{Consumes}
use borrow.Rule.Slice.PartMut.{put_mid, post_of}
use Rattle.judge_capture.proofs.read.Goals as goal

-- the first bytes of a list whose middle is put anew
filled : (a k n : ℕ) (xs ys : List ℕ) → a ≤ length xs → n ≤ length ys → take (a + n) (put_mid a k xs ys) ≡ take a xs ++ take n ys
filled a k n xs ys h l =
    ap (λ m. take (m + n) (put_mid a k xs ys)) (sym (length-take-le a xs h))
    ∙ take-append-add (take a xs) (ys ++ post_of a k xs) n
    ∙ ap (λ zs. take a xs ++ zs) (take-append-le n ys (post_of a k xs) l)

pub loop-count-preserved : goal.loop-count-preserved
loop-count-preserved g c =
    let a = c.loop-count.count in
    let k = length c.loop-count.buffer - a in
    let joined = filled a k c.in_ok-more.more c.loop-count.buffer c.read.new.buf (omega arith) c.in_ok-more.ensures.bound.0 in (
      omega (arith, c.in_ok-more.ensures.bound.0),
      search rules,
      subst (Consumes _ _) (sym joined) (Consumes-trans _ _ _ _ _ c.loop-count.invariant.2 c.in_ok-more.ensures.bytes.0),
    )
