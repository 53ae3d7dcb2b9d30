-- A part of a slice written over.
use Rattle.std.proofs.Common.{◌≡◌, ℕ, ◌+◌, ◌≤◌, List, length, take, drop, sym, append_assoc, ◌∙◌}
use Rattle.std.proofs.Math.Seq.{sets-eq, drop-drop}
use borrow.Rule.Slice.PartMut.{put_mid}
use Rattle.wire.specs.Bytes.{put}

-- it is the new bytes put there
pub over : (p : List ℕ) (at k : ℕ) (ys new : List ℕ) → ys ≡ new → k ≡ length new → at + k ≤ length p → put_mid at k p ys ≡ put p at new
unfolding put
over p at k ys new e n h = rw (e, n, drop-drop (length new) at p) (sym (append_assoc (take at p) new (drop (at + length new) p)) ∙ sym (sets-eq new p at (rw n at h)))
