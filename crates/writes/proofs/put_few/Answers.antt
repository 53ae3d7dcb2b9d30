-- None are put.
use Rattle.std.proofs.Common.{◌≡◌, ℕ, List, [], ◌∷◌, length, arith, refl}
use Rattle.wire.specs.Bytes.{put}
use Rattle.writes.proofs.put_few.Goals as goal

none : (p : List ℕ) (at : ℕ) (new : List ℕ) → length new ≡ 0 → p ≡ put p at new
unfolding put
none p at [] e = refl
none p at (x ∷ xs) e = absurd (omega arith)

pub returns-else-size-eq1 : goal.returns-else-size-eq1
returns-else-size-eq1 c = none _ _ _ (omega arith)
