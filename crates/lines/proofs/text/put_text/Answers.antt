-- The bytes put are the page's next.
use Rattle.std.proofs.Common.{refl}
use Rattle.lines.specs.Text.{◌then◌}
use Rattle.lines.proofs.text.put_text.Goals as goal

pub returns : goal.returns
unfolding ◌then◌
returns c = record { out_after = rw c.put_bytes.ensures; value = refl }
