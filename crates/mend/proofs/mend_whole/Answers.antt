-- Both fields are set, one after the other.
use mathlib.Core.Path.{◌∙◌, refl, ap}
use Rattle.wire.proofs.Same.{holds_same}
use Rattle.wire.proofs.Held.{held-facts}
use Rattle.mend.specs.Mend.{mended_message}
use Rattle.mend.proofs.Fresh.{mended-same}
use Rattle.mend.proofs.mend_whole.Goals as goal

pub mend_message-requires : goal.mend_message-requires
mend_message-requires c =
    rw c.mend_header.ensures (holds_same (mended-same (held-facts c.requires).outer) c.requires)

pub returns : goal.returns
returns c =
    (refl, c.mend_message.ensures ∙ ap mended_message c.mend_header.ensures)
