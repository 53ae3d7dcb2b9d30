-- What `mend` answers, by what `wire` answers of the packet's shape.
use Rattle.std.specs.Prelude.{◌≡◌, ℕ, List, Result, Ok, Err}
use Rattle.std.proofs.Common.{sym, ◌∙◌}
use Rattle.verdicts.specs.declared.Verdict.{Verdict}
use Rattle.verdicts.specs.declared.Verdict.TheVariants.{Good}
use Rattle.wire.specs.Inner.{whole_of}
use Rattle.wire.specs.declared.Message.{Message}
use Rattle.wire.proofs.Held.{by_whole}
use Rattle.mend.specs.Mend.{mended_header, mended_message, mend_of}

pub mend_refused : (p : List ℕ) (r : Result Message Verdict) (v : Verdict) → r ≡ Err v → r ≡ whole_of p → (v, p) ≡ mend_of p
unfolding mend_of
mend_refused p r v e w = sym (by_whole p _ _ ∙ rw (← w, e))

pub mend_done : (p : List ℕ) (r : Result Message Verdict) (m : Message) → r ≡ Ok m → r ≡ whole_of p → (Good, mended_message (mended_header p)) ≡ mend_of p
unfolding mend_of
mend_done p r m e w = sym (by_whole p _ _ ∙ rw (← w, e))
