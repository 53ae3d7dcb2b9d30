-- The steps that the code of the edits takes. A reader need not believe these: the edits' contracts cite `kept`.
use Rattle.std.specs.Prelude.{ℕ, ◌+◌, ◌*◌, ◌%◌, ◌≡◌, List, Bool, false, not, ◌&&◌, if◌then◌else◌, Result, Ok, Err}
use Rattle.verdicts.specs.Rules.{first}
use Rattle.verdicts.specs.declared.Verdict.{Verdict}
use Rattle.sums.specs.Fold.{fold, swap}
use Rattle.sums.specs.Update.{updated}
use Rattle.wire.specs.Bytes.{put_word}
use Rattle.wire.specs.Outer.{four}
use Rattle.wire.specs.Inner.{silent_of, message_of, Holds}
use Rattle.wire.specs.declared.Message.{Message}
use Rattle.mend.specs.Fresh.{sent}
use Rattle.kept.specs.Edits.{edit_rules}

-- d is what the total n has more than the total m, both read low byte first, which is to take them 256 times
abbrev pub Change : ℕ → ℕ → ℕ → Type 0
Change d m n = (d + 256 * m) % 65535 ≡ (256 * n) % 65535

-- the field hc after any change that d is, w low byte first
pub record Renewed (udp : Bool) (hc d w : ℕ) : Type 0 where
  pub is : (m n : ℕ) → Change d m n → swap w ≡ sent udp (updated hc (fold m) (fold n))

-- q with the word w, low byte first, in the message's field, unless that is quiet
abbrev pub message_put : Bool → ℕ → List ℕ → ℕ → List ℕ
message_put quiet f q w = if quiet then q else put_word q f (swap w)

-- the message that an edit may change, or the first refusal
unfoldable pub editable_of : List ℕ → Result Message Verdict
editable_of p = first (edit_rules p) Err (Ok (message_of p))

-- m is the message of p, which an edit may change
pub record Editable (p : List ℕ) (m : Message) : Type 0 where
  pub holds : Holds p m
  pub summed : (silent_of p && not (four p)) ≡ false
