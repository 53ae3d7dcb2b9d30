-- What the code goes by. A reader need not believe these: the contract of `exchange_prefix` cites `kept`.
use Rattle.std.specs.Prelude.{ℕ, ◌+◌, ◌*◌, List, [], ◌∷◌, not, length, eqb}
use Rattle.verdicts.specs.Rules.{◌⇒◌, first}
use Rattle.verdicts.specs.declared.Verdict.{Verdict}
use Rattle.verdicts.specs.declared.Verdict.TheVariants.{Good, Place}
use Rattle.sums.specs.Low.{two_at, four_at}
use Rattle.wire.specs.Bytes.{word_at}
use Rattle.kept.specs.Prefix.{address_at, begins_with, prefix_left}

-- what it answers of the address at a, where no edit is refused and the side is known
abbrev pub prefix_in : List ℕ → ℕ → List ℕ → List ℕ → Verdict × List ℕ
prefix_in p a expected new =
    first
    ((not (eqb (length expected) 6) ⇒ Place)
    ∷ (not (eqb (length new) 6) ⇒ Place)
    ∷ (not (begins_with (address_at p a) expected) ⇒ Place)
    ∷ (eqb (word_at p (a + 6)) 65535 ⇒ Place)
    ∷ [])
    (λ v. (v, p)) (Good, prefix_left p a new)

-- the number of six bytes, low byte first
unfoldable pub six_of : List ℕ → ℕ
six_of xs = four_at xs 0 + 4294967296 * two_at xs 4
