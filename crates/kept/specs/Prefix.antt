-- A prefix exchanged: the first six bytes of an IPv6 address, and the word behind them, so that the address keeps its class modulo
-- 65535 and no sum field need change (RFC 6296 for prefixes of 48 bits).
use Rattle.std.specs.Prelude.{ℕ, zero, suc, ◌+◌, ◌/◌, ◌%◌, List, [], ◌∷◌, ◌++◌, Bool, true, false, not, ◌&&◌, ◌||◌, length, eqb, if◌then◌else◌}
use Rattle.verdicts.specs.Rules.{Rule, ◌⇒◌, first}
use Rattle.verdicts.specs.declared.Verdict.{Verdict}
use Rattle.verdicts.specs.declared.Verdict.TheVariants.{Good, Cut, Version, Place}
use Rattle.sums.specs.Total.{total}
use Rattle.wire.specs.Bytes.{word_at, part, put}
use Rattle.wire.specs.Outer.{six}
use Rattle.kept.specs.Edits.{edit_rules, side_at}

-- ---- the word
abbrev pub class : List ℕ → ℕ
class xs = total xs % 65535

-- the IPv6 address at a
abbrev pub address_at : List ℕ → ℕ → List ℕ
address_at p a = part p a 16

-- a prefix with the word w behind it
abbrev pub with_word : List ℕ → ℕ → List ℕ
with_word prefix w = prefix ++ (w / 256 ∷ w % 256 ∷ [])

-- behind the new prefix, w keeps the class of the address at a
abbrev pub keeps_class : List ℕ → ℕ → List ℕ → ℕ → Bool
keeps_class p a new w = eqb (class (address_at (put p a (with_word new w)) a)) (class (address_at p a))

-- the largest number below n that passes a test, or 0; where one passes alone, that one
unfoldable pub one_below : ℕ → (ℕ → Bool) → ℕ
one_below zero test = 0
one_below (suc n) test = if test n then n else one_below n test

-- of the values 0000 to FFFE the one that keeps it
unfoldable pub word_of : List ℕ → ℕ → List ℕ → ℕ
word_of p a new = one_below 65535 (keeps_class p a new)

-- ---- the edit
-- 2, 3, 4, 6, 7, 8 as the address edit has them, with every version but 6 refused at the version test
abbrev pub six_rules : List ℕ → List Rule
six_rules p = (eqb (length p) 0 ⇒ Cut) ∷ (not (six p) ⇒ Version) ∷ edit_rules p

-- xs begins with ys
abbrev pub begins_with : List ℕ → List ℕ → Bool
begins_with xs [] = true
begins_with [] (y ∷ ys) = false
begins_with (x ∷ xs) (y ∷ ys) = eqb x y && begins_with xs ys

-- place: side; sizes; the address begins otherwise; the word behind its prefix is FFFF
abbrev pub prefix_rules : List ℕ → ℕ → List ℕ → List ℕ → List Rule
prefix_rules p side expected new =
    (not (eqb side 0 || eqb side 1) ⇒ Place)
    ∷ (not (eqb (length expected) 6) ⇒ Place)
    ∷ (not (eqb (length new) 6) ⇒ Place)
    ∷ (not (begins_with (address_at p (side_at p side)) expected) ⇒ Place)
    ∷ (eqb (word_at p (side_at p side + 6)) 65535 ⇒ Place)
    ∷ []

-- what is written at a: the new prefix, and the word that keeps the class
abbrev pub prefix_new : List ℕ → ℕ → List ℕ → List ℕ
prefix_new p a new = with_word new (word_of p a new)

-- no sum field is updated
abbrev pub prefix_left : List ℕ → ℕ → List ℕ → List ℕ
prefix_left p a new = put p a (prefix_new p a new)

unfoldable pub prefix_of : List ℕ → ℕ → List ℕ → List ℕ → Verdict × List ℕ
prefix_of p side expected new = first (six_rules p ++ prefix_rules p side expected new) (λ v. (v, p)) (Good, prefix_left p (side_at p side) new)
