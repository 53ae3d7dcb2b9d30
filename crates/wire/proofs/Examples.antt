-- IPv6 packets that show what the walk says: each statement is computed.
use mathlib.Core.Path.{◌≡◌, refl}
use Prim.Native.Nat.{ℕ, zero, suc}
use mathlib.Core.List.{List, [], ◌∷◌, ◌++◌}
use lib.ListN.{replicate}
use Rattle.verdicts.specs.declared.Verdict.TheVariants.{Shape, Fragment, Uncovered}
use Rattle.wire.specs.Outer.{header_end, declared_end, next_of, fragment_of}
use Rattle.wire.specs.Walk.{refused, reached, between, late, unfinished_at, header_rules, met_of, walk_by, walk_of}

-- a fixed header with its payload's length and next header
abbrev fixed : ℕ → ℕ → List ℕ
fixed size n = 0x60 ∷ replicate 4 0 ++ (size ∷ n ∷ replicate 33 0)

-- a header of 8 bytes with its next header, and one of 16 with its byte 3 too
abbrev short : ℕ → List ℕ
short n = n ∷ replicate 7 0

abbrev long : ℕ → ℕ → List ℕ
long n segments = n ∷ 1 ∷ 0 ∷ segments ∷ replicate 12 0

-- so many of destination options, and behind them n
abbrev options : ℕ → ℕ → List ℕ
options zero n = []
options (suc zero) n = short n
options (suc (suc count)) n = short 60 ++ options (suc count) n

-- none between; one of each kind; byte 3 doesn't count in options; a header that ends with the payload, before no next header; eight
reaches :
    (walk_of (fixed 8 17) ≡ reached 17 40)
    × (walk_of (fixed 40 0 ++ (short 43 ++ (long 60 0 ++ short 17))) ≡ reached 17 72)
    × (walk_of (fixed 40 60 ++ long 6 1) ≡ reached 6 56)
    × (walk_of (fixed 8 60 ++ short 59) ≡ reached 59 48)
    × (walk_of (fixed 64 60 ++ options 8 6) ≡ reached 6 104)
unfolding header_end declared_end next_of fragment_of between late unfinished_at header_rules met_of walk_by walk_of
reaches = (refl, refl, refl, refl, refl)

-- a fragment with no bytes left, and as ninth header; another ninth; a late hop-by-hop with no bytes left
stops :
    (walk_of (fixed 0 44) ≡ refused Fragment)
    × (walk_of (fixed 64 60 ++ options 8 44) ≡ refused Fragment)
    × (walk_of (fixed 64 60 ++ options 8 60) ≡ refused Uncovered)
    × (walk_of (fixed 8 60 ++ short 0) ≡ refused Uncovered)
unfolding header_end declared_end next_of fragment_of between late unfinished_at header_rules met_of walk_by walk_of
stops = (refl, refl, refl, refl)

-- 7 bytes left; one byte past the payload, with segments left too; segments left
strays :
    (walk_of (fixed 7 60 ++ short 17) ≡ refused Shape)
    × (walk_of (fixed 15 43 ++ long 17 1) ≡ refused Shape)
    × (walk_of (fixed 16 43 ++ long 17 1) ≡ refused Uncovered)
unfolding header_end declared_end next_of fragment_of between late unfinished_at header_rules met_of walk_by walk_of
strays = (refl, refl, refl)
