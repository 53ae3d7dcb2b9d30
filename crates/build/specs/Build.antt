-- What building answers, and the buffer that it leaves: request 13.
use Rattle.std.specs.Prelude.{ℕ, List, [], ◌∷◌, Bool, not, ◌||◌, length, ltb, eqb, Result, Ok, Err}
use Rattle.verdicts.specs.Rules.{Rule, ◌⇒◌, first}
use Rattle.verdicts.specs.declared.Verdict.{Verdict}
use Rattle.verdicts.specs.declared.Verdict.TheVariants.{Good, Place, Spent, Room}
use Rattle.wire.specs.Bytes.{put}
use Rattle.build.specs.Layout.{Asked, asked, packet_of, size_of}
use Rattle.build.specs.declared.Udp.{Udp}

-- what a caller asks for
abbrev pub asked_by : Udp → Asked
asked_by u = asked u.source.now u.destination.now u.source_port u.destination_port u.lifetime u.body.now

-- an address of so many bytes is of neither family
abbrev pub neither : ℕ → Bool
neither size = not (eqb size 4 || eqb size 16)

-- an address has the wrong size, the two sizes differ, or the body passes 1,400 bytes
unfoldable pub unfit : (source destination body : ℕ) → Bool
unfit source destination body = neither source || (neither destination || (not (eqb source destination) || ltb 1400 body))

abbrev pub misfit : Asked → Bool
misfit a = unfit (length a.source) (length a.destination) (length a.body)

-- place; spent, if the lifetime is 0; room, if the buffer is too small
unfoldable pub build_rules : Asked → (room : ℕ) → List Rule
build_rules a room =
    (misfit a ⇒ Place)
    ∷ (eqb a.lifetime 0 ⇒ Spent)
    ∷ (ltb room (size_of a) ⇒ Room)
    ∷ []

-- ---- the answer: the packet's length, or why there is none
abbrev pub Built : Type 0
Built = Result ℕ Verdict

abbrev pub refusal : Verdict → Built
refusal v = Err v

abbrev pub done : ℕ → Built
done size = Ok size

-- its verdict, and its length, which is 0 beside a refusal
abbrev pub verdict_in : Built → Verdict
verdict_in (Ok size) = Good
verdict_in (Err v) = v

abbrev pub length_in : Built → ℕ
length_in (Ok size) = size
length_in (Err v) = 0

-- the answer, and the buffer afterwards: a refusal leaves it as it was, and else the packet stands in its first bytes
unfoldable pub built_of : Asked → List ℕ → Built × List ℕ
built_of a buffer =
    first (build_rules a (length buffer))
    (λ v. (refusal v, buffer))
    (done (length (packet_of a)), put buffer 0 (packet_of a))
