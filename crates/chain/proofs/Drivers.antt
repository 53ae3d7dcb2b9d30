-- A driver that joins a piece only where its own sum ends has at any time the sum of the buffer's first bytes.
use Rattle.std.proofs.Common.{◌≡◌, ℕ, ◌+◌, ◌≤◌, if◌then◌else◌, true, List, [], ◌∷◌, ◌++◌, length, take, drop, sym, ap, ◌∙◌, add-zero, zero-add, arith, length-take, length-drop, take-add, eqb-true, eq-eqb}
use Rattle.verdicts.proofs.Tests.{by_cases}
use Rattle.sums.specs.Partials.{partial_of, nothing, joined, longest, join_of, handed_back}
use Rattle.sums.specs.declared.Partial.{Partial}
use Rattle.sums.proofs.Joins.{join-strings, join-good, empty-partial}
use Rattle.chain.specs.Sizes.{sizes}
use Rattle.chain.specs.Driver.{Piece, piece_of, in_place, driven}
use Rattle.chain.proofs.Chains.{Inside, numbers_of, length_of}

module _ (buffer : List ℕ) (short : length buffer ≤ longest) where
  -- s is the sum of the first bytes
  record First (s : Partial) : Type 0 where
    within : s.length ≤ length buffer
    is : s ≡ partial_of (take s.length buffer)

  piece-length : (p : Piece) → p.0 + p.1 ≤ length buffer → length (take p.1 (drop p.0 buffer)) ≡ p.1
  piece-length p h = omega (arith, length-take p.1 (drop p.0 buffer), length-drop p.0 buffer)

  first-joined : (s : Partial) (p : Piece) → First s → p.0 + p.1 ≤ length buffer → in_place s p ≡ true → First (handed_back (join_of s (piece_of buffer p)))
  unfolding in_place
  first-joined s p f h t =
      let piece = take p.1 (drop p.0 buffer) in
      let w = f.within in
      let e = eqb-true s.length p.0 t in
      let size = piece-length p h in
      rw (ap handed_back (join-good s (partial_of piece) (omega arith)))
      (record {
        within = omega arith;
        is =
            ap (λ t. joined t (partial_of piece)) f.is
            ∙ join-strings (take s.length buffer) piece
            ∙ ap (λ n. partial_of (take s.length buffer ++ take p.1 (drop n buffer))) (sym e)
            ∙ ap partial_of (sym (take-add s.length p.1 buffer))
            ∙ ap (λ n. partial_of (take (s.length + n) buffer)) (sym size);
      })

  driven-first : (s : Partial) (ps : List Piece) → First s → Inside (length buffer) ps → First (driven buffer s ps)
  unfolding driven
  driven-first s [] f h = f
  driven-first s (p ∷ ps) f h =
      by_cases (in_place s p)
      (λ t. rw t (driven-first (handed_back (join_of s (piece_of buffer p))) ps (first-joined s p f h.0 t) h.1))
      (λ t. rw t (driven-first s ps f h.1))

  -- whatever pieces come, and in whatever order: its sum is that of as many bytes as its length says
  pub joined-in-place : (ps : List Piece) → Inside (length buffer) ps
      → ((driven buffer nothing ps).length ≤ length buffer) × (driven buffer nothing ps ≡ partial_of (take (driven buffer nothing ps).length buffer))
  joined-in-place ps h =
      let f = driven-first nothing ps (record { within = omega arith; is = sym empty-partial }) h in
      (f.within, f.is)

  -- and it leaves out no piece that comes in order
  abbrev pub InOrder : ℕ → List Piece → Type 0
  InOrder at [] = Unit
  InOrder at (p ∷ ps) = (at ≡ p.0) × InOrder (at + p.1) ps

  next-joined : (s : Partial) (p : Piece) → p.0 + p.1 ≤ length buffer → s.length ≡ p.0
      → (if in_place s p then handed_back (join_of s (piece_of buffer p)) else s) ≡ joined s (piece_of buffer p)
  unfolding in_place
  next-joined s p h e =
      let size = piece-length p h in
      rw (eq-eqb s.length p.0 e) (ap handed_back (join-good s (piece_of buffer p) (omega arith)))

  driven-length : (s : Partial) (ps : List Piece) → Inside (length buffer) ps → InOrder s.length ps → (driven buffer s ps).length ≡ s.length + length_of ps
  unfolding driven numbers_of sizes
  driven-length s [] h o = sym (add-zero s.length)
  driven-length s (p ∷ ps) h o =
      let size = piece-length p h.0 in
      ap (λ t. (driven buffer t ps).length) (next-joined s p h.0 o.0)
      ∙ driven-length (joined s (piece_of buffer p)) ps h.1 (rw size o.1)
      ∙ omega arith

  pub joined-in-order : (ps : List Piece) → Inside (length buffer) ps → InOrder 0 ps → driven buffer nothing ps ≡ partial_of (take (length_of ps) buffer)
  joined-in-order ps h o =
      (joined-in-place ps h).1 ∙ ap (λ n. partial_of (take n buffer)) (driven-length nothing ps h o ∙ zero-add (length_of ps))
