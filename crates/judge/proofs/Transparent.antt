-- The walk is transparent: with its headers between taken out a packet has the same verdict.
use mathlib.Core.Path.{◌≡◌, refl, sym, ap, ◌∙◌}
use mathlib.Core.Logic.{◌⊎◌, inl, inr, ⊎_elim}
use Prim.Native.Nat.{ℕ, ◌+◌, ◌-◌, ◌/◌, ◌%◌, ◌<◌, ◌≤◌}
use native.Mathlib.Omega.{arith}
use mathlib.Core.List.{List, [], ◌∷◌, ◌++◌}
use mathlib.Core.Bool.{false}
use lib.ListN.{length, take, drop, length-append, length-drop, get_or-append}
use lib.Seq.{length-take-le, get_or-take, get_or-drop, get_or-append-add}
use borrow.Author.Tests.{eq-eqb, ne_eqb, le-ltb}
use Rattle.verdicts.specs.Rules.{first, IsClear}
use Rattle.verdicts.specs.declared.Verdict.{Verdict}
use Rattle.verdicts.specs.declared.Verdict.TheVariants.{Good}
use Rattle.verdicts.proofs.Rules.{first-append, first-same, clear_first}
use Rattle.wire.specs.Bytes.{byte_at, word_at}
use Rattle.wire.specs.Outer.{four, version_of, family_of, header_end, declared_end, outer_rules}
use Rattle.wire.specs.Walk.{reached, walk_of, walk_rules, protocol_in, start_in}
use Rattle.wire.specs.Inner.{protocol_of, start_of, carried_of, end_of, length_of, message_bytes, silent_of, message_rules, addresses_of}
use Rattle.wire.proofs.Parts.{part_moved, part_same}
use Rattle.wire.proofs.Writes.{Wrote, put-wrote}
use Rattle.wire.proofs.Meeting.{message}
use Rattle.wire.proofs.Chains.{at-message}
use Rattle.wire.proofs.Facts.{OuterFacts, outer-facts, walk-six, begins, facts}
use Rattle.wire.proofs.Walks.{walk-arrives, clear-reached}
use Rattle.cover.specs.Sums.{message_total, message_sums}
use Rattle.judge.specs.Judge.{sum_rules, judge_rules, judge_of}
use Rattle.judge.specs.Stripped.{remaining, stripped}
use Rattle.judge.proofs.Answers.{sums6}

self : Verdict → Verdict
self v = v

-- where header and walk refuse nothing, the message decides
decided : (p : List ℕ) → IsClear (outer_rules p) → four p ≡ false → IsClear (walk_rules p) → judge_of p ≡ first (message_rules p) self (first (sum_rules p) self Good)
unfolding judge_of judge_rules self
decided p o f w =
    first-append (outer_rules p) _ self Good ∙ clear_first (outer_rules p) self _ o
    ∙ simp (sym (sums6 p f)) (first-append (walk_rules p) _ self Good ∙ clear_first (walk_rules p) self _ w ∙ first-append (message_rules p) (sum_rules p) self Good)

module _ (p : List ℕ) (o : IsClear (outer_rules p)) (f : four p ≡ false) (w : IsClear (walk_rules p)) where
  known : OuterFacts p
  known = outer-facts p o

  -- ---- the bytes of the packet without them
  joined : List ℕ
  joined = take 40 p ++ drop (start_of p) p

  fixed : length (take 40 p) ≡ 40
  fixed = let k = known in let s = k.six f in length-take-le 40 p (omega arith)

  long : length joined ≡ 40 + (length p - start_of p)
  unfolding joined
  long = length-append (take 40 p) (drop (start_of p) p) ∙ rw (fixed, length-drop (start_of p) p)

  wrote : Wrote joined (stripped p) 4 (remaining p / 256 ∷ remaining p % 256 ∷ protocol_of p ∷ [])
  unfolding stripped joined
  wrote = put-wrote joined 4 (remaining p / 256 ∷ remaining p % 256 ∷ protocol_of p ∷ []) (omega (arith, long))

  early : (i : ℕ) → i < 40 → (i < 4) ⊎ (7 ≤ i) → byte_at (stripped p) i ≡ byte_at p i
  unfolding joined
  early i h s =
      ⊎_elim (λ l. wrote.below i l) (λ l. wrote.above i (omega arith)) s
      ∙ get_or-append (take 40 p) (drop (start_of p) p) 0 i (omega (arith, fixed)) ∙ get_or-take 40 p i 0 h

  behind : (i : ℕ) → byte_at (stripped p) (40 + i) ≡ byte_at p (start_of p + i)
  unfolding joined
  behind i =
      let e : length (take 40 p) + i ≡ 40 + i = omega (arith, fixed) in
      wrote.above (40 + i) (omega arith) ∙ rw (sym e) (get_or-append-add (take 40 p) (drop (start_of p) p) i 0 ∙ get_or-drop (start_of p) p i 0)

  -- ---- its header
  zero_is : byte_at (stripped p) 0 ≡ byte_at p 0
  zero_is = early 0 (omega arith) (inl (omega arith))

  pub four_is : four (stripped p) ≡ false
  four_is = rw zero_is f

  declared-is : declared_end (stripped p) ≡ 40 + remaining p
  unfolding declared_end
  declared-is = simp four_is (omega (arith, wrote.inside 0 4 refl (omega arith), wrote.inside 1 5 refl (omega arith)))

  outer-is : IsClear (outer_rules (stripped p))
  unfolding outer_rules remaining
  outer-is =
      let k = known in
      let b = begins k in
      let s = k.six f in
      let l : length (stripped p) ≡ 40 + (length p - start_of p) = wrote.long ∙ long in
      let v : version_of (stripped p) ≡ 6 = omega (arith, zero_is) in
      let d = declared-is in (
        ne_eqb (length (stripped p)) 0 (λ e. omega arith),
        (
          simp (four_is, eq-eqb (version_of (stripped p)) 6 v),
          (
            simp four_is (le-ltb (length (stripped p)) 40 (omega arith)),
            (
              simp four_is,
              (
                simp four_is,
                (le-ltb (length (stripped p)) (declared_end (stripped p)) (omega arith), tt),
              ),
            ),
          ),
        ),
      )

  -- ---- nothing is left to walk
  walked : walk_of (stripped p) ≡ reached (protocol_of p) 40
  walked =
      let n = protocol_of p in
      let end = 40 + word_at (stripped p) 4 in
      let other = (walk-arrives p f (clear-reached p w)).other in
      walk-six (stripped p) four_is ∙ rw (wrote.inside 2 6 refl (omega arith)) (at-message (stripped p) end 8 n 40 (message (stripped p) end 8 n 40 other))

  walk_is : IsClear (walk_rules (stripped p))
  unfolding walk_rules
  walk_is = rw walked (refl, (refl, (refl, tt)))

  protocol-is : protocol_of (stripped p) ≡ protocol_of p
  unfolding protocol_of
  protocol-is = ap protocol_in walked

  start_is : start_of (stripped p) ≡ 40
  unfolding start_of
  start_is = ap (start_in (header_end (stripped p))) walked

  -- ---- and the message is the same
  family-is : family_of (stripped p) ≡ family_of p
  unfolding family_of
  family-is = simp zero_is

  carried-is : carried_of (stripped p) ≡ carried_of p
  unfolding carried_of remaining
  carried-is =
      let k = known in
      let b = begins k in
      let l = wrote.long ∙ long in
      let e : 40 + remaining p - 40 ≡ remaining p = omega arith in
      rw (start_is, declared-is, e) (part_moved p (stripped p) (start_of p) 40 (remaining p) (omega arith) (omega arith) (λ i h. behind i))

  rules-is : message_rules (stripped p) ≡ message_rules p
  unfolding message_rules
  rules-is = rw (family-is, protocol-is, carried-is)

  length-is : length_of (stripped p) ≡ length_of p
  unfolding end_of
  length-is = rw (start_is, protocol-is, carried-is) (omega arith)

  module _ (c : IsClear (message_rules p)) where
    bytes-is : message_bytes (stripped p) ≡ message_bytes p
    bytes-is =
        let k = facts p o c in
        let l = wrote.long ∙ long in
        rw (length-is, start_is) (part_moved p (stripped p) (start_of p) 40 (length_of p) (omega arith) (omega arith) (λ i h. behind i))

    addresses-is : addresses_of (stripped p) ≡ addresses_of p
    addresses-is =
        let k = known in
        let s = k.six f in
        let l = wrote.long ∙ long in
        rw (four_is, f) (part_same p (stripped p) 8 32 (omega arith) (omega arith) (λ i a b. early i (omega arith) (inr (omega arith))))

    silent-is : silent_of (stripped p) ≡ silent_of p
    unfolding silent_of
    silent-is = rw (family-is, protocol-is, bytes-is)

    total-is : message_total (stripped p) ≡ message_total p
    unfolding message_total
    total-is = rw (family-is, protocol-is, addresses-is, bytes-is)

    sums-is : sum_rules (stripped p) ≡ sum_rules p
    unfolding sum_rules message_sums
    sums-is = rw (silent-is, four_is, f, total-is)

  pub walk-transparent : judge_of (stripped p) ≡ judge_of p
  walk-transparent =
      decided (stripped p) outer-is four_is walk_is
      ∙ rw rules-is (first-same (message_rules p) self _ _ (λ c. ap (λ rules. first rules self Good) (sums-is c)))
      ∙ sym (decided p o f w)
