-- The fragments' message is judged as an unfragmented packet's: where both pass the tests up to 6, the answer is the judge's verdict on that packet.
use Rattle.std.proofs.Common.{◌≡◌, refl, sym, ap, ◌∙◌, ℕ, ◌+◌, ◌-◌, ◌*◌, ◌/◌, ◌%◌, ◌≤◌, ◌<◌, arith, List, [], ◌∷◌, ◌++◌, map, append-nil, append_assoc, Bool, true, false, not, ◌&&◌, ◌||◌, length, take, drop, length-take, take-take, eqb, le-ltb, eqb-true, eq-eqb, ne_eqb}
use mathlib.Core.List.Memᴰ
use mathlib.Core.List.{Memᴰ}
use borrow.Author.Tests.{eqb-false, not-false}
use Rattle.verdicts.specs.Rules.{Rule, verdict_by, IsClear}
use Rattle.verdicts.specs.declared.Verdict.TheVariants.{Good}
use Rattle.verdicts.specs.declared.Verdict.TheVariants as verdict
use Rattle.verdicts.proofs.Tests.{by_cases, or-false}
use Rattle.verdicts.proofs.Rules.{first-append, first-same, clear_first, clear_both}
use Rattle.sums.specs.Total.{total}
use Rattle.sums.specs.Fold.{passes}
use Rattle.wire.specs.Bytes.{word_at, Bytes, part}
use Rattle.wire.specs.Outer.{four, six, header_end, declared_end, next_of, fragment_of, outer_rules}
use Rattle.wire.specs.Walk.{reached, walk_of, walk_rules}
use Rattle.wire.specs.Messages.{shape_rules, end_in, silent_in, covered_in}
use Rattle.wire.specs.Inner.{protocol_of, start_of, carried_of, end_of, length_of, message_bytes, silent_of, addresses_of}
use Rattle.wire.specs.Inner as inner
use Rattle.wire.specs.declared.Family.TheVariants.{Four}
use Rattle.wire.proofs.Facts.{outer-facts, start-four, walk-four, facts}
use Rattle.wire.proofs.Parts.{bytes-part}
use Rattle.wire.proofs.Held.{family4}
use Rattle.cover.specs.Sums.{message_total, message_sums}
use Rattle.judge.specs.Judge.{header_sum_rule, sum_rules_by, sum_rules, judge_rules, judge_of}
use Rattle.fragments.specs.Fragments.{Piece, some_outside, packet_of, packets_of, list_rules, packet_rules, packets_rules, piece_of, insert, sorted_with, together, shared_with, some_empty, some_past, fills, message_rules, filling_rules, pieces_rules, pieces_in, fragments_rules, fragments_of}
use Rattle.fragments.specs.Wholes.{Filling, Unfragmented, Carries, Placed}
use Rattle.fragments.specs.declared.Fragment.{Fragment}
use Rattle.fragments.proofs.Tails.{packet-outer, packet-four}
use Rattle.fragments.proofs.Sorting.{sorted-has, shared_has, alike-true}

-- ---- an unfragmented packet's message
module _ (q : List ℕ) (o : IsClear (outer_rules q)) (f : four q ≡ true) (n : fragment_of q ≡ false) where
  walked : walk_of q ≡ reached (next_of q) (header_end q)
  walked = walk-four q f ∙ rw n

  walk-clear : IsClear (walk_rules q)
  unfolding walk_rules
  walk-clear = rw walked (refl, (refl, (refl, tt)))

  protocol-is : protocol_of q ≡ next_of q
  unfolding protocol_of
  protocol-is = rw walked

  -- it is the first bytes of what is carried
  length-is : length_of q ≡ end_in (next_of q) (carried_of q)
  unfolding end_of
  length-is = rw protocol-is (omega arith)

  first-bytes : (n : ℕ) → n ≤ declared_end q - start_of q → part q (start_of q) n ≡ take n (carried_of q)
  unfolding carried_of
  first-bytes n l = sym (take-take n (declared_end q - start_of q) (drop (start_of q) q) l)

  bytes-are : IsClear (inner.message_rules q) → message_bytes q ≡ take (end_in (next_of q) (carried_of q)) (carried_of q)
  bytes-are c = let w = (facts q o c).whole in rw length-is (first-bytes (end_in (next_of q) (carried_of q)) (omega (arith, length-is)))

  -- so the judge goes by the rules for a message that is put together
  shape_is : inner.message_rules q ≡ shape_rules Four (next_of q) (carried_of q)
  unfolding inner.message_rules
  shape_is = rw (family4 q f, protocol-is)

  sums-are : IsClear (inner.message_rules q)
      → sum_rules q ≡ (let d = take (end_in (next_of q) (carried_of q)) (carried_of q) in sum_rules_by (silent_in Four (next_of q) d) true (passes (total (covered_in Four (next_of q) (addresses_of q) d))))
  unfolding sum_rules silent_of message_sums message_total
  sums-are c = rw (bytes-are c, family4 q f, protocol-is, f)

  message-judged : verdict_by (walk_rules q ++ (inner.message_rules q ++ sum_rules q)) ≡ verdict_by (message_rules (next_of q) (addresses_of q) (carried_of q))
  unfolding message_rules
  message-judged =
      first-append (walk_rules q) _ (λ v. v) Good ∙ clear_first (walk_rules q) (λ v. v) _ walk-clear
      ∙ first-append (inner.message_rules q) _ (λ v. v) Good ∙ first-same (inner.message_rules q) (λ v. v) _ _ (λ c. ap verdict_by (sums-are c))
      ∙ rw shape_is (sym (first-append (shape_rules Four (next_of q) (carried_of q)) _ (λ v. v) Good))

-- ---- the theorems
pub piece-has : (b : List ℕ) {f : Fragment} {fs : List Fragment} → Memᴰ f fs → Memᴰ (piece_of (packet_of b f)) (map piece_of (packets_of b fs))
piece-has b (Memᴰ.head e) = Memᴰ.head (ap (λ f. piece_of (packet_of b f)) e)
piece-has b (Memᴰ.tail m) = Memᴰ.tail (piece-has b m)

pub packets-has : (b : List ℕ) {f : Fragment} {fs : List Fragment} → Memᴰ f fs → IsClear (packets_rules (packets_of b fs)) → IsClear (packet_rules (packet_of b f))
unfolding packets_rules
packets-has b (Memᴰ.head {x = g} {xs = fs} e) c = rw e (clear_both (packet_rules (packet_of b g)) (packets_rules (packets_of b fs)) c).0
packets-has b (Memᴰ.tail {x = g} {xs = fs} m) c = packets-has b m (clear_both (packet_rules (packet_of b g)) (packets_rules (packets_of b fs)) c).1

-- a packet's piece has its protocol, its addresses and what it carries
module _ (p : List ℕ) (f : four p ≡ true) where
  piece-protocol : (piece_of p).protocol ≡ next_of p
  unfolding piece_of next_of
  piece-protocol = rw f

  piece-addresses : (piece_of p).addresses ≡ addresses_of p
  unfolding piece_of
  piece-addresses = rw f

  piece_bytes : (piece_of p).bytes ≡ carried_of p
  unfolding piece_of carried_of
  piece_bytes = rw (start-four p f)

-- their message decides
pieces-message : (ps : List Piece) {x : Piece} → Memᴰ x ps → IsClear (filling_rules ps) → verdict_by (pieces_rules ps) ≡ verdict_by (message_rules x.protocol x.addresses (together ps))
unfolding pieces_rules filling_rules
pieces-message [] m c = absurd (Memᴰ.not-nil m)
pieces-message (p ∷ ps) {x} m c =
    let a = alike-true p x (shared_has m (not-false (shared_with p ps) c.0)) in
    rw (c.0, c.1.0, c.1.1.0, c.1.1.1.0, a.1, a.2)

-- so does that of an unfragmented packet, by the same rules
unfragmented-message : (q : List ℕ) → Unfragmented q → judge_of q ≡ verdict_by (message_rules (next_of q) (addresses_of q) (carried_of q))
unfolding judge_of judge_rules
unfragmented-message q u =
    first-append (outer_rules q) _ (λ v. v) Good ∙ clear_first (outer_rules q) (λ v. v) _ u.outer ∙ rw u.header (message-judged q u.outer u.four u.unsplit)

-- a list that passes the tests up to 6 has the judge's verdict on every unfragmented packet that carries the same
pub fragments-whole : (buffer : List ℕ) (fs : List Fragment) (q : List ℕ) → Filling buffer fs → Unfragmented q → Carries buffer fs q → fragments_of buffer fs ≡ judge_of q
unfolding fragments_of fragments_rules
fragments-whole buffer fs q l u c =
    let p = packet_of buffer c.one in
    let f = packet-four p (packets-has buffer c.among l.packets) in
    first-append (list_rules (length buffer) fs) _ (λ v. v) Good ∙ clear_first (list_rules (length buffer) fs) (λ v. v) _ l.list
    ∙ first-append (packets_rules (packets_of buffer fs)) _ (λ v. v) Good ∙ clear_first (packets_rules (packets_of buffer fs)) (λ v. v) _ l.packets
    ∙ pieces-message (pieces_in buffer fs) (sorted-has (piece-has buffer c.among) []) l.pieces
    ∙ rw (piece-protocol p f, piece-addresses p f, ← c.protocol, ← c.addresses, ← c.message) (sym (unfragmented-message q u))

-- ---- one packet alone
-- it fills a message where the packet is no fragment
lone-fills : (p : List ℕ) → four p ≡ true → fills 0 (piece_of p ∷ []) ≡ not (fragment_of p)
unfolding fills piece_of fragment_of
lone-fills p f = rw f (tests (word_at p 6 % 8192) (eqb (word_at p 6 / 8192 % 2) 1))
  where
    tests : (x : ℕ) (more : Bool) → (eqb (8 * x) 0 && not more) ≡ not (more || not (eqb x 0))
    tests x true = by_cases (eqb (8 * x) 0) (λ t. rw t) (λ t. rw t)
    tests x false = by_cases (eqb x 0) (λ t. rw (t, eq-eqb (8 * x) 0 (omega (arith, eqb-true x 0 t)))) (λ t. rw (t, ne_eqb (8 * x) 0 (λ e. eqb-false x 0 t (omega arith))))

module _ (p : List ℕ) (c : IsClear (packet_rules p)) (m : Placed (piece_of p)) where
  shape-clear : (shared_with (piece_of p) [] ≡ true) × (some_empty (piece_of p ∷ []) ≡ false) × (some_past (piece_of p ∷ []) ≡ false)
  unfolding shared_with some_empty some_past
  shape-clear = (
    refl,
    rw (ne_eqb (length (piece_of p).bytes) 0 (λ e. omega arith)),
    rw (le-ltb 65515 ((piece_of p).begin + length (piece_of p).bytes) m.within),
  )

  lone-split : fragment_of p ≡ true → verdict_by (pieces_rules (piece_of p ∷ [])) ≡ verdict.Fragment
  unfolding pieces_rules filling_rules
  lone-split s = let t = shape-clear in rw (t.0, t.1, t.2, lone-fills p (packet-four p c), s)

  lone-carries : together (piece_of p ∷ []) ≡ carried_of p
  unfolding together
  lone-carries = rw (piece_bytes p (packet-four p c)) (append-nil (carried_of p))

  lone-whole : fragment_of p ≡ false → verdict_by (pieces_rules (piece_of p ∷ [])) ≡ verdict_by (message_rules (next_of p) (addresses_of p) (carried_of p))
  unfolding filling_rules
  lone-whole s =
      let f = packet-four p c in
      let t = shape-clear in
      pieces-message (piece_of p ∷ []) (Memᴰ.head refl) (rw t.0, (t.1, (t.2, (rw (lone-fills p f, s), tt))))
      ∙ rw (lone-carries, piece-protocol p f, piece-addresses p f)

  lone-judged : verdict_by (pieces_rules (piece_of p ∷ [])) ≡ verdict_by (walk_rules p ++ (inner.message_rules p ++ sum_rules p))
  unfolding walk_rules
  lone-judged =
      let f = packet-four p c in
      by_cases (fragment_of p)
      (λ s. lone-split s ∙ rw (walk-four p f, s))
      (λ s. lone-whole s ∙ sym (message-judged p (packet-outer p c) f s))

-- rules behind the same rules
same-behind : (rules xs ys : List Rule) → (IsClear rules → verdict_by xs ≡ verdict_by ys) → verdict_by (rules ++ xs) ≡ verdict_by (rules ++ ys)
same-behind rules xs ys e = first-append rules xs (λ v. v) Good ∙ first-same rules (λ v. v) (verdict_by xs) (verdict_by ys) e ∙ sym (first-append rules ys (λ v. v) Good)

-- a record inside the buffer, alone, whose packet isn't version 6: it has the judge's verdict, wherever its header is refused or its bytes are placed so
pub one-fragment : (buffer : List ℕ) (f : Fragment) → f.offset + f.length ≤ length buffer → six (packet_of buffer f) ≡ false
    → (IsClear (packet_rules (packet_of buffer f)) → Placed (piece_of (packet_of buffer f)))
    → fragments_of buffer (f ∷ []) ≡ judge_of (packet_of buffer f)
unfolding fragments_of fragments_rules list_rules some_outside packets_rules packet_rules sorted_with insert judge_of judge_rules
one-fragment buffer f l v m =
    let p = packet_of buffer f in
    let rules = outer_rules p ++ header_sum_rule p in
    rw (le-ltb (length buffer) (f.offset + f.length) l, v, append-nil rules, ← append_assoc (outer_rules p) (header_sum_rule p) (walk_rules p ++ (inner.message_rules p ++ sum_rules p)))
    (same-behind rules _ _ (λ c. lone-judged p (v, c) (m (v, c))))

-- in a buffer of bytes, a whole packet's are placed so where its message isn't empty
module _ (p : List ℕ) (bytes : Bytes p) (c : IsClear (packet_rules p)) (n : fragment_of p ≡ false) where
  whole-begins : (piece_of p).begin ≡ 0
  unfolding piece_of fragment_of
  whole-begins =
      let s = or-false (eqb (word_at p 6 / 8192 % 2) 1) (not (eqb (word_at p 6 % 8192) 0)) (rw (packet-four p c) at n) in
      omega (arith, eqb-true (word_at p 6 % 8192) 0 (not-false (eqb (word_at p 6 % 8192) 0) s.1))

  declared-is : declared_end p ≡ word_at p 2
  unfolding declared_end
  declared-is = rw (packet-four p c)

  whole-short : length (piece_of p).bytes ≤ 65515
  unfolding piece_of
  whole-short =
      let k = (outer-facts p (packet-outer p c)).least in
      omega (arith, length-take (declared_end p - header_end p) (drop (header_end p) p), declared-is, bytes 2, bytes 3)

  whole-placed : 0 < length (carried_of p) → Placed (piece_of p)
  whole-placed s = record { some = rw (piece_bytes p (packet-four p c)) s; within = omega (arith, whole-begins, whole-short) }

-- so in a buffer of bytes a single whole packet has the judge's verdict, where it isn't version 6 and its message isn't empty
pub one-whole : (buffer : List ℕ) (f : Fragment) → Bytes buffer → f.offset + f.length ≤ length buffer
    → six (packet_of buffer f) ≡ false → fragment_of (packet_of buffer f) ≡ false → 0 < length (carried_of (packet_of buffer f))
    → fragments_of buffer (f ∷ []) ≡ judge_of (packet_of buffer f)
one-whole buffer f bytes l v n s = one-fragment buffer f l v (λ c. whole-placed (packet_of buffer f) (bytes-part buffer f.offset f.length bytes) c n s)
