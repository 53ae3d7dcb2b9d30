-- Every list that passes the tests up to 6 has an unfragmented packet that carries the same.
use Rattle.std.proofs.Common.{◌≡◌, refl, ap, ◌∙◌, ℕ, ◌+◌, ◌-◌, ◌/◌, ◌%◌, ◌≤◌, ◌<◌, arith, List, [], ◌∷◌, ◌++◌, map, true, true≢false, length, length-append, take_at, drop_at, take_all, ne_eqb, le-ltb}
use mathlib.Core.List.Memᴰ
use Rattle.verdicts.specs.Rules.{IsClear}
use Rattle.sums.specs.Total.{odd, total}
use Rattle.sums.specs.Fold.{fold, field_of, passes}
use Rattle.sums.proofs.Passing.{fresh-in-place}
use Rattle.wire.specs.Bytes.{word_at, Bytes}
use Rattle.wire.specs.Outer.{header_end, declared_end, addresses_at, addresses_length, next_of, fragment_of, outer_rules}
use Rattle.wire.specs.Inner.{start_of, carried_of, addresses_of, header_bytes}
use Rattle.wire.proofs.Parts.{part_length, bytes-append, bytes_small, bytes-part}
use Rattle.wire.proofs.Facts.{outer-facts, start-four}
use Rattle.cover.specs.Sums.{header_total, header_sums}
use Rattle.fragments.specs.Fragments.{Piece, packet_of, packets_of, piece_of, together, list_rules, packet_rules, pieces_in}
use Rattle.fragments.specs.Wholes.{Filling, Unfragmented, Carries}
use Rattle.fragments.specs.declared.Fragment.{Fragment}
use Rattle.fragments.proofs.Tails.{packet-outer, packet-four}
use Rattle.fragments.proofs.Filling.{filled-short}
use Rattle.fragments.proofs.Sorting.{Each, sorted-each}
use Rattle.fragments.proofs.Wholes.{packets-has}
use Rattle.fragments.proofs.Reassembly.{list-fills, each-piece}

-- ---- a packet of protocol n between two addresses: a header with no options and a fresh sum, and a message behind it
abbrev front : ℕ → ℕ → List ℕ
front n size = 0x45 ∷ 0 ∷ size / 256 ∷ size % 256 ∷ 0 ∷ 0 ∷ 0 ∷ 0 ∷ 64 ∷ n ∷ []

abbrev fresh_field : ℕ → ℕ → List ℕ → ℕ
fresh_field n size addresses = field_of (fold (total (front n size ++ (0 ∷ 0 ∷ addresses))))

abbrev packet : ℕ → List ℕ → List ℕ → List ℕ
packet n addresses m =
    let f = fresh_field n (20 + length m) addresses in
    front n (20 + length m) ++ (f / 256 ∷ f % 256 ∷ (addresses ++ m))

module _ (n : ℕ) (addresses m : List ℕ) (eight : length addresses ≡ 8) where
  abbrev q : List ℕ
  q = packet n addresses m

  abbrev size : ℕ
  size = 20 + length m

  abbrev field : ℕ
  field = fresh_field n size addresses

  long : length q ≡ size
  long = omega (arith, length-append addresses m)

  declared-is : declared_end q ≡ size
  unfolding declared_end
  declared-is = omega arith

  start_is : start_of q ≡ 20
  unfolding header_end
  start_is = start-four q refl

  header_is : header_bytes q ≡ front n size ++ (field / 256 ∷ field % 256 ∷ addresses)
  unfolding header_end
  header_is = ap (λ xs. front n size ++ (field / 256 ∷ field % 256 ∷ xs)) (take_at addresses m 8 eight)

  sums-right : header_sums q ≡ true
  unfolding header_sums header_total odd
  sums-right = ap (λ xs. passes (total xs)) header_is ∙ fresh-in-place (front n size) addresses field refl refl

  made-unfragmented : Unfragmented q
  unfolding outer_rules fragment_of
  made-unfragmented =
      record {
        outer = (
          ne_eqb (length q) 0 (λ e. omega (arith, long)),
          (refl, (le-ltb (length q) 20 (omega (arith, long)), (refl, (le-ltb (word_at q 2) 20 (omega arith), (le-ltb (length q) (declared_end q) (omega (arith, long, declared-is)), tt))))),
        );
        four = refl;
        header = sums-right;
        unsplit = refl;
      }

  made-protocol : next_of q ≡ n
  unfolding next_of
  made-protocol = refl

  made-addresses : addresses_of q ≡ addresses
  made-addresses = take_at addresses m 8 eight

  made-carries : carried_of q ≡ m
  unfolding carried_of
  made-carries = rw (start_is, declared-is, drop_at addresses m 8 eight) (take_all (size - 20) m (omega arith))

  -- of bytes, if they are and the message is no longer than the longest
  made_bytes : n < 256 → Bytes addresses → Bytes m → length m ≤ 65515 → Bytes q
  made_bytes p a b l =
      bytes-append (front n size ++ (field / 256 ∷ field % 256 ∷ [])) (addresses ++ m)
      (bytes_small (front n size ++ (field / 256 ∷ field % 256 ∷ [])) (omega arith, (omega arith, (omega arith, (omega arith, (omega arith, (omega arith, (omega arith, (omega arith, (omega arith, (p, (omega arith, (omega arith, tt)))))))))))))
      (bytes-append addresses m a b)

-- ---- what fragments carry is such a message
together-bytes : (ps : List Piece) → Each (λ x. Bytes x.bytes) ps → Bytes (together ps)
unfolding together
together-bytes [] k = λ i. omega arith
together-bytes (p ∷ ps) k = bytes-append p.bytes (together ps) k.0 (together-bytes ps k.1)

piece-of-bytes : (p : List ℕ) → Bytes p → Bytes (piece_of p).bytes
unfolding piece_of
piece-of-bytes p b = bytes-part p (header_end p) (declared_end p - header_end p) b

module _ (p : List ℕ) (c : IsClear (packet_rules p)) where
  addresses-long : length (addresses_of p) ≡ 8
  addresses-long = let k = outer-facts p (packet-outer p c) in rw (packet-four p c) (part_length p 12 8 (omega arith))

  protocol-small : Bytes p → next_of p < 256
  unfolding next_of
  protocol-small b = rw (packet-four p c) (b 9)

-- in a buffer of bytes, every list that passes the tests up to 6 has a packet of bytes as the theorem on whole packets asks for
pub whole-exists : (buffer : List ℕ) (fs : List Fragment) → Bytes buffer → Filling buffer fs → (q : List ℕ) × Bytes q × Unfragmented q × Carries buffer fs q
unfolding list_rules
whole-exists buffer [] b l = absurd (true≢false l.list.0)
whole-exists buffer (f ∷ fs) b l =
    let p = packet_of buffer f in
    let n = next_of p in
    let a = addresses_of p in
    let ps = pieces_in buffer (f ∷ fs) in
    let m = together ps in
    let c = packets-has buffer {f = f} {fs = f ∷ fs} (Memᴰ.head refl) l.packets in
    let eight = addresses-long p c in
    let bp = bytes-part buffer f.offset f.length b in
    let t = list-fills buffer (f ∷ fs) l in
    let bm = together-bytes ps (sorted-each (λ x. Bytes x.bytes) [] (map piece_of (packets_of buffer (f ∷ fs))) tt (each-piece (λ x. Bytes x.bytes) buffer (f ∷ fs) (λ g k. piece-of-bytes (packet_of buffer g) (bytes-part buffer g.offset g.length b)))) in (
      packet n a m,
      made_bytes n a m eight (protocol-small p c bp) (bytes-part p (addresses_at p) (addresses_length p) bp) bm (omega (arith, filled-short 0 ps t.1 t.0)),
      made-unfragmented n a m eight,
      record { one = f; among = Memᴰ.head refl; protocol = made-protocol n a m eight; addresses = made-addresses n a m eight; message = made-carries n a m eight },
    )
