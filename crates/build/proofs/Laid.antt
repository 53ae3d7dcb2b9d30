-- A packet laid out, read by the places that judge, mender and edits go by.
use Rattle.std.proofs.Common.{◌≡◌, refl, sym, ap, ap₂, ◌∙◌, inl, inr, ℕ, ◌+◌, ◌-◌, ◌<◌, arith, add-zero, List, ◌++◌, append_assoc, true, false, ◌||◌, length, length-append, take, drop, ltb, eqb, take_at, drop_at, take_all, drop-drop, ne_eqb, le-ltb}
use Rattle.verdicts.specs.Rules.{IsClear}
use Rattle.sums.specs.Total.{total}
use Rattle.wire.specs.Bytes.{byte_at, word_at, part}
use Rattle.wire.specs.Walk.{reached, walk_of, walk_by, met_of, between}
use Rattle.wire.specs.Table.{row_of, uncovered}
use Rattle.wire.specs.Messages.{plan_in, said_in, shape_rules, covered_in}
use Rattle.wire.specs.Inner.{start_of, protocol_of, carried_of, end_of, field_at, body_of, pseudo, message_rules, addresses_of, length_of, message_bytes, silent_of, Holds}
use Rattle.wire.specs.Outer.{family_of, header_end, declared_end, next_of, fragment_of, lifetime_at, addresses_at, address_size, outer_rules}
use Rattle.wire.specs.declared.Family.{Family}
use Rattle.wire.specs.declared.Family.TheVariants.{Four, Six}
use Rattle.wire.specs.declared.Plan.{Plan}
use Rattle.wire.proofs.Parts.{part-word}
use Rattle.cover.specs.Sums.{message_total}
use Rattle.build.specs.Layout.{Asked, datagram_size, datagram_for, header_size, laid}
use Rattle.build.specs.Places.{address_bytes, Fits, places_in}
use Rattle.build.specs.Reads.{Plain}

pub record Read (f : Family) (a : Asked) (m : ℕ) (p : List ℕ) : Type 0 where
  pub long : length p ≡ header_size f + datagram_size a
  pub family : family_of p ≡ f
  pub header : header_end p ≡ header_size f
  pub declared : declared_end p ≡ header_size f + datagram_size a
  pub outer : IsClear (outer_rules p)
  pub walk : walk_of p ≡ reached 17 (header_size f)
  pub addresses : addresses_of p ≡ a.source ++ a.destination
  pub source : part p (addresses_at p) (address_size p) ≡ a.source
  pub destination : part p (addresses_at p + address_size p) (address_size p) ≡ a.destination
  pub lifetime : byte_at p (lifetime_at p) ≡ a.lifetime
  pub behind : drop (header_size f) p ≡ datagram_for a m
  pub plain : start_of p ≡ header_size f → Plain p

pub addresses-long : {f : Family} {a : Asked} → Fits f a → length (a.source ++ a.destination) ≡ address_bytes f + address_bytes f
addresses-long {f} {a} s = let x = s.source in let y = s.destination in omega (arith, length-append a.source a.destination)

-- two strings of one size, and what follows them
first_of : (n : ℕ) (xs ys zs : List ℕ) → length xs ≡ n → take n ((xs ++ ys) ++ zs) ≡ xs
first_of n xs ys zs e = rw (append_assoc xs ys zs) (take_at xs (ys ++ zs) n e)

second-of : (n : ℕ) (xs ys zs : List ℕ) → length xs ≡ n → length ys ≡ n → take n (drop n ((xs ++ ys) ++ zs)) ≡ ys
second-of n xs ys zs e f = rw (append_assoc xs ys zs, drop_at xs (ys ++ zs) n e) (take_at ys zs n f)

module _ (a : Asked) (h m : ℕ) where
  module _ (s : Fits Four a) where
    abbrev p4 : List ℕ
    p4 = laid Four a h m

    long4 : length p4 ≡ 20 + datagram_size a
    unfolding laid
    long4 = omega (arith, length-append (a.source ++ a.destination) (datagram_for a m), addresses-long s)

    declared4 : declared_end p4 ≡ 20 + datagram_size a
    unfolding declared_end laid
    declared4 = omega arith

    read4 : Read Four a m p4
    unfolding laid family_of header_end walk_of next_of fragment_of outer_rules
    read4 =
        record {
          long = long4;
          family = refl;
          header = refl;
          declared = declared4;
          outer = (
            ne_eqb (length p4) 0 (λ e. omega (arith, long4)),
            (refl, (le-ltb (length p4) 20 (omega (arith, long4)), (refl, (le-ltb (word_at p4 2) 20 (omega arith), (le-ltb (length p4) (declared_end p4) (omega (arith, long4, declared4)), tt))))),
          );
          walk = refl;
          addresses = take_at (a.source ++ a.destination) (datagram_for a m) 8 (addresses-long s);
          source = first_of 4 a.source a.destination (datagram_for a m) s.source;
          destination = second-of 4 a.source a.destination (datagram_for a m) s.source s.destination;
          lifetime = refl;
          behind = drop_at (a.source ++ a.destination) (datagram_for a m) 8 (addresses-long s);
          plain = λ e. inl (refl, e, refl, refl, refl);
        }

  module _ (s : Fits Six a) where
    abbrev p6 : List ℕ
    p6 = laid Six a h m

    long6 : length p6 ≡ 40 + datagram_size a
    unfolding laid
    long6 = omega (arith, length-append (a.source ++ a.destination) (datagram_for a m), addresses-long s)

    declared6 : declared_end p6 ≡ 40 + datagram_size a
    unfolding declared_end laid
    declared6 = omega arith

    read6 : Read Six a m p6
    unfolding laid family_of header_end walk_of walk_by met_of between next_of outer_rules
    read6 =
        record {
          long = long6;
          family = refl;
          header = refl;
          declared = declared6;
          outer = (
            ne_eqb (length p6) 0 (λ e. omega (arith, long6)),
            (refl, (le-ltb (length p6) 40 (omega (arith, long6)), (refl, (refl, (le-ltb (length p6) (declared_end p6) (omega (arith, long6, declared6)), tt))))),
          );
          walk = refl;
          addresses = take_at (a.source ++ a.destination) (datagram_for a m) 32 (addresses-long s);
          source = first_of 16 a.source a.destination (datagram_for a m) s.source;
          destination = second-of 16 a.source a.destination (datagram_for a m) s.source s.destination;
          lifetime = refl;
          behind = drop_at (a.source ++ a.destination) (datagram_for a m) 32 (addresses-long s);
          plain = λ e. inr (refl, e, refl, refl);
        }

pub read : (family : Family) (a : Asked) (h m : ℕ) → Fits family a → Read family a m (laid family a h m)
read Four a h m s = read4 a h m s
read Six a h m s = read6 a h m s

-- ---- and from that all its places
pub plan-is : (f : Family) → plan_in f 17 ≡ record { fixed = 8; field = 6; pseudo = true }
unfolding row_of
plan-is Four = refl
plan-is Six = refl

covered-is : (f : Family) → uncovered (row_of f 17) ≡ false
unfolding row_of
covered-is Four = refl
covered-is Six = refl

module _ {f : Family} {a : Asked} {m : ℕ} {p : List ℕ} (r : Read f a m p) where
  pub start_is : start_of p ≡ header_size f
  unfolding start_of
  start_is = rw r.walk

  pub protocol-is : protocol_of p ≡ 17
  unfolding protocol_of
  protocol-is = rw r.walk

  pub carried-is : carried_of p ≡ datagram_for a m
  unfolding carried_of
  carried-is = rw (start_is, r.declared, r.behind) (take_all (header_size f + datagram_size a - header_size f) (datagram_for a m) (omega arith))

  pub end_is : end_of p ≡ header_size f + datagram_size a
  unfolding end_of said_in
  end_is = rw (start_is, protocol-is, carried-is) (omega arith)

  pub field_is : field_at p ≡ header_size f + 6
  unfolding field_at
  field_is = rw (start_is, r.family, protocol-is, plan-is f)

  pub body_is : body_of p ≡ header_size f + 8
  unfolding body_of
  body_is = rw (start_is, r.family, protocol-is, plan-is f)

  pub pseudo-is : pseudo p ≡ true
  unfolding pseudo
  pseudo-is = ap₂ (λ g n. (plan_in g n).pseudo) r.family protocol-is ∙ ap (λ (q : Plan). q.pseudo) (plan-is f)

  said-right : (ltb (word_at (datagram_for a m) 4) 8 || ltb (length (datagram_for a m)) (word_at (datagram_for a m) 4)) ≡ false
  said-right = simp (le-ltb (word_at (datagram_for a m) 4) 8 (omega arith), le-ltb (length (datagram_for a m)) (word_at (datagram_for a m) 4) (omega arith))

  pub inner-clear : IsClear (message_rules p)
  unfolding message_rules shape_rules said_in
  inner-clear =
      rw (r.family, protocol-is, carried-is, plan-is f)
      (covered-is f, (le-ltb (length (datagram_for a m)) 8 (omega arith), (said-right, tt)))

  pub holds : Holds p (places_in f (length a.body))
  holds = record {
    is = rw (r.family, protocol-is, start_is, end_is, field_is, body_is, pseudo-is);
    outer = r.outer;
    inner = inner-clear;
  }

  pub bytes-is : message_bytes p ≡ datagram_for a m
  bytes-is = rw (start_is, end_is, r.behind) (take_all (header_size f + datagram_size a - header_size f) (datagram_for a m) (omega arith))

  pub total-is : message_total p ≡ total (covered_in f 17 (a.source ++ a.destination) (datagram_for a m))
  unfolding message_total
  total-is = rw (r.family, protocol-is, r.addresses, bytes-is)

  pub silent-is : silent_of p ≡ eqb m 0
  unfolding silent_of
  silent-is = rw (r.family, protocol-is, bytes-is, plan-is f) (ap (λ w. eqb w 0) (let e : word_at (datagram_for a m) 6 ≡ m = omega arith in e))

  -- ports and body
  word-is : (i : ℕ) → i + 1 < datagram_size a → word_at p (start_of p + i) ≡ word_at (datagram_for a m) i
  word-is i h = sym (part-word p (start_of p) (length_of p) i (omega (arith, start_is, end_is))) ∙ ap (λ xs. word_at xs i) bytes-is

  pub source-port-is : word_at p (start_of p) ≡ a.source_port
  source-port-is = ap (word_at p) (sym (add-zero (start_of p))) ∙ word-is 0 (omega arith) ∙ omega arith

  pub destination-port-is : word_at p (start_of p + 2) ≡ a.destination_port
  destination-port-is = word-is 2 (omega arith) ∙ omega arith

  pub data_is : part p (body_of p) (end_of p - body_of p) ≡ a.body
  data_is =
      rw (body_is, end_is, sym (drop-drop 8 (header_size f) p), r.behind)
      (take_all (header_size f + datagram_size a - (header_size f + 8)) a.body (omega arith))
