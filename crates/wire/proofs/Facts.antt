-- What is known of a packet's header whose shape nothing refuses, and of its message.
use Rattle.std.specs.Prelude.{if◌then◌else◌}
use mathlib.Core.Path.{◌≡◌, refl}
use Prim.Native.Nat.{ℕ, ◌+◌, ◌-◌, ◌*◌, ◌/◌, ◌%◌, ◌<◌, ◌≤◌}
use native.Mathlib.Omega.{arith}
use mathlib.Core.List.{List}
use mathlib.Core.Bool.{true, false, true≢false}
use lib.ListN.{length}
use lib.Dec.{ltb, eqb}
use borrow.Author.Tests.{ltb-false, eqb-true}
use Rattle.verdicts.specs.Rules.{IsClear}
use Rattle.verdicts.specs.declared.Verdict.TheVariants.{Fragment}
use Rattle.verdicts.proofs.Tests.{by_cases, or-false}
use Rattle.wire.specs.Bytes.{byte_at, word_at}
use Rattle.wire.specs.Outer.{four, six, version_of, header4_of, header_end, declared_end, family_of, next_of, fragment_of, addresses_at, addresses_length, outer_rules}
use Rattle.wire.specs.Walk.{Way, refused, reached, walk_by, walk_of, protocol_in, start_in}
use Rattle.wire.specs.Table.{row_of, uncovered}
use Rattle.wire.specs.declared.Family.{Family}
use Rattle.wire.specs.declared.Family.TheVariants.{Four, Six}
use Rattle.wire.specs.Messages.{plan_in, said_in, shape_rules}
use Rattle.wire.specs.Inner.{protocol_of, start_of, carried_of, end_of, length_of, message_rules, row_in, body_of, tcp, udp, field_at, pseudo}
use Rattle.wire.proofs.Parts.{part_length, part-byte, part-word}
use Rattle.wire.proofs.Lines.{Lined, row-lined, covered}
use Rattle.wire.proofs.Chains.{walk-by-within}

-- ---- the header
pub record OuterFacts (p : List ℕ) : Type 0 where
  pub some : 0 < byte_at p 0
  pub least : 20 ≤ header_end p
  pub six : four p ≡ false → (header_end p ≡ 40) × (version_of p ≡ 6)
  pub addresses : addresses_at p + addresses_length p ≤ header_end p
  pub order : header_end p ≤ declared_end p
  pub whole : declared_end p ≤ length p

module _ (p : List ℕ) (s : IsClear (outer_rules p)) where
  is6 : four p ≡ false → version_of p ≡ 6
  unfolding outer_rules
  is6 f = by_cases (six p) (λ g. eqb-true (version_of p) 6 g) (λ g. absurd (true≢false (simp (f, g) at s.1.0)))

  long4 : four p ≡ true → 5 ≤ byte_at p 0 % 16
  unfolding outer_rules
  long4 f = ltb-false (byte_at p 0 % 16) 5 (simp f at s.1.1.1.0)

  pub outer-facts : OuterFacts p
  unfolding outer_rules header_end declared_end
  outer-facts =
      record {
        some = by_cases (four p) (λ f. omega (arith, eqb-true (version_of p) 4 f)) (λ f. omega (arith, is6 f));
        least = by_cases (four p) (λ f. simp f (omega (arith, long4 f))) (λ f. simp f (omega arith));
        six = λ f. (simp f, is6 f);
        addresses = by_cases (four p) (λ f. simp f (omega (arith, long4 f))) (λ f. simp f (omega arith));
        order = by_cases (four p)
            (λ f. simp f (ltb-false (word_at p 2) (header4_of p) (simp f at s.1.1.1.1.0)))
            (λ f. simp f (omega arith));
        whole = ltb-false (length p) (declared_end p) s.1.1.1.1.1.0;
      }

-- ---- the message
-- an IPv6 packet's walk begins at its fixed header's end
pub walk-six : (p : List ℕ) → four p ≡ false → walk_of p ≡ walk_by 8 p (40 + word_at p 4) (byte_at p 6) 40
unfolding walk_of header_end declared_end next_of
walk-six p f = rw f

pub walk-four : (p : List ℕ) → four p ≡ true → walk_of p ≡ (if fragment_of p then refused Fragment else reached (next_of p) (header_end p))
unfolding walk_of
walk-four p f = rw f

-- an IPv4 packet's message begins where its header ends
pub start-four : (p : List ℕ) → four p ≡ true → start_of p ≡ header_end p
unfolding start_of
start-four p f = by_cases (fragment_of p) (λ s. rw (walk-four p f, s)) (λ s. rw (walk-four p f, s))

-- it begins behind the header and before the declared end
pub begins : {p : List ℕ} → OuterFacts p → (header_end p ≤ start_of p) × (start_of p ≤ declared_end p)
unfolding start_of header_end declared_end
begins {p} k =
    by_cases (four p)
    (λ f. let e = start-four p f in (omega arith, omega arith))
    (λ f. rw (walk-six p f, f) (walk-by-within p (40 + word_at p 4) 8 (byte_at p 6) 40 (omega arith)))

-- and its field, if it has one, in it
pub field-behind : {p : List ℕ} → OuterFacts p → header_end p ≤ field_at p
unfolding field_at
field-behind k = let b = begins k in omega arith

module _ {p : List ℕ} (k : OuterFacts p) where
  pub carried-length : length (carried_of p) ≡ declared_end p - start_of p
  unfolding carried_of
  carried-length = let b = begins k in part_length p (start_of p) (declared_end p - start_of p) (omega arith)

  pub carried-byte : (i : ℕ) → start_of p + i < declared_end p → byte_at (carried_of p) i ≡ byte_at p (start_of p + i)
  unfolding carried_of
  carried-byte i h = part-byte p (start_of p) (declared_end p - start_of p) i (omega arith)

  pub carried-word : (i : ℕ) → start_of p + i + 1 < declared_end p → word_at (carried_of p) i ≡ word_at p (start_of p + i)
  unfolding carried_of
  carried-word i h = part-word p (start_of p) (declared_end p - start_of p) i (omega arith)

-- what it says of its length
pub not-tcp : (n : ℕ) → eqb n 17 ≡ true → eqb n 6 ≡ false
not-tcp n u = rw (eqb-true n 17 u)

module _ (n : ℕ) (m : List ℕ) where
  pub said-tcp : eqb n 6 ≡ true → said_in n m ≡ byte_at m 12 / 16 * 4
  unfolding said_in
  said-tcp t = rw t

  pub said-udp : eqb n 17 ≡ true → said_in n m ≡ word_at m 4
  unfolding said_in
  said-udp u = rw (eqb-true n 17 u)

-- the walk has reached a covered protocol: none is called 0
reached-by : (family : Family) (header : ℕ) (w : Way) → uncovered (row_of family (protocol_in w)) ≡ false → w ≡ reached (protocol_in w) (start_in header w)
unfolding row_of
reached-by Four header (refused v) c = absurd (true≢false c)
reached-by Six header (refused v) c = absurd (true≢false c)
reached-by family header (reached n at) c = refl

pub covered-reached : (p : List ℕ) → uncovered (row_in p) ≡ false → walk_of p ≡ reached (protocol_of p) (start_of p)
unfolding protocol_of start_of
covered-reached p c = reached-by (family_of p) (header_end p) (walk_of p) c

pub record Facts (p : List ℕ) : Type 0 where
  pub outer : OuterFacts p
  pub walked : walk_of p ≡ reached (protocol_of p) (start_of p)
  pub behind : header_end p ≤ start_of p
  pub early : start_of p + 2 ≤ field_at p
  pub even : (field_at p - start_of p) % 2 ≡ 0
  pub inside : field_at p + 2 ≤ body_of p
  pub body : body_of p ≤ end_of p
  pub whole : end_of p ≤ declared_end p
  pub proto : 0 < protocol_of p
  pub small : protocol_of p < 256
  pub filled : udp p ≡ false → end_of p ≡ declared_end p
  pub tcp : tcp p ≡ true → (field_at p ≡ start_of p + 16) × (start_of p + 20 ≤ body_of p) × (body_of p ≡ start_of p + byte_at p (start_of p + 12) / 16 * 4)
  pub udp : udp p ≡ true → (field_at p ≡ start_of p + 6) × (start_of p + 8 ≤ body_of p) × (word_at p (start_of p + 4) ≡ length_of p)
  pub plain : pseudo p ≡ false → protocol_of p ≡ 1

module _ (p : List ℕ) (s : IsClear (outer_rules p)) (m : IsClear (message_rules p)) where
  listed : uncovered (row_in p) ≡ false
  unfolding message_rules shape_rules
  listed = m.0

  row : Lined (protocol_of p) (plan_in (family_of p) (protocol_of p))
  row = row-lined (family_of p) (protocol_of p) (plan_in (family_of p) (protocol_of p)) (covered (row_in p) listed)

  fixed : (plan_in (family_of p) (protocol_of p)).fixed ≤ length (carried_of p)
  unfolding message_rules shape_rules
  fixed = ltb-false (length (carried_of p)) (plan_in (family_of p) (protocol_of p)).fixed m.1.0

  said : ((plan_in (family_of p) (protocol_of p)).fixed ≤ said_in (protocol_of p) (carried_of p)) × (said_in (protocol_of p) (carried_of p) ≤ length (carried_of p))
  unfolding message_rules shape_rules
  said =
      let least = (plan_in (family_of p) (protocol_of p)).fixed in
      let most = length (carried_of p) in
      let n = said_in (protocol_of p) (carried_of p) in
      let o = or-false (ltb n least) (ltb most n) m.1.1.0 in
      (ltb-false n least o.0, ltb-false most n o.1)

  pub facts : Facts p
  unfolding field_at pseudo body_of end_of
  facts =
      let k = outer-facts p s in
      let b = begins k in
      let l = carried-length k in
      let r = row in
      let x = fixed in
      let o = said in
      record {
        outer = k;
        walked = covered-reached p listed;
        behind = b.0;
        early = omega arith;
        even = omega arith;
        inside = by_cases (tcp p) (λ t. simp t (omega arith)) (λ t. simp t (omega arith));
        body = by_cases (udp p)
            (λ u. simp (u, not-tcp (protocol_of p) u) (omega arith))
            (λ u. by_cases (tcp p) (λ t. simp (u, t) (omega arith)) (λ t. simp (u, t) (omega arith)));
        whole = by_cases (udp p) (λ u. simp u (omega arith)) (λ u. simp u (omega arith));
        proto = r.some;
        small = r.small;
        filled = λ u. simp u (omega arith);
        tcp = λ t.
            let q = r.tcp (eqb-true (protocol_of p) 6 t) in
            (omega arith, simp t (omega arith), simp (t, said-tcp (protocol_of p) (carried_of p) t, carried-byte k 12 (omega arith)));
        udp = λ u.
            let q = r.udp (eqb-true (protocol_of p) 17 u) in
            (omega arith, simp (not-tcp (protocol_of p) u) (omega arith), simp u (omega (arith, said-udp (protocol_of p) (carried_of p) u, carried-word k 4 (omega arith))));
        plain = r.plain;
      }
