-- The judge's blocks at the RFCs' places, for packets of bytes.
use mathlib.Core.Path.{◌≡◌, sym, ap, ap₂, subst, ◌∙◌}
use mathlib.Core.Logic.{◌↔◌}
use Prim.Native.Nat.{ℕ, ◌+◌, ◌-◌, ◌/◌, ◌%◌, ◌≤◌}
use native.Mathlib.Omega.{arith}
use mathlib.Core.List.{List, [], ◌∷◌, ◌++◌, append_assoc}
use mathlib.Core.Bool.{true, false}
use Rattle.verdicts.proofs.Tests.{by_cases}
use Rattle.wire.specs.Bytes.{byte_at, word_at, part, Bytes}
use Rattle.wire.specs.Outer.{four, family_of, header_end, declared_end, next_of, fragment_of, addresses_at, addresses_length}
use Rattle.wire.specs.Messages.{rest_in}
use Rattle.wire.specs.Inner.{protocol_of, start_of, length_of, message_bytes, udp, pseudo, header_bytes, addresses_of, before_of, covered_of}
use Rattle.wire.specs.declared.Family.{Family}
use Rattle.wire.specs.declared.Family.TheVariants.{Four, Six}
use Rattle.wire.proofs.Parts.{part-add, Small, bytes-append, bytes_small, bytes-part}
use Rattle.wire.proofs.Facts.{Facts, walk-four, start-four}
use Rattle.wire.proofs.Same.{same_self, covered-at}
use Rattle.wire.proofs.Held.{before-is, family4, family6}
use Rattle.cover.specs.Sums.{header_total, message_total, header_sums, message_sums}
use Rattle.judge.specs.Rfc.{Right, ihl, data4, upper_length, pseudo4, pseudo6}
use Rattle.judge.proofs.Ones.{right-passes}

module _ (p : List ℕ) where
  -- ---- IPv4
  module _ (f : four p ≡ true) where
    end4 : header_end p ≡ ihl p
    unfolding header_end
    end4 = rw f

    pub start4 : start_of p ≡ ihl p
    start4 = start-four p f ∙ end4

    pub declared4 : declared_end p ≡ word_at p 2
    unfolding declared_end
    declared4 = rw f

    pub length4 : Facts p → udp p ≡ false → length_of p ≡ word_at p 2 - ihl p
    length4 k u = rw (k.filled u, start4, declared4)

    pub protocol4 : Facts p → protocol_of p ≡ byte_at p 9
    unfolding protocol_of next_of
    protocol4 k =
        by_cases (fragment_of p)
        (λ s. let z : protocol_of p ≡ 0 = rw (walk-four p f, s) in absurd (omega (arith, k.proto)))
        (λ s. rw (walk-four p f, s) (rw f))

    pub covered4 : Facts p → pseudo p ≡ true → (n size : ℕ) → protocol_of p ≡ n → length_of p ≡ size → covered_of p ≡ pseudo4 p n size ++ part p (ihl p) size
    covered4 k t n size en es =
        let rest : List ℕ = 0 ∷ n ∷ size / 256 ∷ size % 256 ∷ [] in
        let before : before_of p ≡ pseudo4 p n size =
        before-is p t ∙ simp (family4 p f, f, en, es) (ap (λ l. l ++ rest) (part-add p 12 4 4) ∙ append_assoc (part p 12 4) (part p 16 4) rest) in
        covered-at (same_self p) k ∙ ap₂ ◌++◌ before (ap₂ (part p) start4 es)

    pub plain4 : Facts p → pseudo p ≡ false → udp p ≡ false → covered_of p ≡ data4 p
    unfolding pseudo
    plain4 k t u = covered-at (same_self p) k ∙ simp t (ap₂ (part p) start4 (length4 k u))

  -- ---- IPv6
  module _ (f : four p ≡ false) where
    pub declared6 : declared_end p ≡ 40 + word_at p 4
    unfolding declared_end
    declared6 = rw f

    pub length6 : Facts p → udp p ≡ false → length_of p ≡ upper_length p (start_of p)
    length6 k u = let o = k.outer.six f in rw (k.filled u, declared6) (omega (arith, k.whole))

    pub covered6 : Facts p → pseudo p ≡ true → (n size : ℕ) → size ≤ 65535 → protocol_of p ≡ n → length_of p ≡ size → covered_of p ≡ pseudo6 p n size ++ part p (start_of p) size
    covered6 k t n size h en es =
        let rest : List ℕ = 0 ∷ 0 ∷ size / 256 ∷ size % 256 ∷ 0 ∷ 0 ∷ 0 ∷ n ∷ [] in
        let a : size / 16777216 ≡ 0 = omega arith in
        let b : size / 65536 % 256 ≡ 0 = omega arith in
        let c : size / 256 % 256 ≡ size / 256 = omega arith in
        let before : before_of p ≡ pseudo6 p n size =
        before-is p t ∙ simp (family6 p f, f, en, es, a, b, c) (ap (λ l. l ++ rest) (part-add p 8 16 16) ∙ append_assoc (part p 8 16) (part p 24 16) rest) in
        covered-at (same_self p) k ∙ ap₂ ◌++◌ before (ap (part p (start_of p)) es)

  module _ (b : Bytes p) (k : Facts p) where
    length-small : length_of p ≤ 65535
    length-small =
        by_cases (four p)
        (λ f. omega (arith, declared4 f, b 2, b 3))
        (λ f. let o = k.outer.six f in omega (arith, declared6 f, b 4, b 5))

    rest-small : (family : Family) → Small (rest_in family (protocol_of p) (length_of p))
    rest-small Four = let n = k.small in let l = length-small in omega arith
    rest-small Six = let n = k.small in let l = length-small in omega arith

    before-bytes : Bytes (before_of p)
    unfolding pseudo
    before-bytes =
        let rest = rest_in (family_of p) (protocol_of p) (length_of p) in
        by_cases (pseudo p)
        (λ t. simp t (bytes-append (addresses_of p) rest (bytes-part p (addresses_at p) (addresses_length p) b) (bytes_small rest (rest-small (family_of p)))))
        (λ t. simp t (bytes_small [] tt))

    covered-bytes : Bytes (covered_of p)
    covered-bytes = rw (covered-at (same_self p) k) (bytes-append (before_of p) (message_bytes p) before-bytes (bytes-part p (start_of p) (length_of p) b))

    pub rightly : (block : List ℕ) → covered_of p ≡ block → Right block ↔ (message_sums p ≡ true)
    unfolding message_sums message_total
    rightly block e =
        let r = right-passes (covered_of p) covered-bytes in
        (λ h. r.0 (subst Right (sym e) h), λ h. subst Right e (r.1 h))

  pub header4 : Bytes p → four p ≡ true → Right (part p 0 (ihl p)) ↔ (header_sums p ≡ true)
  unfolding header_sums header_total
  header4 b f =
      let r = right-passes (header_bytes p) (bytes-part p 0 (header_end p) b) in
      let e = ap (part p 0) (end4 f) in
      (λ h. simp f (r.0 (subst Right (sym e) h)), λ h. subst Right e (r.1 (simp f at h)))
