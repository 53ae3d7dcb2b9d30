-- Each answer of `way_of`, from the facts that lead to it, and what the loop keeps.
use Rattle.std.specs.Prelude.{Ok, Err}
use mathlib.Core.Path.{◌≡◌, refl, sym, ap, ◌∙◌}
use Prim.Native.Nat.{ℕ, zero, suc, ◌+◌, ◌-◌, ◌≤◌}
use native.Mathlib.Omega.{arith}
use mathlib.Core.List.{List}
use mathlib.Core.Bool.{true, false}
use lib.ListN.{length, take}
use lib.Seq.{length-take-le, get_or-take}
use Rattle.verdicts.specs.declared.Verdict.{Verdict}
use Rattle.verdicts.specs.declared.Verdict.TheVariants.{Fragment, Uncovered}
use Rattle.wire.specs.Bytes.{byte_at, word_at}
use Rattle.wire.specs.Outer.{family_of, declared_end, next_of, outer_of}
use Rattle.wire.specs.Walk.{Way, reached, size_at, met_of, walk_by}
use Rattle.wire.specs.Chain.{Other}
use Rattle.wire.specs.Table.{row_of}
use Rattle.wire.specs.declared.Carried.{Carried}
use Rattle.wire.specs.Inner.{listed, way_of}
use Rattle.wire.specs.declared.Family.TheVariants.{Four, Six}
use Rattle.wire.specs.declared.Header.{Header}
use Rattle.wire.specs.declared.way.Met.TheVariants.{Header as Met-as-Header, Message}
use Rattle.wire.proofs.Meeting.{message, met-passed}
use Rattle.wire.proofs.Chains.{at-refusal, at-message, at-header, walk-by-within, walked-in, walk-by-same}
use Rattle.wire.proofs.Facts.{OuterFacts, outer-facts, walk-six, walk-four}
use Rattle.wire.proofs.Held.{headed, is-four, is-six}

-- ---- what the table has is no header between
no-refusal : (c : Carried) (v : Verdict) → Err v ≡ Ok c → ⊥
no-refusal c v e = let z : ◌≡◌ {A = ℕ} 0 1 = cc in omega arith

listed-other : (end n at : ℕ) {c : Carried} → listed Six end (reached n at) ≡ Ok c → Other n
unfolding row_of
listed-other end n at {c} h =
    record {
      hop = λ e. no-refusal c Uncovered (rw e at h);
      routing = λ e. no-refusal c Uncovered (rw e at h);
      fragment = λ e. no-refusal c Uncovered (rw e at h);
      destination = λ e. no-refusal c Uncovered (rw e at h);
    }

-- ---- the walk in an IPv4 packet, and in an IPv6 packet with no header between
module _ (p : List ℕ) (h : Header) (e : Ok h ≡ outer_of p) where
  known : OuterFacts p
  known = outer-facts p (headed p h e).outer

  module _ (f : h.family ≡ Four) where
    family4 : family_of p ≡ Four
    family4 = sym (ap (λ (x : Header). x.family) (headed p h e).is) ∙ f

    pub split4 : h.fragment ≡ true → Err Fragment ≡ way_of p
    unfolding way_of
    split4 s = rw (family4, walk-four p (is-four p family4)) (simp (rw (headed p h e).is at s))

    pub direct4 : h.fragment ≡ false → listed Four h.declared (reached h.next h.end) ≡ way_of p
    unfolding way_of
    direct4 s = rw (family4, walk-four p (is-four p family4)) (simp (rw (headed p h e).is at s) (rw (headed p h e).is))

  module _ (f : h.family ≡ Six) where
    family6 : family_of p ≡ Six
    family6 = sym (ap (λ (x : Header). x.family) (headed p h e).is) ∙ f

    six-next : h.next ≡ byte_at p 6
    unfolding next_of
    six-next = ap (λ (x : Header). x.next) (headed p h e).is ∙ simp (is-six p family6)

    six-end : h.end ≡ 40
    six-end = ap (λ (x : Header). x.end) (headed p h e).is ∙ (known.six (is-six p family6)).0

    six-declared : h.declared ≡ declared_end p
    six-declared = ap (λ (x : Header). x.declared) (headed p h e).is

    pub direct6 : Other h.next → listed Six h.declared (reached h.next h.end) ≡ way_of p
    unfolding way_of
    direct6 o =
        let n = h.next in
        let end = 40 + word_at p 4 in
        rw (family6, walk-six p (is-six p family6), ← six-next, at-message p end 8 n 40 (message p end 8 n 40 o), six-end, six-declared)

    -- so it is where the table has what comes next
    pub known6 : {c : Carried} → listed Six h.declared (reached h.next h.end) ≡ Ok c → Ok c ≡ way_of p
    known6 e = sym e ∙ direct6 (listed-other h.declared h.next h.end e)

    -- the packet up to its declared end
    pub room6 : (length (take h.declared p) ≡ h.declared) × (40 ≤ h.declared)
    room6 =
        let k = known in
        let s = k.six (is-six p family6) in
        (length-take-le h.declared p (omega (arith, six-declared)), omega (arith, six-declared))

    -- the walk over that is the walk over all of it
    pub over6 : listed Six (length (take h.declared p)) (walk_by 8 (take h.declared p) (length (take h.declared p)) h.next 40) ≡ way_of p
    unfolding way_of declared_end
    over6 =
        let g = is-six p family6 in
        let end = 40 + word_at p 4 in
        let d : h.declared ≡ end = six-declared ∙ simp g in
        let m = walked-in 40 end (walk_by 8 p end (byte_at p 6) 40) (walk-by-within p end 8 (byte_at p 6) 40 (omega arith)).1 in
        let w : walk_by 8 (take end p) end (byte_at p 6) 40 ≡ walk_by 8 p end (byte_at p 6) 40 =
        walk-by-same p (take end p) end 8 (byte_at p 6) 40 (omega arith) (λ x a b. get_or-take end p x 0 (omega arith)) in
        rw (room6.0, d, six-next, family6, walk-six p g, w) (simp g)

-- ---- what the loop keeps: the walk from here on is the whole walk
pub record Walking (p : List ℕ) (end n at left : ℕ) (whole : Way) : Type 0 where
  pub rest : walk_by left p end n at ≡ whole
  pub near : at ≤ end

module _ {p : List ℕ} {end : ℕ} {whole : Way} where
  pub walking-refused : {n at left : ℕ} {v : Verdict} → Walking p end n at left whole → Err v ≡ met_of p end left n at → Err v ≡ listed Six end whole
  walking-refused {n} {at} {left} {v} w e = ap (listed Six end) (sym (at-refusal p end left n at v e) ∙ w.rest)

  pub walking-message : {n at left : ℕ} → Walking p end n at left whole → Ok Message ≡ met_of p end left n at → reached n at ≡ whole
  walking-message {n} {at} {left} w e = sym (at-message p end left n at e) ∙ w.rest

  pub walking-header : {n at left next behind : ℕ} → Walking p end n at left whole → Ok Met-as-Header ≡ met_of p end left n at
      → next ≡ byte_at p at → behind ≡ at + size_at p at → Walking p end next behind (left - 1) whole
  walking-header {n} {at} {left = zero} w e i j = absurd ((met-passed p end zero n at e).0 refl)
  walking-header {n} {at} {left = suc left} w e i j =
      let l : suc left - 1 ≡ left = omega arith in
      record { rest = rw (i, j, l) (sym (at-header p end left n at e) ∙ w.rest); near = omega (arith, (met-passed p end (suc left) n at e).1.fits) }
