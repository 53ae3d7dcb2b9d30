-- One edit: that a refused one changes nothing, where its new bytes stand, and what it keeps.
use mathlib.Core.Path.{◌≡◌, refl, sym, ap, ap₂, ◌∙◌}
use mathlib.Core.Logic.{◌⊎◌, inr, ⊎_elim}
use Prim.Native.Nat.{ℕ, ◌+◌, ◌-◌, ◌<◌, ◌≤◌}
use native.Mathlib.Omega.{arith}
use mathlib.Core.List.{List}
use mathlib.Core.Bool.{Bool, false, not, ◌&&◌}
use lib.ListN.{length}
use borrow.Author.Tests.{ltb-false}
use Rattle.verdicts.specs.Rules.{first, IsClear}
use Rattle.verdicts.specs.declared.Verdict.{Verdict}
use Rattle.verdicts.specs.declared.Verdict.TheVariants.{Good}
use Rattle.verdicts.proofs.Tests.{by_cases}
use Rattle.verdicts.proofs.Rules.{clear_both}
use Rattle.verdicts.proofs.Calls.{Refusals, call-refused, call-clear, call-done, call-either}
use Rattle.wire.specs.Bytes.{byte_at, Bytes}
use Rattle.wire.specs.Outer.{four, outer_rules}
use Rattle.wire.specs.Walk.{walk_of, walk_rules, walked_of}
use Rattle.wire.specs.Messages.{shape_rules}
use Rattle.wire.specs.Inner.{body_of, end_of, message_rules, whole_rules, carries, tail_at}
use Rattle.wire.proofs.Writes.{put-wrote}
use Rattle.wire.proofs.Facts.{OuterFacts, outer-facts}
use Rattle.wire.proofs.Same.{SameLayout, same_layout, same_self, four_same, walk_same}
use Rattle.wire.proofs.Held.{carries-clear, clear-carries, carries_same}
use Rattle.wire.proofs.Tails.{tail-end, tail-order}
use Rattle.judge.specs.Judge.{judge_of}
use Rattle.judge.proofs.Kept.{judge-kept}
use Rattle.mend.specs.Fresh.{Sum, header, message, used, Fresh}
use Rattle.mend.specs.Mend.{mend_of, Outside}
use Rattle.mend.proofs.Fresh.{used-whole, used-sums, placed_same}
use Rattle.mend.proofs.Mending.{mend-fresh, tail-outside}
use Rattle.kept.specs.Edits.{edit_rules, lifetime_rules, lifetime_left, lifetime_of, side_at, address_rules, address_left, address_of, stretch_rules, stretch_left, stretch_of}
use Rattle.kept.specs.Prefix.{word_of, prefix_left, prefix_of}
use Rattle.kept.specs.Runs.{Fit, Edit, lifetime, address, stretch, prefix, apply, rules_of, place_of, new_of}
use Rattle.kept.specs.Fields.{updates, Right}
use Rattle.kept.proofs.Sides.{side-addressed}
use Rattle.kept.proofs.Steps.{accepted, in_use, Kept, lifetime-step}
use Rattle.kept.proofs.Changes.{address_step, stretch-step}
use Rattle.kept.proofs.Prefix.{with-length, six-clear, prefix-step}

-- what an edit makes of a packet where no rule refuses
abbrev pub made : Edit → List ℕ → List ℕ
made lifetime p = lifetime_left p
made (address side new) p = address_left p (side_at p side) new
made (stretch place new) p = stretch_left p (body_of p + place) new
made (prefix side expected new) p = prefix_left p (side_at p side) new

pub apply-as : (e : Edit) (p : List ℕ) → apply e p ≡ first (rules_of e p) (λ v. (v, p)) (Good, made e p)
unfolding lifetime_of address_of stretch_of prefix_of
apply-as lifetime p = refl
apply-as (address side new) p = refl
apply-as (stretch place new) p = refl
apply-as (prefix side expected new) p = refl

-- ---- what it answers
module _ (e : Edit) (p : List ℕ) where
  -- a refused edit leaves the packet as it was
  pub refused-unchanged : ((apply e p).0 ≡ Good → ⊥) → (apply e p).1 ≡ p
  refused-unchanged = rw (apply-as e p) (call-refused (rules_of e p) p (made e p))

  pub accepted-done : IsClear (rules_of e p) → apply e p ≡ (Good, made e p)
  accepted-done c = apply-as e p ∙ call-done (rules_of e p) p (made e p) c

  -- what holds of the packet before, and of what an edit that no rule refuses makes of it, holds after it
  pub edit-either : (P : List ℕ → Type 0) → P p → (IsClear (rules_of e p) → P (made e p)) → P (apply e p).1
  edit-either P a b = rw (apply-as e p) (call-either (rules_of e p) p (made e p) P a b)

pub accepted-clear : (e : Edit) (p : List ℕ) → (apply e p).0 ≡ Good → IsClear (rules_of e p)
unfolding edit_rules whole_rules outer_rules walk_rules message_rules shape_rules
accepted-clear e p g = call-clear (rules_of e p) p (made e p) (refusals e) (ap (λ (x : Verdict × List ℕ). x.0) (sym (apply-as e p)) ∙ g)
  where
    refusals : (e : Edit) → Refusals (rules_of e p)
    refusals lifetime = omega arith
    refusals (address side new) = omega arith
    refusals (stretch place new) = omega arith
    refusals (prefix side expected new) = omega arith

-- ---- what an accepted one leaves
pub kept : (e : Edit) (p : List ℕ) → Fit e → Bytes p → IsClear (rules_of e p)
    → Kept (updates header e p) (updates message e p) p (made e p) (place_of e p) (new_of e p)
kept lifetime p f b c =
    lifetime-step p b (outer-facts p (clear_both (outer_rules p) (lifetime_rules p) c).0)
kept (address side new) p f b c =
    let d = clear_both (edit_rules p) (address_rules p side new) c in
    let a = accepted p d.0 in
    rw (in_use a) (address_step p b a (side_at p side) new f (side-addressed p side new d.1))
kept (stretch place new) p f b c =
    let d = clear_both (edit_rules p) (stretch_rules p place new) c in
    let a = accepted p d.0 in
    rw (in_use a) (stretch-step p b a place new f d.1)
kept (prefix side expected new) p f b c =
    let d = six-clear p side expected new c in
    prefix-step p b d.packet d.six (side_at p side) d.place new f d.size

-- its new bytes stand in place
pub new-stands : (e : Edit) (p : List ℕ) → Fit e → Bytes p → (apply e p).0 ≡ Good → (j : ℕ) → j < length (new_of e p)
    → byte_at (apply e p).1 (place_of e p + j) ≡ byte_at (new_of e p) j
new-stands e p f b g j h =
    let c = accepted-clear e p g in
    let k = kept e p f b c in
    ap (λ (z : Verdict × List ℕ). byte_at z.1 (place_of e p + j)) (accepted-done e p c)
    ∙ k.others (place_of e p + j) (k.apart (place_of e p + j) (omega arith) (omega arith))
    ∙ (put-wrote p (place_of e p) (new_of e p) k.fits).inside j (place_of e p + j) refl h

-- and what it doesn't write stays, the sum fields aside
pub byte-stays : (e : Edit) (p : List ℕ) (i : ℕ) → Fit e → Bytes p → Outside p i
    → ((apply e p).0 ≡ Good → (i < place_of e p) ⊎ (place_of e p + length (new_of e p) ≤ i)) → byte_at (apply e p).1 i ≡ byte_at p i
byte-stays e p i f b o u =
    edit-either e p (λ q. byte_at q i ≡ byte_at p i) refl
    (λ c.
    let k = kept e p f b c in
    let w = put-wrote p (place_of e p) (new_of e p) k.fits in
    k.others i o ∙ ⊎_elim (λ l. w.below i l) (λ l. w.above i l) (u (ap (λ (z : Verdict × List ℕ). z.0) (accepted-done e p c))))

-- ---- the tail
-- an accepted edit writes before it
pub before-tail : (e : Edit) (p : List ℕ) → IsClear (rules_of e p) → OuterFacts p × (place_of e p + length (new_of e p) ≤ tail_at p)
before-tail lifetime p c =
    let k = outer-facts p (clear_both (outer_rules p) (lifetime_rules p) c).0 in
    let o = tail-order k in
    (k, by_cases (four p) (λ f. simp f (omega arith)) (λ f. simp f (omega arith)))
before-tail (address side new) p c =
    let d = clear_both (edit_rules p) (address_rules p side new) c in
    let k = (accepted p d.0).facts.outer in
    let o = tail-order k in
    let a = side-addressed p side new d.1 in
    (k, omega arith)
before-tail (stretch place new) p c =
    let d = clear_both (edit_rules p) (stretch_rules p place new) c in
    let a = accepted p d.0 in
    let k = a.facts in
    let l = ltb-false (end_of p - body_of p) (place + length new) d.1.0 in
    (k.outer, omega (arith, tail-end p (clear-carries p a.whole)))
before-tail (prefix side expected new) p c =
    let d = six-clear p side expected new c in
    let k = d.packet.facts.outer in
    let o = tail-order k in
    let a = d.place in
    (k, omega (arith, with-length p (side_at p side) new (omega arith) d.size (word_of p (side_at p side) new)))

-- so no byte of it changes
pub tail-stays : (e : Edit) (p : List ℕ) (i : ℕ) → Fit e → Bytes p → tail_at p ≤ i → byte_at (apply e p).1 i ≡ byte_at p i
tail-stays e p i f b h =
    edit-either e p (λ q. byte_at q i ≡ byte_at p i) refl
    (λ c.
    let k = kept e p f b c in
    let t = before-tail e p c in
    k.others i (tail-outside p i t.0 h) ∙ (put-wrote p (place_of e p) (new_of e p) k.fits).above i (omega arith))

-- ---- what every edit keeps
pub record Still (p q : List ℕ) : Type 0 where
  pub bytes : Bytes q
  pub judged : judge_of q ≡ judge_of p
  pub fresh : (s : Sum) → Fresh s p → Fresh s q
  pub mended : (mend_of p).1 ≡ p → (mend_of q).1 ≡ q
  pub long : length q ≡ length p
  pub layout : SameLayout p q
  pub outside : (i : ℕ) → Outside p i → Outside q i
  pub uses : (s : Sum) → used s q ≡ used s p
  pub right : (s : Sum) → Right s p → Right s q

module _ {h m : Bool} {p q : List ℕ} {at : ℕ} {new : List ℕ} (k : Kept h m p q at new) where
  pub kept-uses : (s : Sum) → used s q ≡ used s p
  kept-uses header = four_same k.same.header
  kept-uses message =
      let e = carries_same (same_layout k.same) in
      by_cases (carries p)
      (λ c. ap₂ (λ c s. c && not s) e (ap₂ ◌&&◌ (k.message (carries-clear p c)).heard.silent (four_same k.same.header)))
      (λ c. simp (e, c))

  kept_fresh : (s : Sum) → Fresh s p → Fresh s q
  kept_fresh header f = k.header.fresh f
  kept_fresh message f = λ u. (k.message (used-whole p (sym (kept-uses message) ∙ u))).fresh f u

  kept-right : (s : Sum) → Right s p → Right s q
  kept-right header r = k.header.sums ∙ r
  kept-right message r = λ n. let u = sym (kept-uses message) ∙ n in (k.message (used-whole p u)).heard.sums (used-sums p u) ∙ r u

pub still : (e : Edit) (p : List ℕ) → Fit e → Bytes p → Still p (apply e p).1
still e p f b =
    edit-either e p (Still p)
    (record {
      bytes = b;
      judged = refl;
      fresh = λ s h. h;
      mended = λ h. h;
      long = refl;
      layout = same_layout (same_self p);
      outside = λ i o. o;
      uses = λ s. refl;
      right = λ s r. r;
    })
    (λ c.
    let k = kept e p f b c in
    let s = k.same in
    record {
      bytes = k.bytes;
      judged = judge-kept (same_layout s) k.header.sums (λ w. (k.message w).heard);
      fresh = kept_fresh k;
      mended = λ h. (mend-fresh (made e p) k.bytes).1 (λ c t. kept_fresh k t ((mend-fresh p b).0 h (sym (carries_same (same_layout s)) ∙ c) t));
      long = s.long;
      layout = same_layout s;
      outside = λ i o t u. rw (placed_same s.header t) (o t (sym (kept-uses k t) ∙ u));
      uses = kept-uses k;
      right = kept-right k;
    })

-- ---- the walk
-- no byte that it reads changes
pub read_stays : (e : Edit) (p : List ℕ) (i : ℕ) → Fit e → Bytes p → four p ≡ false → 40 ≤ i → i < walked_of p → byte_at (apply e p).1 i ≡ byte_at p i
read_stays e p i f b v a h = (still e p f b).layout.header.reads i (inr (inr (v, a, h)))

-- so it leads to where it led
pub walk-stays : (e : Edit) (p : List ℕ) → Fit e → Bytes p → walk_of (apply e p).1 ≡ walk_of p
walk-stays e p f b = walk_same (still e p f b).layout.header
