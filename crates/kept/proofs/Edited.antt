-- The sum fields after edits: one that an edit updates is the fresh one if its sum was right, and one that none updates stays.
use mathlib.Core.Path.{◌≡◌, refl, sym, ap, ◌∙◌}
use mathlib.Core.Logic.{inl, inr, ⊎_elim}
use Prim.Native.Nat.{ℕ}
use native.Mathlib.Omega.{arith}
use mathlib.Core.List.{List, [], ◌∷◌}
use mathlib.Core.Bool.{true, false}
use Rattle.verdicts.specs.Rules.{IsClear}
use Rattle.verdicts.specs.declared.Verdict.{Verdict}
use Rattle.verdicts.specs.declared.Verdict.TheVariants.{Good}
use Rattle.verdicts.proofs.Tests.{by_cases, and-true}
use Rattle.wire.specs.Bytes.{word_at, Bytes}
use Rattle.wire.specs.Outer.{four}
use Rattle.wire.proofs.Same.{field-same}
use Rattle.judge.specs.Judge.{judge_of}
use Rattle.judge.proofs.Accepts.{accepted, verdict-good}
use Rattle.mend.specs.Fresh.{Sum, header, message, used, standing, fresh_of}
use Rattle.mend.specs.Mend.{mend_of}
use Rattle.mend.proofs.Fresh.{used-whole, placed_same}
use Rattle.mend.proofs.Mending.{mended}
use Rattle.kept.specs.Runs.{Fit, Fits, Edit, apply, run, rules_of}
use Rattle.kept.specs.Fields.{covers, updates, Updated, Right}
use Rattle.kept.proofs.Single.{made, accepted-clear, accepted-done, edit-either, kept, kept-uses, still}
use Rattle.kept.proofs.Sequences.{verdict-kept, fresh_kept}

-- ---- one edit
module _ (e : Edit) (p : List ℕ) (f : Fit e) (b : Bytes p) (c : IsClear (rules_of e p)) where
  made-used : (s : Sum) → used s (made e p) ≡ used s p
  made-used = kept-uses (kept e p f b c)

  made-fresh : (s : Sum) → Right s p → updates s e p ≡ true → standing s (made e p) ≡ fresh_of s (made e p)
  made-fresh header r u =
      (kept e p f b c).header.renewed u r (made-used header ∙ (and-true (covers header e p) (four p) u).1)
  made-fresh message r u =
      let n = (and-true (covers message e p) (used message p) u).1 in
      ((kept e p f b c).message (used-whole p n)).renewed u (r n) (made-used message ∙ n)

  made-stays : (s : Sum) → used s p ≡ true → updates s e p ≡ false → standing s (made e p) ≡ standing s p
  made-stays header u n = (kept e p f b c).header.stays n u
  made-stays message u n = let k = kept e p f b c in ap (word_at (made e p)) (field-same k.same.header) ∙ (k.message (used-whole p u)).stays n

-- ---- any sequence of edits, refused ones included
updated-used : (s : Sum) (es : List Edit) (p : List ℕ) → Fits es → Bytes p → Updated s es p → used s p ≡ true
updated-used s [] p f b u = absurd u
updated-used s (e ∷ es) p f b u =
    let t = still e p f.0 b in
    ⊎_elim (λ h. (and-true (covers s e p) (used s p) h.1).1) (λ h. sym (t.uses s) ∙ updated-used s es (apply e p).1 f.1 t.bytes h) u

used-kept : (s : Sum) (es : List Edit) (p : List ℕ) → Fits es → Bytes p → used s (run es p) ≡ used s p
used-kept s [] p f b = refl
used-kept s (e ∷ es) p f b = let t = still e p f.0 b in used-kept s es (apply e p).1 f.1 t.bytes ∙ t.uses s

stays-fresh : (s : Sum) (es : List Edit) (p : List ℕ) → Fits es → Bytes p → used s p ≡ true → standing s p ≡ fresh_of s p
    → standing s (run es p) ≡ fresh_of s (run es p)
stays-fresh s es p f b u h = fresh_kept es p f b s (λ x. h) (used-kept s es p f b ∙ u)

-- a field whose sum was right is, once an accepted edit updates it, the fresh one, whatever it was before
pub updated-fresh : (s : Sum) (es : List Edit) (p : List ℕ) → Fits es → Bytes p → Right s p → Updated s es p
    → standing s (run es p) ≡ fresh_of s (run es p)
updated-fresh s [] p f b r u = absurd u
updated-fresh s (e ∷ es) p f b r u =
    let t = still e p f.0 b in
    ⊎_elim
    (λ h.
    let c = accepted-clear e p h.0 in
    stays-fresh s es (apply e p).1 f.1 t.bytes (t.uses s ∙ (and-true (covers s e p) (used s p) h.1).1)
    (rw (accepted-done e p c) (made-fresh e p f.0 b c s r h.1)))
    (λ h. updated-fresh s es (apply e p).1 f.1 t.bytes (t.right s r) h)
    u

-- a field in use that no accepted edit updates stays
pub field-kept : (s : Sum) (es : List Edit) (p : List ℕ) → Fits es → Bytes p → used s p ≡ true → (Updated s es p → ⊥)
    → standing s (run es p) ≡ standing s p
field-kept s [] p f b u n = refl
field-kept s (e ∷ es) p f b u n =
    let t = still e p f.0 b in
    field-kept s es (apply e p).1 f.1 t.bytes (t.uses s ∙ u) (λ h. n (inr h))
    ∙ edit-either e p (λ q. standing s q ≡ standing s p) refl
    (λ c.
    let g : (apply e p).0 ≡ Good = ap (λ (x : Verdict × List ℕ). x.0) (accepted-done e p c) in
    made-stays e p f.0 b c s u (by_cases (updates s e p) (λ h. absurd (n (inl (g, h)))) (λ h. h)))

-- ---- a good packet
good_right : (s : Sum) (p : List ℕ) → judge_of p ≡ Good → Right s p
good_right header p g = (accepted p Good (omega arith) g).1
good_right message p g = λ u. (verdict-good p (accepted p Good (omega arith) g).2).1

-- after a nonempty edit that it accepts, each field that this edit updates is the fresh one
pub edited-fresh : (s : Sum) (e : Edit) (p : List ℕ) → Fit e → Bytes p → judge_of p ≡ Good → (apply e p).0 ≡ Good → updates s e p ≡ true
    → standing s (apply e p).1 ≡ fresh_of s (apply e p).1
edited-fresh s e p f b j g u = updated-fresh s (e ∷ []) p (f, tt) b (good_right s p j) (inl (g, u))

-- and after any sequence in which some edit that updates it was accepted
pub edited-fresh-run : (s : Sum) (es : List Edit) (p : List ℕ) → Fits es → Bytes p → judge_of p ≡ Good → Updated s es p
    → standing s (run es p) ≡ fresh_of s (run es p)
edited-fresh-run s es p f b j u = updated-fresh s es p f b (good_right s p j) u

-- so the mender, which sets each field in use to the fresh one, would leave it
mender-sets : (s : Sum) (q : List ℕ) → judge_of q ≡ Good → used s q ≡ true → standing s (mend_of q).1 ≡ fresh_of s q
mender-sets s q g u =
    let m = mended q (accepted q Good (omega arith) g).0 in
    ap (word_at (mend_of q).1) (placed_same m.same.header s) ∙ m.sets s u

pub edited-mended : (s : Sum) (es : List Edit) (p : List ℕ) → Fits es → Bytes p → judge_of p ≡ Good → Updated s es p
    → standing s (mend_of (run es p)).1 ≡ standing s (run es p)
edited-mended s es p f b j u =
    mender-sets s (run es p) (verdict-kept es p f b ∙ j) (used-kept s es p f b ∙ updated-used s es p f b u)
    ∙ sym (edited-fresh-run s es p f b j u)
