-- The theorems on any sequence of edits, refused ones included. They ask only that all bytes are bytes.
use mathlib.Core.Path.{◌≡◌, refl, sym, ◌∙◌}
use Prim.Native.Nat.{ℕ, ◌+◌, ◌<◌, ◌≤◌}
use native.Mathlib.Omega.{arith}
use mathlib.Core.List.{List, [], ◌∷◌}
use mathlib.Core.Bool.{false}
use lib.ListN.{length}
use Rattle.verdicts.specs.Rules.{first}
use Rattle.verdicts.specs.declared.Verdict.{Verdict}
use Rattle.verdicts.specs.declared.Verdict.TheVariants.{Good}
use Rattle.verdicts.proofs.Rules.{first-map, first_either}
use Rattle.wire.specs.Bytes.{byte_at, put, Bytes}
use Rattle.wire.specs.Outer.{four}
use Rattle.wire.specs.Walk.{walk_of, walked_of}
use Rattle.wire.specs.Inner.{tail_at}
use Rattle.wire.proofs.Writes.{put-wrote, put-alike}
use Rattle.wire.proofs.Same.{four_same, walked_same}
use Rattle.wire.proofs.Tails.{tail-same}
use Rattle.judge.specs.Judge.{judge_of}
use Rattle.mend.specs.Fresh.{Sum, Fresh}
use Rattle.mend.specs.Mend.{mend_of, Outside}
use Rattle.kept.specs.Runs.{Fit, Fits, Edit, apply, run, rules_of, place_of, new_of, written, bare, Untouched}
use Rattle.kept.proofs.Single.{made, apply-as, accepted-clear, kept, new-stands, byte-stays, tail-stays, still, read_stays, walk-stays}

-- ---- the verdict
-- the verdict after is the verdict before
pub verdict-kept : (es : List Edit) (p : List ℕ) → Fits es → Bytes p → judge_of (run es p) ≡ judge_of p
verdict-kept [] p f b = refl
verdict-kept (e ∷ es) p f b = let s = still e p f.0 b in verdict-kept es (apply e p).1 f.1 s.bytes ∙ s.judged

-- ---- the fields
-- a sum field in use that stood as fresh computation would set it does so afterwards: the header's, and the message's, each on its own
pub fresh_kept : (es : List Edit) (p : List ℕ) → Fits es → Bytes p → (s : Sum) → Fresh s p → Fresh s (run es p)
fresh_kept [] p f b s h = h
fresh_kept (e ∷ es) p f b s h = let t = still e p f.0 b in fresh_kept es (apply e p).1 f.1 t.bytes s (t.fresh s h)

-- and a packet that mending would leave as it is stays one
pub mended-kept : (es : List Edit) (p : List ℕ) → Fits es → Bytes p → (mend_of p).1 ≡ p → (mend_of (run es p)).1 ≡ run es p
mended-kept [] p f b h = h
mended-kept (e ∷ es) p f b h = let s = still e p f.0 b in mended-kept es (apply e p).1 f.1 s.bytes (s.mended h)

-- ---- the bytes
pub length-kept : (es : List Edit) (p : List ℕ) → Fits es → Bytes p → length (run es p) ≡ length p
length-kept [] p f b = refl
length-kept (e ∷ es) p f b = let s = still e p f.0 b in length-kept es (apply e p).1 f.1 s.bytes ∙ s.long

-- what no accepted edit writes stays, the sum fields aside
pub bytes-stay : (es : List Edit) (p : List ℕ) (i : ℕ) → Fits es → Bytes p → Outside p i → Untouched es p i → byte_at (run es p) i ≡ byte_at p i
bytes-stay [] p i f b o u = refl
bytes-stay (e ∷ es) p i f b o u =
    let s = still e p f.0 b in
    bytes-stay es (apply e p).1 i f.1 s.bytes (s.outside i o) u.1 ∙ byte-stays e p i f.0 b o u.0

-- nothing that stands in the tail changes
pub tail-kept : (es : List Edit) (p : List ℕ) (i : ℕ) → Fits es → Bytes p → tail_at p ≤ i → byte_at (run es p) i ≡ byte_at p i
tail-kept [] p i f b h = refl
tail-kept (e ∷ es) p i f b h =
    let s = still e p f.0 b in
    tail-kept es (apply e p).1 i f.1 s.bytes (rw (tail-same s.layout) h) ∙ tail-stays e p i f.0 b h

-- nor anything that the walk reads: the headers between stay, and the walk leads to where it led
pub walk_kept : (es : List Edit) (p : List ℕ) → Fits es → Bytes p → walk_of (run es p) ≡ walk_of p
walk_kept [] p f b = refl
walk_kept (e ∷ es) p f b = walk_kept es (apply e p).1 f.1 (still e p f.0 b).bytes ∙ walk-stays e p f.0 b

pub headers-kept : (es : List Edit) (p : List ℕ) (i : ℕ) → Fits es → Bytes p → four p ≡ false → 40 ≤ i → i < walked_of p → byte_at (run es p) i ≡ byte_at p i
headers-kept [] p i f b v a h = refl
headers-kept (e ∷ es) p i f b v a h =
    let s = still e p f.0 b in
    headers-kept es (apply e p).1 i f.1 s.bytes (four_same s.layout.header ∙ v) a (rw (walked_same s.layout.header) h)
    ∙ read_stays e p i f.0 b v a h

-- an accepted edit's new bytes stand in place until a later one overwrites them
pub new-stays : (e : Edit) (es : List Edit) (p : List ℕ) → Fits (e ∷ es) → Bytes p → (apply e p).0 ≡ Good
    → (j : ℕ) → j < length (new_of e p) → Untouched es (apply e p).1 (place_of e p + j)
    → byte_at (run (e ∷ es) p) (place_of e p + j) ≡ byte_at (new_of e p) j
new-stays e es p f b g j h u =
    let k = kept e p f.0 b (accepted-clear e p g) in
    let s = still e p f.0 b in
    let at = place_of e p + j in
    bytes-stay es (apply e p).1 at f.1 s.bytes (s.outside at (k.apart at (omega arith) (omega arith))) u
    ∙ new-stands e p f.0 b g j h

record Alike (q r : List ℕ) (i : ℕ) : Type 0 where
  byte : byte_at q i ≡ byte_at r i
  long : length r ≡ length q

-- what an edit leaves agrees with what it writes, outside the fields
written-alike : (e : Edit) (p r : List ℕ) (i : ℕ) → Fit e → Bytes p → Outside p i → Alike p r i → Alike (apply e p).1 (written e p r) i
written-alike e p r i f b o a =
    let both = first {A = (Verdict × List ℕ) × List ℕ} (rules_of e p) (λ v. ((v, p), r)) ((Good, made e p), put r (place_of e p) (new_of e p)) in
    let x : both.0 ≡ apply e p = first-map (λ (z : (Verdict × List ℕ) × List ℕ). z.0) (rules_of e p) _ _ ∙ sym (apply-as e p) in
    let y : both.1 ≡ written e p r = first-map (λ (z : (Verdict × List ℕ) × List ℕ). z.1) (rules_of e p) _ _ in
    rw (sym x, sym y)
    (first_either {A = (Verdict × List ℕ) × List ℕ} (λ z. Alike z.0.1 z.1 i) (rules_of e p) (λ v. ((v, p), r)) ((Good, made e p), put r (place_of e p) (new_of e p))
    (λ v. a)
    (λ c.
    let k = kept e p f b c in
    record {
      byte = k.others i o ∙ put-alike p r (place_of e p) (new_of e p) i k.fits (let l = a.long in let g = k.fits in omega arith) a.byte;
      long = (put-wrote r (place_of e p) (new_of e p) (let l = a.long in let g = k.fits in omega arith)).long ∙ a.long ∙ sym k.same.long;
    }))

bytes-alike : (es : List Edit) (p r : List ℕ) (i : ℕ) → Fits es → Bytes p → Outside p i → Alike p r i → Alike (run es p) (bare es p r) i
bytes-alike [] p r i f b o a = a
bytes-alike (e ∷ es) p r i f b o a =
    let s = still e p f.0 b in
    bytes-alike es (apply e p).1 (written e p r) i f.1 s.bytes (s.outside i o) (written-alike e p r i f.0 b o a)

-- outside the sum fields a packet is, after any edits, what the accepted ones' new bytes make of it with no sums at all
pub bytes-kept : (es : List Edit) (p : List ℕ) (i : ℕ) → Fits es → Bytes p → Outside p i → byte_at (run es p) i ≡ byte_at (bare es p p) i
bytes-kept es p i f b o = (bytes-alike es p p i f b o (record { byte = refl; long = refl })).byte
