-- A message that is all zeros, its field aside: the parts around new bytes, and they themselves.
use Prim.Native.Nat.{ℕ, ◌+◌, ◌-◌, ◌≤◌}
use mathlib.Core.Path.{◌≡◌, refl, sym, ap, ap₂, ◌∙◌}
use mathlib.Core.Bool.{Bool, true, false, ◌&&◌, ◌||◌}
use mathlib.Core.List.{List, [], ◌∷◌, ◌++◌}
use native.Mathlib.Omega.{arith}
use lib.ListN.{length}
use lib.Dec.{eqb}
use borrow.Author.Tests.{eq-eqb}
use Rattle.verdicts.proofs.Tests.{by_cases}
use Rattle.wire.specs.Bytes.{part, put, put_word}
use Rattle.wire.specs.Inner.{protocol_of, body_of, end_of, field_at, start_of, Holds}
use Rattle.wire.proofs.Parts.{part_cut}
use Rattle.wire.specs.declared.Message.{Message}
use Rattle.wire.proofs.Facts.{Facts}
use Rattle.wire.proofs.Held.{known}
use Rattle.wire.proofs.Writes.{put-wrote, part-below, part-above, part-they}
use Rattle.kept.specs.Edits.{all_zero, blank}

zero-append : (x y : List ℕ) → all_zero (x ++ y) ≡ (all_zero x && all_zero y)
zero-append [] y = refl
zero-append (a ∷ x) y = by_cases (eqb a 0) (λ t. simp t (zero-append x y)) (λ t. simp t)

-- a block with the word at f read as 0000 is zeros where what stands before it and what follows it are
zero-without : (p : List ℕ) (a f e : ℕ) → a ≤ f → f + 2 ≤ e → e ≤ length p
    → all_zero (part (put_word p f 0) a (e - a)) ≡ (all_zero (part p a (f - a)) && all_zero (part p (f + 2) (e - (f + 2))))
zero-without p a f e h k l =
    let q = put_word p f 0 in
    let w = put-wrote p f (0 ∷ 0 ∷ []) (omega arith) in
    let n : f + 2 - f ≡ 2 = omega arith in
    let they : part q f (f + 2 - f) ≡ 0 ∷ 0 ∷ [] = rw n (part-they w (omega arith)) in
    ap all_zero (part_cut q a f e h (omega arith)) ∙ zero-append (part q a (f - a)) (part q f (e - f))
    ∙ ap₂ ◌&&◌ (ap all_zero (part-below w a (f - a) (omega arith) (omega arith)))
    (ap all_zero (part_cut q f (f + 2) e (omega arith) k ∙ ap₂ ◌++◌ they (part-above w (f + 2) (e - (f + 2)) (omega arith) (omega arith))))

-- ---- the message around a stretch
module _ (p : List ℕ) (k : Facts p) (at : ℕ) (new : List ℕ) (low : body_of p ≤ at) (high : at + length new ≤ end_of p) where
  -- what stands before the field, between the field and the stretch, and behind the stretch
  abbrev pub first_part : Bool
  first_part = all_zero (part p (start_of p) (field_at p - start_of p))

  abbrev pub middle-part : Bool
  middle-part = all_zero (part p (field_at p + 2) (at - (field_at p + 2)))

  abbrev pub last-part : Bool
  last-part = all_zero (part p (at + length new) (end_of p - (at + length new)))

  abbrev pub old-part : Bool
  old-part = all_zero (part p at (at + length new - at))

  pub blank-before : blank p p ≡ (first_part && (middle-part && (old-part && last-part)))
  unfolding blank
  blank-before =
      let f = field_at p in
      let n = at + length new in
      zero-without p (start_of p) f (end_of p) (omega arith) (omega arith) (omega arith)
      ∙ ap (λ (b : Bool). first_part && b)
      (ap all_zero (part_cut p (f + 2) at (end_of p) (omega arith) (omega arith)) ∙ zero-append (part p (f + 2) (at - (f + 2))) (part p at (end_of p - at))
      ∙ ap (λ (b : Bool). middle-part && b)
      (ap all_zero (part_cut p at n (end_of p) (omega arith) (omega arith)) ∙ zero-append (part p at (n - at)) (part p n (end_of p - n))))

  pub blank-after : blank p (put p at new) ≡ (first_part && (middle-part && (all_zero new && last-part)))
  unfolding blank
  blank-after =
      let f = field_at p in
      let n = at + length new in
      let q = put p at new in
      let w = put-wrote p at new (omega arith) in
      let l = w.long in
      let m : n - at ≡ length new = omega arith in
      let they : part q at (n - at) ≡ new = rw m (part-they w (omega arith)) in
      zero-without q (start_of p) f (end_of p) (omega arith) (omega arith) (omega arith)
      ∙ ap₂ ◌&&◌ (ap all_zero (part-below w (start_of p) (f - start_of p) (omega arith) (omega arith)))
      (ap all_zero (part_cut q (f + 2) at (end_of p) (omega arith) (omega arith)) ∙ zero-append (part q (f + 2) (at - (f + 2))) (part q at (end_of p - at))
      ∙ ap₂ ◌&&◌ (ap all_zero (part-below w (f + 2) (at - (f + 2)) (omega arith) (omega arith)))
      (ap all_zero (part_cut q at n (end_of p) (omega arith) (omega arith)) ∙ zero-append (part q at (n - at)) (part q n (end_of p - n))
      ∙ ap₂ ◌&&◌ (ap all_zero they) (ap all_zero (part-above w n (end_of p - n) (omega arith) (omega arith)))))

  -- both at once: all else is zeros, and so are the old bytes or the new ones
  pub blank-either : (blank p p || blank p (put p at new)) ≡ (first_part && (middle-part && (last-part && (old-part || all_zero new))))
  blank-either =
      rw (blank-before, blank-after)
      (both first_part middle-part last-part old-part (all_zero new))
    where
      both : (a b c d e : Bool) → ((a && (b && (d && c))) || (a && (b && (e && c)))) ≡ (a && (b && (c && (d || e))))
      both false b c d e = refl
      both true false c d e = refl
      both true true c true true = by_cases c (λ t. simp t) (λ t. simp t)
      both true true c true false = by_cases c (λ t. simp t) (λ t. simp t)
      both true true c false true = by_cases c (λ t. simp t) (λ t. simp t)
      both true true c false false = by_cases c (λ t. simp t) (λ t. simp t)

  pub blanks-made : protocol_of p ≡ 1 → (b : Bool) → b ≡ (first_part && (middle-part && (last-part && (old-part || all_zero new))))
      → b ≡ (eqb (protocol_of p) 1 && (blank p p || blank p (put p at new)))
  blanks-made e b h = h ∙ sym (rw (eq-eqb (protocol_of p) 1 e) blank-either)

-- by the tests of these parts, as far as they are made
module _ {p : List ℕ} {m : Message} (h : Holds p m) (at : ℕ) (new : List ℕ) (low : body_of p ≤ at) (high : at + length new ≤ end_of p) where
  blank-by : m.protocol ≡ 1 → (a b c d e : Bool) → a ≡ all_zero (part p m.start (m.field - m.start)) → b ≡ all_zero (part p (m.field + 2) (at - (m.field + 2)))
      → c ≡ all_zero (part p (at + length new) (m.end - (at + length new))) → d ≡ all_zero (part p at (at + length new - at)) → e ≡ all_zero new
      → (a && (b && (c && (d || e)))) ≡ (eqb (protocol_of p) 1 && (blank p p || blank p (put p at new)))
  blank-by i a b c d e ea eb ec ed ee =
      let k = known h in
      blanks-made p k.facts at new low high (sym k.protocol ∙ i) _ (rw (ea, eb, ec, ed, ee, k.start, k.field, k.end))

  -- where q is what is lent of p
  pub blank-read : {q : List ℕ} → q ≡ p → m.protocol ≡ 1 → (a b c d e : Bool) → a ≡ all_zero (part q m.start (m.field - m.start)) → b ≡ all_zero (part q (m.field + 2) (at - (m.field + 2)))
      → c ≡ all_zero (part q (at + length new) (m.end - (at + length new))) → d ≡ all_zero (part q at (at + length new - at)) → e ≡ all_zero new
      → (a && (b && (c && (d || e)))) ≡ (eqb (protocol_of p) 1 && (blank p p || blank p (put p at new)))
  blank-read f i a b c d e ea eb ec ed ee = blank-by i a b c d e (rw f at ea) (rw f at eb) (rw f at ec) (rw f at ed) ee
