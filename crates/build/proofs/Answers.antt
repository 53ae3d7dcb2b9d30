-- Each answer, from the facts that lead to it.
use Rattle.std.proofs.Common.{◌≡◌, sym, ap, ap₂, ◌∙◌, ℕ, ◌+◌, ◌<◌, ◌≤◌, arith, List, ◌++◌, true, false, not, ◌||◌, length, drop, ltb, eqb, lt-ltb, le-ltb, eq-eqb, ne_eqb, ltb-false, eqb-true}
use borrow.Author.Tests.{eqb-false, not-false}
use Rattle.verdicts.specs.declared.Verdict.TheVariants.{Place, Spent, Room}
use Rattle.verdicts.proofs.Tests.{by_cases, or-false}
use Rattle.verdicts.proofs.Rules.{clear_first}
use Rattle.wire.specs.Bytes.{put}
use Rattle.wire.specs.declared.Message.{Message}
use Rattle.wire.specs.declared.Family.{Family}
use Rattle.wire.specs.declared.Family.TheVariants.{Four, Six}
use Rattle.build.specs.Layout.{Asked, header_size, datagram_size, family_for, size_of, packet_in, packet_of}
use Rattle.build.specs.Places.{Fits, places_in}
use Rattle.build.specs.Build.{neither, unfit, misfit, build_rules, refusal, done, built_of}
use Rattle.build.proofs.Laid.{read}
use Rattle.build.proofs.Steps.{put_first}

-- ---- refusals
module _ (a : Asked) (buffer : List ℕ) where
  pub at_place : misfit a ≡ true → (refusal Place, buffer) ≡ built_of a buffer
  unfolding built_of build_rules
  at_place u = sym (simp u)

  module _ (u : misfit a ≡ false) where
    pub at-spent : a.lifetime ≡ 0 → (refusal Spent, buffer) ≡ built_of a buffer
    unfolding built_of build_rules
    at-spent z = sym (simp (u, eq-eqb a.lifetime 0 z))

    pub at_room : (a.lifetime ≡ 0 → ⊥) → length buffer < size_of a → (refusal Room, buffer) ≡ built_of a buffer
    unfolding built_of build_rules
    at_room z l = sym (simp (u, ne_eqb a.lifetime 0 z, lt-ltb (length buffer) (size_of a) l))

-- ---- a packet
sixteen : (n : ℕ) → neither n ≡ false → (n ≡ 4 → ⊥) → n ≡ 16
sixteen n e f = eqb-true n 16 (not-false (eqb n 16) (simp (ne_eqb n 4 f) at e))

pub fits : (a : Asked) → misfit a ≡ false → Fits (family_for a.source) a
unfolding unfit
fits a u =
    let s = length a.source in
    let d = length a.destination in
    let x = or-false (neither s) (neither d || (not (eqb s d) || ltb 1400 (length a.body))) u in
    let y = or-false (neither d) (not (eqb s d) || ltb 1400 (length a.body)) x.1 in
    let z = or-false (not (eqb s d)) (ltb 1400 (length a.body)) y.1 in
    let e = eqb-true s d (not-false (eqb s d) z.0) in
    let b = ltb-false 1400 (length a.body) z.1 in
    by_cases (eqb s 4)
    (λ f. simp f (let n = eqb-true s 4 f in record { source = n; destination = sym e ∙ n; body = b }))
    (λ f. simp f (let n = sixteen s x.0 (eqb-false s 4 f) in record { source = n; destination = sym e ∙ n; body = b }))

pub packet-long : (a : Asked) → misfit a ≡ false → length (packet_of a) ≡ size_of a
unfolding packet_of
packet-long a u = (read (family_for a.source) a _ _ (fits a u)).long

pub at-good : (a : Asked) (buffer : List ℕ) → misfit a ≡ false → (a.lifetime ≡ 0 → ⊥) → size_of a ≤ length buffer
    → (done (size_of a), packet_of a ++ drop (size_of a) buffer) ≡ built_of a buffer
unfolding built_of build_rules
at-good a buffer u z l =
    let n = packet-long a u in
    let p : put buffer 0 (packet_of a) ≡ packet_of a ++ drop (size_of a) buffer =
    put_first buffer (packet_of a) (omega arith) ∙ ap (λ k. packet_of a ++ drop k buffer) n in
    sym (clear_first (build_rules a (length buffer)) (λ v. (refusal v, buffer)) (done (length (packet_of a)), put buffer 0 (packet_of a))
    (u, (ne_eqb a.lifetime 0 z, (le-ltb (length buffer) (size_of a) l, tt)))
    ∙ ap₂ (λ (k : ℕ) (q : List ℕ). (done k, q)) n p)

-- ---- what fits
pub fits-clear : {f : Family} {a : Asked} → Fits f a → misfit a ≡ false
unfolding unfit
fits-clear {f = Four} {a} h = let s = h.source in let d = h.destination in simp (s, d, le-ltb 1400 (length a.body) h.body)
fits-clear {f = Six} {a} h = let s = h.source in let d = h.destination in simp (s, d, le-ltb 1400 (length a.body) h.body)

pub fits-family : {f : Family} {a : Asked} → Fits f a → family_for a.source ≡ f
fits-family {f = Four} h = rw h.source
fits-family {f = Six} h = rw h.source

-- what fits neither family is refused
pub misfits : (a : Asked) → ((f : Family) → Fits f a → ⊥) → misfit a ≡ true
misfits a n = by_cases (misfit a) (λ t. t) (λ u. absurd (n (family_for a.source) (fits a u)))

pub no-size : (a : Asked) → (length a.source ≡ 4 → ⊥) → (length a.source ≡ 16 → ⊥) → misfit a ≡ true
no-size a x y = misfits a by
  where
    by : (f : Family) → Fits f a → ⊥
    by Four h = x h.source
    by Six h = y h.source

pub unlike : (a : Asked) → (length a.destination ≡ length a.source → ⊥) → misfit a ≡ true
unlike a n = misfits a (λ f h. n (h.destination ∙ sym h.source))

pub too_long : (a : Asked) → 1400 < length a.body → misfit a ≡ true
too_long a l = misfits a (λ f h. let b = h.body in omega arith)

-- ---- the answers of a call, from what fits
module _ {f : Family} {a : Asked} (fits : Fits f a) (buffer : List ℕ) where
  size-is : {m : Message} → m ≡ places_in f (length a.body) → m.end ≡ size_of a
  size-is e = ap (λ (m : Message). m.end) e ∙ ap (λ f. header_size f + datagram_size a) (sym (fits-family fits))

  pub fit-spent : a.lifetime ≡ 0 → (refusal Spent, buffer) ≡ built_of a buffer
  fit-spent = at-spent a buffer (fits-clear fits)

  pub fit-room : {m : Message} → (a.lifetime ≡ 0 → ⊥) → m ≡ places_in f (length a.body) → length buffer < m.end → (refusal Room, buffer) ≡ built_of a buffer
  fit-room z e l = at_room a buffer (fits-clear fits) z (rw (size-is e) at l)

  pub fit-good : {m : Message} {p : List ℕ} → (a.lifetime ≡ 0 → ⊥) → m ≡ places_in f (length a.body) → m.end ≤ length buffer → p ≡ packet_in f a
      → (done m.end, p ++ drop m.end buffer) ≡ built_of a buffer
  unfolding packet_of
  fit-good z e l g =
      rw (size-is e, g, sym (fits-family fits)) (at-good a buffer (fits-clear fits) z (rw (size-is e) at l))
