-- What stands at a place where n is the next header: the message, a header that is refused, or one that is passed, and `met_of` says which.
use Rattle.std.specs.Prelude.{Result, Ok, Err}
use mathlib.Core.Path.{◌≡◌, refl, sym, ◌∙◌}
use mathlib.Core.Logic.{◌≢◌, inl, inr, ⊎_elim}
use Prim.Native.Nat.{ℕ, ◌+◌, ◌<◌, ◌≤◌}
use native.Mathlib.Omega.{arith}
use native.Mathlib.Decide.{dec_lt}
use mathlib.Core.List.{List}
use mathlib.Core.Bool.{true, false}
use lib.Dec.{eqb}
use borrow.Author.Tests.{lt-ltb, le-ltb, eq-eqb, ne_eqb, eqb-true, eqb-false}
use Rattle.verdicts.specs.declared.Verdict.{Verdict}
use Rattle.verdicts.specs.declared.Verdict.TheVariants.{Shape, Fragment, Uncovered}
use Rattle.verdicts.proofs.Tests.{by_cases}
use Rattle.wire.specs.Bytes.{byte_at}
use Rattle.wire.specs.Walk.{between, size_at, late, unfinished_at, header_rules, met_of}
use Rattle.wire.specs.Chain.{Passable, Passed, Other, Refusal}
use Rattle.wire.specs.Chain as chain
use Rattle.wire.specs.declared.way.Met.{Met}
use Rattle.wire.specs.declared.way.Met.TheVariants.{Header, Message}

pub by_equal : {A : Type 0} (a b : ℕ) → (a ≡ b → A) → (a ≢ b → A) → A
by_equal a b same other = by_cases (eqb a b) (λ e. same (eqb-true a b e)) (λ e. other (eqb-false a b e))

-- what the tests before the ninth say of a header that may be passed
record Early (n at : ℕ) : Type 0 where
  met : between n ≡ true
  whole : eqb n 44 ≡ false
  prompt : late n at ≡ false

early : (n at : ℕ) → Passable n at → Early n at
unfolding between late
early n at k =
    ⊎_elim (λ h. rw (h.0, h.1) (record { met = refl; whole = refl; prompt = refl }))
    (⊎_elim (λ h. rw h (record { met = refl; whole = refl; prompt = refl })) (λ h. rw h (record { met = refl; whole = refl; prompt = refl })))
    k

-- ---- each answer, from the facts that lead to it
module _ (p : List ℕ) (end left n at : ℕ) where
  pub message : Other n → Ok Message ≡ met_of p end left n at
  unfolding met_of between
  message o = simp (ne_eqb n 0 o.hop, ne_eqb n 43 o.routing, ne_eqb n 44 o.fragment, ne_eqb n 60 o.destination)

  pub fragment : n ≡ 44 → Err Fragment ≡ met_of p end left n at
  unfolding met_of header_rules between
  fragment h = rw h

  pub tardy : n ≡ 0 → at ≢ 40 → Err Uncovered ≡ met_of p end left n at
  unfolding met_of header_rules between late
  tardy h l = rw h (simp (ne_eqb at 40 l))

  module _ (k : Passable n at) where
    pub ninth : left ≡ 0 → Err Uncovered ≡ met_of p end left n at
    unfolding met_of header_rules
    ninth z = let e = early n at k in simp (e.met, e.whole, e.prompt, eq-eqb)

    module _ (some : left ≢ 0) where
      pub short : end < at + 8 → Err Shape ≡ met_of p end left n at
      unfolding met_of header_rules
      short s = let e = early n at k in simp (e.met, e.whole, e.prompt, ne_eqb, lt-ltb)

      module _ (eight : at + 8 ≤ end) where
        pub past : end < at + size_at p at → Err Shape ≡ met_of p end left n at
        unfolding met_of header_rules
        past r = let e = early n at k in simp (e.met, e.whole, e.prompt, ne_eqb, le-ltb, lt-ltb)

        pub segments : at + size_at p at ≤ end → unfinished_at p n at ≡ true → Err Uncovered ≡ met_of p end left n at
        unfolding met_of header_rules
        segments r u = let e = early n at k in simp (e.met, e.whole, e.prompt, ne_eqb, le-ltb, u)

        pub passed : at + size_at p at ≤ end → unfinished_at p n at ≡ false → Ok Header ≡ met_of p end left n at
        unfolding met_of header_rules
        passed r u = let e = early n at k in simp (e.met, e.whole, e.prompt, ne_eqb, le-ltb, u)

-- ---- one of them it is, and for a reason that leaves out the others
pub data Sorted (p : List ℕ) (end left n at : ℕ) : Result Met Verdict → Type 0 where
  arrives : Other n → Sorted p end left n at (Ok Message)
  refuses : {v : Verdict} → Refusal p end left n at v → Sorted p end left n at (Err v)
  passed-on : left ≢ 0 → Passed p end n at → Sorted p end left n at (Ok Header)

is-passed : {p : List ℕ} {end left n at : ℕ} → Sorted p end left n at (Ok Header) → (left ≢ 0) × Passed p end n at
is-passed (passed-on z q) = (z, q)

module _ (p : List ℕ) (end left n at : ℕ) where
  segments-left : n ≡ 43 → byte_at p (at + 3) ≢ 0 → unfinished_at p n at ≡ true
  unfolding unfinished_at
  segments-left r b = simp (eq-eqb n 43 r, ne_eqb (byte_at p (at + 3)) 0 b)

  none_left : (n ≡ 43 → byte_at p (at + 3) ≡ 0) → unfinished_at p n at ≡ false
  unfolding unfinished_at
  none_left f = by_equal n 43 (λ e. simp (eq-eqb n 43 e, eq-eqb (byte_at p (at + 3)) 0 (f e))) (λ e. simp (ne_eqb n 43 e))

  pub refusal-met : {v : Verdict} → Refusal p end left n at v → Err v ≡ met_of p end left n at
  refusal-met (chain.split e) = fragment p end left n at e
  refusal-met (chain.late e l) = tardy p end left n at e l
  refusal-met (chain.ninth k z) = ninth p end left n at k z
  refusal-met (chain.past k z h) = elim (dec_lt end (at + 8)) [
    | yes s ↦ short p end left n at k z s
    | no s ↦ past p end left n at k z (omega arith) h
  ]
  refusal-met (chain.unfinished e z h b) = segments p end left n at (inr (inl e)) z (omega arith) h (segments-left e b)

  pub passed-met : left ≢ 0 → Passed p end n at → Ok Header ≡ met_of p end left n at
  passed-met z q = passed p end left n at q.kind z (omega (arith, q.fits)) q.fits (none_left q.finished)

  refuse : {v : Verdict} → Refusal p end left n at v → Sorted p end left n at (met_of p end left n at)
  refuse r = rw (← refusal-met r) (refuses r)

  pass : left ≢ 0 → Passed p end n at → Sorted p end left n at (met_of p end left n at)
  pass z q = rw (← passed-met z q) (passed-on z q)

  -- one that may be passed: ninth, then reach, then segments left
  sort-passable : Passable n at → Sorted p end left n at (met_of p end left n at)
  sort-passable k =
      by_equal left 0 (λ z. refuse (chain.ninth k z))
      (λ z. elim (dec_lt end (at + size_at p at)) [
        | yes h ↦ refuse (chain.past k z h)
        | no h ↦ by_equal n 43
            (λ r. by_equal (byte_at p (at + 3)) 0
            (λ b. pass z (record { kind = k; fits = omega arith; finished = λ e. b }))
            (λ b. refuse (chain.unfinished r z (omega arith) b)))
            (λ r. pass z (record { kind = k; fits = omega arith; finished = λ e. absurd (r e) }))
      ])

  pub sorted : Sorted p end left n at (met_of p end left n at)
  sorted =
      by_equal n 44 (λ e. refuse (chain.split e))
      (λ f. by_equal n 0 (λ e. by_equal at 40 (λ l. sort-passable (inl (e, l))) (λ l. refuse (chain.late e l)))
      (λ h. by_equal n 43 (λ e. sort-passable (inr (inl e)))
      (λ r. by_equal n 60 (λ e. sort-passable (inr (inr e)))
      (λ d. let o : Other n = record { hop = h; routing = r; fragment = f; destination = d } in rw (← message p end left n at o) (arrives o)))))

  -- a header is passed only where one is left
  pub met-passed : Ok Header ≡ met_of p end left n at → (left ≢ 0) × Passed p end n at
  met-passed e = is-passed (rw (← e) at sorted)

-- where the answer r is a header
module _ {p : List ℕ} {end left n at : ℕ} where
  pub passes : {r : Result Met Verdict} {m : Met} → r ≡ Ok m → m ≡ Header → r ≡ met_of p end left n at → (left ≢ 0) × Passed p end n at
  passes a b e = met-passed p end left n at (sym (rw b at a) ∙ e)
