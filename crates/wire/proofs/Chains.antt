-- The walk and the chains of headers: the answer is what ends a chain of at most eight, and no other.
use Rattle.std.specs.Prelude.{Result, Ok, Err}
use mathlib.Core.Path.{◌≡◌, refl, ◌∙◌}
use mathlib.Core.Logic.{◌≢◌}
use Prim.Native.Nat.{ℕ, zero, suc, ◌+◌, ◌*◌, ◌<◌, ◌≤◌}
use native.Mathlib.Omega.{arith}
use native.Mathlib.Decide.{dec_lt}
use mathlib.Core.List.{List}
use Rattle.verdicts.specs.declared.Verdict.{Verdict}
use Rattle.verdicts.specs.declared.Verdict.TheVariants.{Uncovered}
use Rattle.wire.specs.Bytes.{byte_at}
use Rattle.wire.specs.Walk.{Way, refused, reached, size_at, met_of, going, walk_by, start_in, walked_in}
use Rattle.wire.specs.Chain.{Passed, Refusal, Chain, here, over, Closes, refuses, arrives, Ends}
use Rattle.wire.specs.Chain as chain
use Rattle.wire.specs.declared.way.Met.{Met}
use Rattle.wire.specs.declared.way.Met.TheVariants.{Header, Message}
use Rattle.wire.proofs.Meeting.{Sorted, refusal-met, passed-met, sorted}
use Rattle.wire.proofs.Meeting as meeting

-- ---- how the walk goes on
-- behind the header at a place
abbrev behind : ℕ → List ℕ → ℕ → ℕ → Way
behind zero p end at = refused Uncovered
behind (suc left) p end at = walk_by left p end (byte_at p at) (at + size_at p at)

module _ (p : List ℕ) (end : ℕ) where
  walk-by : (left n at : ℕ) → walk_by left p end n at ≡ going (met_of p end left n at) n at (behind left p end at)
  unfolding walk_by
  walk-by zero n at = refl
  walk-by (suc left) n at = refl

  pub at-refusal : (left n at : ℕ) (v : Verdict) → Err v ≡ met_of p end left n at → walk_by left p end n at ≡ refused v
  at-refusal left n at v e = rw (walk-by left n at, ← e)

  pub at-message : (left n at : ℕ) → Ok Message ≡ met_of p end left n at → walk_by left p end n at ≡ reached n at
  at-message left n at e = rw (walk-by left n at, ← e)

  pub at-header : (left n at : ℕ) → Ok Header ≡ met_of p end (suc left) n at → walk_by (suc left) p end n at ≡ walk_by left p end (byte_at p at) (at + size_at p at)
  at-header left n at e = rw (walk-by (suc left) n at, ← e)

  -- ---- from the walk to its chain
  closing : (left n at : ℕ) {m : Result Met Verdict} → Sorted p end left n at m → m ≡ met_of p end left n at
      → (left ≢ 0 → Passed p end n at → Ends p end left n at (walk_by left p end n at)) → Ends p end left n at (walk_by left p end n at)
  closing left n at (meeting.refuses {v} r) e on =
      record { count = 0; rest = left; few = omega arith; k = n; place = at; chain = here; closes = rw (at-refusal left n at v e) (refuses r) }
  closing left n at (meeting.arrives o) e on =
      record { count = 0; rest = left; few = omega arith; k = n; place = at; chain = here; closes = rw (at-message left n at e) (arrives o) }
  closing left n at (meeting.passed-on z q) e on = on z q

  longer : {left n at : ℕ} {answer : Way} → Passed p end n at → Ends p end left (byte_at p at) (at + size_at p at) answer → Ends p end (suc left) n at answer
  longer q e = record { count = suc e.count; rest = e.rest; few = omega (arith, e.few); k = e.k; place = e.place; chain = over q e.chain; closes = e.closes }

  -- whatever the bytes say, at most `left` headers are walked
  pub walk-by-ends : (left n at : ℕ) → Ends p end left n at (walk_by left p end n at)
  walk-by-ends zero n at = closing zero n at (sorted p end zero n at) refl (λ z q. absurd (z refl))
  walk-by-ends (suc left) n at =
      closing (suc left) n at (sorted p end (suc left) n at) refl
      (λ z q. rw (at-header left n at (passed-met p end (suc left) n at z q)) (longer q (walk-by-ends left (byte_at p at) (at + size_at p at))))

  -- ---- from a chain to the walk
  along : {count n at k place : ℕ} → Chain p end count n at k place → (left rest : ℕ) → count + rest ≡ left → walk_by left p end n at ≡ walk_by rest p end k place
  along here left rest h = let e : left ≡ rest = omega arith in rw e
  along (over q c) zero rest h = absurd (omega arith)
  along (over {count} {n} {at} q c) (suc left) rest h =
      at-header left n at (passed-met p end (suc left) n at (λ z. omega arith) q) ∙ along c left rest (omega arith)

  closed : {left k place : ℕ} {answer : Way} → Closes p end left k place answer → walk_by left p end k place ≡ answer
  closed {left} {k} {place} (refuses {v} r) = at-refusal left k place v (refusal-met p end left k place r)
  closed {left} {k} {place} (arrives o) = at-message left k place (meeting.message p end left k place o)

  pub ends-walk-by : {left n at : ℕ} {answer : Way} → Ends p end left n at answer → walk_by left p end n at ≡ answer
  ends-walk-by {left} e = along e.chain left e.rest e.few ∙ closed e.closes

-- ---- where a chain leads
module _ {p : List ℕ} {end : ℕ} where
  -- each header has 8 bytes at least
  pub chain-order : {count n at k start : ℕ} → Chain p end count n at k start → at + 8 * count ≤ start
  chain-order here = omega arith
  chain-order (over q c) = omega (arith, chain-order c)

  pub chain-within : {count n at k start : ℕ} → Chain p end count n at k start → at ≤ end → start ≤ end
  chain-within here h = h
  chain-within (over q c) h = chain-within c q.fits

  -- so a message that is reached begins behind the first place, and inside the payload
  start-within : {count left n at k place : ℕ} {answer : Way} → at ≤ end → Chain p end count n at k place → Closes p end left k place answer
      → (at ≤ start_in at answer) × (start_in at answer ≤ end)
  start-within h c (refuses r) = (omega arith, h)
  start-within h c (arrives o) = (omega (arith, chain-order c), chain-within c h)

pub walk-by-within : (p : List ℕ) (end left n at : ℕ) → at ≤ end → (at ≤ start_in at (walk_by left p end n at)) × (start_in at (walk_by left p end n at) ≤ end)
walk-by-within p end left n at h = let w = walk-by-ends p end left n at in start-within h w.chain w.closes

-- ---- bytes that no chain is read from
pub walked-in : (header end : ℕ) (w : Way) → start_in header w ≤ end → walked_in end w ≤ end
walked-in header end (refused v) h = omega arith
walked-in header end (reached n at) h = h

-- q has p's bytes from a place up to another
abbrev pub Alike : List ℕ → List ℕ → ℕ → ℕ → Type 0
Alike p q from to = (i : ℕ) → from ≤ i → i < to → byte_at q i ≡ byte_at p i

module _ (p q : List ℕ) (end : ℕ) where
  passed-same : {n at to : ℕ} → Alike p q at to → at + 8 ≤ to → Passed p end n at → Passed q end n at
  passed-same {n} {at} s h r =
      record { kind = r.kind; fits = rw (s (at + 1) (omega arith) (omega arith)) r.fits; finished = λ e. s (at + 3) (omega arith) (omega arith) ∙ r.finished e }

  pub chain_same : {count n at k start : ℕ} → Chain p end count n at k start → Alike p q at start → Chain q end count n at k start
  chain_same here s = here
  chain_same (over {count} {n} {at} {k} {place} r c) s =
      let o = chain-order c in
      let rest : Chain q end count (byte_at q at) (at + size_at q at) k place =
      rw (s at (omega arith) (omega arith), s (at + 1) (omega arith) (omega arith)) (chain_same c (λ i a b. s i (omega arith) b)) in
      over (passed-same s (omega arith) r) rest

  refusal-same : {left n at : ℕ} {v : Verdict} → Alike p q at end → Refusal p end left n at v → Refusal q end left n at v
  refusal-same s (chain.split e) = chain.split e
  refusal-same s (chain.late e l) = chain.late e l
  refusal-same s (chain.ninth k z) = chain.ninth k z
  refusal-same {at = at} s (chain.past k z h) = elim (dec_lt end (at + 8)) [
    | yes l ↦ chain.past k z (omega arith)
    | no l ↦ chain.past k z (rw (s (at + 1) (omega arith) (omega arith)) h)
  ]
  refusal-same {at = at} s (chain.unfinished e z h b) =
      chain.unfinished e z (rw (s (at + 1) (omega arith) (omega arith)) h) (rw (s (at + 3) (omega arith) (omega arith)) b)

  closes-same : {count left n at k place : ℕ} {answer : Way} → at ≤ end → Chain p end count n at k place → Closes p end left k place answer → Alike p q at (walked_in end answer)
      → Chain q end count n at k place × Closes q end left k place answer
  closes-same {place = place} h c (refuses r) s =
      let o = chain-order c in
      let w = chain-within c h in
      (chain_same c (λ i a b. s i a (omega arith)), refuses (refusal-same (λ i a b. s i (omega arith) b) r))
  closes-same h c (arrives o) s = (chain_same c s, arrives o)

  pub walk-by-same : (left n at : ℕ) → at ≤ end → Alike p q at (walked_in end (walk_by left p end n at)) → walk_by left q end n at ≡ walk_by left p end n at
  walk-by-same left n at h s =
      let w = walk-by-ends p end left n at in
      let c = closes-same h w.chain w.closes s in
      ends-walk-by q end (record { count = w.count; rest = w.rest; few = w.few; k = w.k; place = w.place; chain = c.0; closes = c.1 })
