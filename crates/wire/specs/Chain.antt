-- The headers between said once more, in numbers and with no order of tests: which of them are passed, why one is refused, and what a
-- chain of them is. The walk's answer is what ends a chain of at most eight, and no other (`walk_ends`, `ends-walk`).
use Rattle.std.specs.Prelude.{ℕ, suc, ◌+◌, ◌<◌, ◌≤◌, ◌≡◌, ◌⊎◌, ◌≢◌, List}
use Rattle.verdicts.specs.declared.Verdict.{Verdict}
use Rattle.verdicts.specs.declared.Verdict.TheVariants.{Shape, Fragment, Uncovered}
use Rattle.wire.specs.Bytes.{byte_at, word_at}
use Rattle.wire.specs.Walk.{Way, refused, reached, size_at}

-- hop-by-hop directly after the fixed header, routing, destination options
abbrev pub Passable : ℕ → ℕ → Type 0
Passable n at = ((n ≡ 0) × (at ≡ 40)) ⊎ ((n ≡ 43) ⊎ (n ≡ 60))

-- no header between: a protocol
pub record Other (n : ℕ) : Type 0 where
  pub hop : n ≢ 0
  pub routing : n ≢ 43
  pub fragment : n ≢ 44
  pub destination : n ≢ 60

-- a header that is passed: one that may be, inside the payload and with no segments left
pub record Passed (p : List ℕ) (end n at : ℕ) : Type 0 where
  pub kind : Passable n at
  pub fits : at + size_at p at ≤ end
  pub finished : n ≡ 43 → byte_at p (at + 3) ≡ 0

-- why header n at a place is refused, so many headers being left: each reason leaves out the others
pub data Refusal (p : List ℕ) (end left n at : ℕ) : Verdict → Type 0 where
  split : n ≡ 44 → Refusal p end left n at Fragment
  late : n ≡ 0 → at ≢ 40 → Refusal p end left n at Uncovered
  ninth : Passable n at → left ≡ 0 → Refusal p end left n at Uncovered
  past : Passable n at → left ≢ 0 → end < at + size_at p at → Refusal p end left n at Shape
  unfinished : n ≡ 43 → left ≢ 0 → at + size_at p at ≤ end → byte_at p (at + 3) ≢ 0 → Refusal p end left n at Uncovered

-- so many headers, each passed, from a place where n is the next header to one where k is
pub data Chain (p : List ℕ) (end : ℕ) : (count n at k place : ℕ) → Type 0 where
  here : {n at : ℕ} → Chain p end 0 n at n at
  over : {count n at k place : ℕ} → Passed p end n at → Chain p end count (byte_at p at) (at + size_at p at) k place → Chain p end (suc count) n at k place

-- what ends a walk: a header that is refused, or the message
pub data Closes (p : List ℕ) (end left k place : ℕ) : Way → Type 0 where
  refuses : {v : Verdict} → Refusal p end left k place v → Closes p end left k place (refused v)
  arrives : Other k → Closes p end left k place (reached k place)

-- at most so many headers are passed, and what stands behind them ends the walk with the answer
pub record Ends (p : List ℕ) (end left n at : ℕ) (answer : Way) : Type 0 where
  pub count : ℕ
  pub rest : ℕ
  pub few : count + rest ≡ left
  pub k : ℕ
  pub place : ℕ
  pub chain : Chain p end count n at k place
  pub closes : Closes p end rest k place answer

-- at most eight, in an IPv6 packet from its fixed header on, up to the payload's end
abbrev pub WalksTo : List ℕ → Way → Type 0
WalksTo p answer = Ends p (40 + word_at p 4) 8 (byte_at p 6) 40 answer
