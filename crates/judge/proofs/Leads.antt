-- The walk leads where RFC 8200 says that the extension headers lead, and nothing else does.
use mathlib.Core.Path.{◌≡◌, refl}
use mathlib.Core.Logic.{inl, inr, ⊎_elim}
use Prim.Native.Nat.{ℕ, ◌+◌, ◌*◌}
use native.Mathlib.Omega.{arith}
use mathlib.Core.List.{List}
use mathlib.Core.Bool.{false}
use Rattle.wire.specs.Bytes.{byte_at}
use Rattle.wire.specs.Outer.{four}
use Rattle.wire.specs.Walk.{size_at}
use Rattle.wire.specs.Chain.{Passable, Other, Chain}
use Rattle.wire.specs.Chain as chain
use Rattle.wire.specs.Inner.{protocol_of, start_of}
use Rattle.wire.proofs.Facts.{Facts}
use Rattle.wire.proofs.Walks.{walk-arrives}
use Rattle.judge.specs.Rfc.{Extension, Leads, there, over}

extension : {n at : ℕ} → Passable n at → Extension n
extension k = ⊎_elim (λ h. inl h.0) inr k

no-extension : {n : ℕ} → Other n → Extension n → ⊥
no-extension o e = ⊎_elim o.hop (⊎_elim o.routing o.destination) e

chain-leads : {p : List ℕ} {end count n at k first : ℕ} → Chain p end count n at k first → Leads p n at k first
chain-leads chain.here = there
chain-leads {p} (chain.over {count} {n} {at} {k} {place} q c) =
    let e : at + (byte_at p (at + 1) + 1) * 8 ≡ at + size_at p at = omega arith in
    let rest : Leads p (byte_at p at) (at + (byte_at p (at + 1) + 1) * 8) k place = rw e (chain-leads c) in
    over (extension q.kind) rest

-- what they lead to is one
leads_one : {p : List ℕ} {n at k first l second : ℕ} → Leads p n at k first → (Extension k → ⊥) → Leads p n at l second → (Extension l → ⊥) → (k ≡ l) × (first ≡ second)
leads_one there x there y = (refl, refl)
leads_one there x (over e c) y = absurd (x e)
leads_one (over e b) x there y = absurd (y e)
leads_one (over e b) x (over f c) y = leads_one b x c y

module _ {p : List ℕ} (k : Facts p) (f : four p ≡ false) where
  pub led : Leads p (byte_at p 6) 40 (protocol_of p) (start_of p)
  led = chain-leads (walk-arrives p f k.walked).chain

  pub led-one : {n first : ℕ} → Leads p (byte_at p 6) 40 n first → (Extension n → ⊥) → (protocol_of p ≡ n) × (start_of p ≡ first)
  led-one l y = leads_one led (no-extension (walk-arrives p f k.walked).other) l y
