-- What a joined sum can't tell: the order. Both orders always have the same length; the fold tells them apart unless both
-- lengths are even, or 257 divides what is exchanged.
use Rattle.std.proofs.Common.{◌≡◌, ℕ, ◌+◌, ◌*◌, ◌/◌, ◌%◌, ◌≤◌, Bool, true, false, ◌↔◌, List, [], ◌∷◌, ◌++◌, length, sym, refl, ap, ◌∙◌, add_comm, arith}
use native.Mathlib.Nat.{add-mul-mod_self_left}
use Rattle.sums.specs.Fold.{fold, swap}
use Rattle.sums.specs.Total.{odd, weigh, total}
use Rattle.sums.specs.Partials.{partial, partial_of, swap_if, joined}
use Rattle.sums.specs.declared.Partial.{Partial}
use Rattle.sums.proofs.Folds.{fold-mod, fold_same, fold-sum, fold-swap, mod-out, mod-in}
use Rattle.sums.proofs.Joins.{partial-path, join-strings}

-- what the folds of two orders need to be equal, by the parities of both lengths
abbrev pub Untold : Bool → Bool → ℕ → ℕ → Type 0
Untold false false x y = Unit
Untold true false x y = y % 257 ≡ 0
Untold false true x y = x % 257 ≡ 0
Untold true true x y = y % 257 ≡ x % 257

pub join-order : (a b : Partial) → (joined a b ≡ joined b a) ↔ Untold (odd a.length) (odd b.length) a.fold.0 b.fold.0
join-order a b =
    let f = folds (odd a.length) (odd b.length) a.fold.0 b.fold.0 in
    (λ e. f.0 (ap (λ s. s.fold.0) e), λ u. partial-path (f.1 u) (add_comm a.length b.length))
  where
    -- 65535 is 255 times 257
    apart : (s u v : ℕ) → u ≤ s → v ≤ s → (fold (s + 255 * u) ≡ fold (s + 255 * v)) ↔ (u % 257 ≡ v % 257)
    apart s u v h k =
        let m = s + 255 * u in
        let n = s + 255 * v in (
          λ e.
              let t : m + 65535 * (n / 65535) ≡ n + 65535 * (m / 65535) = mod-out m n (sym (fold-mod m) ∙ ap (λ f. f % 65535) e ∙ fold-mod n) in
              let w : u + 257 * (n / 65535) ≡ v + 257 * (m / 65535) = omega arith in
              sym (add-mul-mod_self_left u 257 (n / 65535)) ∙ ap (λ k. k % 257) w ∙ add-mul-mod_self_left v 257 (m / 65535),
          λ e. fold_same m n (mod-in m n (v / 257) (u / 257) (omega arith)) (λ z. omega arith) (λ z. omega arith),
        )

    exchanged : (x y : ℕ) → fold (x + swap y) ≡ fold (x + y + 255 * y)
    exchanged x y = fold-sum x x (swap y) (256 * y) refl (fold-swap y) ∙ ap fold (omega arith)

    between : {f g h k : ℕ} {P : Type 0} → f ≡ g → h ≡ k → (g ≡ k) ↔ P → (f ≡ h) ↔ P
    between e i p = (λ q. p.0 (sym e ∙ q ∙ i), λ u. e ∙ p.1 u ∙ sym i)

    one : (x y : ℕ) → (fold (x + swap y) ≡ fold (y + x)) ↔ (y % 257 ≡ 0)
    one x y = between (exchanged x y) (ap fold (omega arith)) (apart (x + y) y 0 (omega arith) (omega arith))

    folds : (o p : Bool) (x y : ℕ) → (fold (x + swap_if o y) ≡ fold (y + swap_if p x)) ↔ Untold o p x y
    folds false false x y = (λ e. tt, λ u. ap fold (add_comm x y))
    folds true false x y = one x y
    folds false true x y = (λ e. (one y x).0 (sym e), λ u. sym ((one y x).1 u))
    folds true true x y =
        between (exchanged x y) (exchanged y x ∙ ap fold (omega arith)) (apart (x + y) y x (omega arith) (omega arith))

-- of real strings too
pub string-order : (a b : List ℕ) → (partial_of (a ++ b) ≡ partial_of (b ++ a)) ↔ Untold (odd (length a)) (odd (length b)) (fold (total a)) (fold (total b))
string-order a b =
    let o = join-order (partial_of a) (partial_of b) in
    let x = join-strings a b in
    let y = join-strings b a in
    (λ e. o.0 (x ∙ e ∙ sym y), λ u. sym x ∙ o.1 u ∙ y)

-- so both orders agree for all folds exactly where both lengths are even
pub join-either-order : (m n : ℕ)
    → ((x y : ℕ) → joined (partial x m) (partial y n) ≡ joined (partial y n) (partial x m)) ↔ ((odd m ≡ false) × (odd n ≡ false))
join-either-order m n = (
  λ f. even (odd m) (odd n) ((join-order (partial 0 m) (partial 1 n)).0 (f 0 1)) ((join-order (partial 1 m) (partial 0 n)).0 (f 1 0)),
  λ e x y. (join-order (partial x m) (partial y n)).1 (rw (e.0, e.1) tt),
)
  where
    even : (o p : Bool) → Untold o p 0 1 → Untold o p 1 0 → (o ≡ false) × (p ≡ false)
    even false false u v = (refl, refl)
    even true false u v = absurd (omega arith)
    even false true u v = absurd (omega arith)
    even true true u v = absurd (omega arith)

-- ---- an example that the fold tells apart, and one that nothing does
pub order-told : (joined (partial_of (0x01 ∷ [])) (partial_of (0x02 ∷ [])) ≡ partial 0x0102 2) × (joined (partial_of (0x02 ∷ [])) (partial_of (0x01 ∷ [])) ≡ partial 0x0201 2)
unfolding fold odd weigh
order-told = (refl, refl)

pub order-untold : joined (partial_of (0x12 ∷ 0x34 ∷ [])) (partial_of (0x56 ∷ 0x78 ∷ [])) ≡ joined (partial_of (0x56 ∷ 0x78 ∷ [])) (partial_of (0x12 ∷ 0x34 ∷ []))
unfolding fold odd weigh
order-untold = refl
