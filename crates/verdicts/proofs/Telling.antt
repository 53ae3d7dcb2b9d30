-- Tests that tell whether a condition holds, and lists of rules against lists of cases.
use mathlib.Core.Path.{◌≡◌, refl, sym, subst, ◌∙◌}
use mathlib.Core.Logic.{◌↔◌, ◌⊎◌, inl, inr, ⊎_elim}
use Prim.Native.Nat.{ℕ, ◌<◌}
use native.Mathlib.Omega.{arith}
use mathlib.Core.List.{List, [], ◌∷◌, ◌++◌}
use mathlib.Core.Bool.{Bool, true, false, not, ◌&&◌, ◌||◌, true≢false}
use lib.Dec.{ltb, eqb}
use borrow.Author.Tests.{ltb-true, ltb-false, eqb-true, eqb-false}
use Rattle.verdicts.specs.Rules.{Rule, ◌⇒◌, verdict_by, IsClear, Case, ◌leads◌, Comes}
use Rattle.verdicts.specs.declared.Verdict.{Verdict}

-- b tells whether c holds
abbrev pub Tells : Bool → Type 0 → Type 0
Tells b c = (b ≡ true → c) × (b ≡ false → ¬ c)

pub yes-tells : {c : Type 0} → c → Tells true c
yes-tells c = (λ e. c, λ e. absurd (true≢false e))

pub no_tells : {c : Type 0} → (¬ c) → Tells false c
no_tells n = (λ e. absurd (true≢false (sym e)), λ e. n)

pub eqb_tells : (a b : ℕ) → Tells (eqb a b) (a ≡ b)
eqb_tells a b = (eqb-true a b, eqb-false a b)

pub ltb-tells : (a b : ℕ) → Tells (ltb a b) (a < b)
ltb-tells a b = (ltb-true a b, λ e h. omega (arith, ltb-false a b e))

pub not-tells : (b : Bool) {c : Type 0} → Tells b c → Tells (not b) (¬ c)
not-tells true t = no_tells (λ n. n (t.0 refl))
not-tells false t = yes-tells (t.1 refl)

pub and-tells : (a b : Bool) {c d : Type 0} → Tells a c → Tells b d → Tells (a && b) (c × d)
and-tells true b t u = (λ e. (t.0 refl, u.0 e), λ e h. u.1 e h.1)
and-tells false b t u = no_tells (λ h. t.1 refl h.0)

pub or-tells : (a b : Bool) {c d : Type 0} → Tells a c → Tells b d → Tells (a || b) (c ⊎ d)
or-tells true b t u = yes-tells (inl (t.0 refl))
or-tells false b t u = (λ e. inr (u.0 e), λ e. ⊎_elim (t.1 refl) (u.1 e))

-- the same condition in other words
pub as-tells : {b : Bool} {c d : Type 0} → Tells b c → (c → d) → (d → c) → Tells b d
as-tells t f g = (λ e. f (t.0 e), λ e h. t.1 e (g h))

-- each rule has its case's verdict, and its test tells the condition where no rule before it holds
abbrev pub Told : List Rule → List Case → Type 0
Told [] [] = Unit
Told [] (c ∷ cases) = ⊥
Told (r ∷ rules) [] = ⊥
Told ((b ⇒ v) ∷ rules) ((c leads w) ∷ cases) = (Tells b c × (v ≡ w)) × (b ≡ false → Told rules cases)

-- one rule, and then those behind it
pub next : {A B : Type 0} → A → B → A × B
next a b = (a, b)

pub told-append : (xs ys : List Rule) (cs ds : List Case) → Told xs cs → (IsClear xs → Told ys ds) → Told (xs ++ ys) (cs ++ ds)
told-append [] ys [] ds t u = u tt
told-append [] ys (c ∷ cs) ds t u = absurd t
told-append (r ∷ xs) ys [] ds t u = absurd t
told-append ((b ⇒ v) ∷ xs) ys ((c leads w) ∷ cs) ds t u = (t.0, λ e. told-append xs ys cs ds (t.1 e) (λ k. u (e, k)))

comes : (rules : List Rule) (cases : List Case) → Told rules cases → Comes cases (verdict_by rules)
comes [] [] t = refl
comes [] (c ∷ cases) t = absurd t
comes (r ∷ rules) [] t = absurd t
comes ((true ⇒ v) ∷ rules) ((c leads w) ∷ cases) t = inl (t.0.0.0 refl, t.0.1)
comes ((false ⇒ v) ∷ rules) ((c leads w) ∷ cases) t = inr (t.0.0.1 refl, comes rules cases (t.1 refl))

-- one verdict comes and no other
comes-only : (cases : List Case) (v w : Verdict) → Comes cases v → Comes cases w → v ≡ w
comes-only [] v w a b = a ∙ sym b
comes-only ((c leads u) ∷ cases) v w a b =
    ⊎_elim
    (λ x. ⊎_elim (λ y. x.1 ∙ sym y.1) (λ y. absurd (y.0 x.0)) b)
    (λ x. ⊎_elim (λ y. absurd (x.0 y.0)) (λ y. comes-only cases v w x.1 y.1) b)
    a

-- the answer of the rules is the verdict that comes
pub told-exactly : (rules : List Rule) (cases : List Case) → Told rules cases → (v : Verdict) → (verdict_by rules ≡ v) ↔ Comes cases v
told-exactly rules cases t v = (λ e. subst (Comes cases) e (comes rules cases t), λ c. comes-only cases (verdict_by rules) v (comes rules cases t) c)
