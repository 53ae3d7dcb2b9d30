-- What the test of a list reckons with. The paper says nothing of these: they are for a private function's contract.
use Rattle.std.specs.Prelude.{ℕ, ◌+◌, List, [], ◌∷◌, Bool, not, ◌&&◌}
use Rattle.sums.specs.Partials.{too_long}
use Rattle.chain.specs.Chain.{fits}

-- the lengths in a list, together: of a list that fits, the joined length
unfoldable pub sizes : List ℕ → ℕ
sizes [] = 0
sizes (offset ∷ []) = 0
sizes (offset ∷ size ∷ rest) = size + sizes rest

-- neither rule refuses the list
unfoldable pub taken : ℕ → List ℕ → Bool
taken end pieces = fits end pieces && not (too_long (sizes pieces))
