-- The list of the first values of a function.
use Rattle.std.specs.Prelude.{ℕ, zero, suc, List, [], ◌∷◌, ◌++◌, Float}

-- the list of f 0 to f (n - 1)
unfoldable pub list_of : (ℕ → Float) → ℕ → List Float
list_of f zero = []
list_of f (suc n) = list_of f n ++ (f n ∷ [])
