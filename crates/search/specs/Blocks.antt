-- Eight entries of a list at once.
use Rattle.std.specs.Prelude.{ℕ, ◌+◌, List, Float}
use Rattle.slices.specs.Written.{written}

-- r with its entries i to i + 7 set to those of f
unfoldable pub eight : (ℕ → Float) → ℕ → List Float → List Float
eight f i r = written r i (λ n. f (i + n)) 8
