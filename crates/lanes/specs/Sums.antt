-- The sum that every correlation and every energy is. Definitions only.
use Rattle.std.specs.Prelude.{ℕ, zero, suc, ◌+◌, List, Float}
use Rattle.floats.specs.Single.{◌⊕◌, ◌⊗◌, 0·0, at}

-- f 0 · g 0 + f 1 · g 1 + .. for the first n, from 0.0 and in this order
unfoldable pub product_sum : (ℕ → Float) → (ℕ → Float) → ℕ → Float
product_sum f g zero = 0·0
product_sum f g (suc n) = product_sum f g n ⊕ f n ⊗ g n

-- the samples of x from entry a on
abbrev pub window : List Float → ℕ → ℕ → Float
window x a n = at x (a + n)
