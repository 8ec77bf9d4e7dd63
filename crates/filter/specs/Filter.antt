-- The filter F at one sample.
use Rattle.std.specs.Prelude.{ℕ, zero, suc, ◌+◌, ◌-◌, ◌/◌, List, Float}
use Rattle.floats.specs.Single.{◌⊕◌, ◌⊖◌, ◌⊗◌, 0·0, at}
use Rattle.coefficients.specs.Coefficients.{Filter}

-- starts at 0.0 and adds num[k]·x(i − k) for rising k, over the first terms
unfoldable pub num_sum : List Float → List Float → ℕ → ℕ → Float
num_sum num x i zero = 0·0
num_sum num x i (suc k) = num_sum num x i k ⊕ at num k ⊗ at x (i - k)

-- then subtracts den[k]·y(i − k) for rising k, over the first terms
unfoldable pub den_sum : Float → List Float → List Float → ℕ → ℕ → Float
den_sum start den y i zero = start
den_sum start den y i (suc k) = den_sum start den y i k ⊖ at den k ⊗ at y (i - k)

-- F(i): l_num + 1 terms of x, and l_den + 1 terms of y from i − lag + ⌊l_den/2⌋ back
unfoldable pub F : Filter → List Float → List Float → ℕ → Float
F filter x y i =
    den_sum (num_sum filter.c_num x i (filter.l_den - 1)) filter.c_den y (i + filter.l_den / 2 - filter.lag) (filter.l_den + 1)
