-- What the filter reads of the coefficients and of the outputs.
use Prim.Native.Nat.{ℕ, zero, suc, ◌+◌, ◌-◌, ◌/◌, ◌≤◌, ◌<◌}
use mathlib.Core.Path.{◌≡◌, refl, sym}
use mathlib.Core.List.{List}
use native.Mathlib.Omega.{arith}
use lib.ListN.{take}
use lib.Seq.{get_or-take, take-take}
use lib.Ieee.{Float, nan}
use Rattle.filter.specs.Filter.{den_sum, F}
use Rattle.coefficients.specs.Coefficients.{Filter}

-- the first of the coefficients in an array are the first of those that are read out
pub first_of_more : (few more : ℕ) (coefficients : List Float) → few ≤ more → take few coefficients ≡ take few (take more coefficients)
first_of_more few more coefficients h = sym (take-take few more coefficients h)

den_sum_take : (start : Float) (den y : List Float) (i n k : ℕ) → i < n → den_sum start den (take n y) i k ≡ den_sum start den y i k
unfolding den_sum
den_sum_take start den y i n zero h = refl
den_sum_take start den y i n (suc k) h = rw (den_sum_take start den y i n k h, get_or-take n y (i - k) nan (omega arith))

-- F reads nothing after the newest output that it reads
pub F-take : (t : Filter) (x y : List Float) (i n : ℕ) → i + t.l_den / 2 - t.lag < n → F t x (take n y) i ≡ F t x y i
unfolding F
F-take t x y i n h = den_sum_take _ _ y _ n (t.l_den + 1) h
