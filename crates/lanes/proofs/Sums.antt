-- A sum of the eight is a sum of products.
use Prim.Native.Nat.{ℕ, zero, suc, ◌<◌}
use mathlib.Core.Path.{◌≡◌, refl}
use native.Mathlib.Omega.{arith}
use lib.Ieee.{Float}
use Rattle.floats.specs.Single.{◌⊗◌, 0·0}
use Rattle.lanes.specs.Lanes.{joined, added}
use Rattle.lanes.specs.Sums.{product_sum}

pub sum_added : (term f g : ℕ → Float) (n : ℕ) → ((m : ℕ) → m < n → term m ≡ f m ⊗ g m) → added term 0·0 n ≡ product_sum f g n
unfolding joined product_sum
sum_added term f g zero h = refl
sum_added term f g (suc n) h = rw (sum_added term f g n (λ m l. h m (omega arith)), h n (omega arith))
