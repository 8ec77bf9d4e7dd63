-- Steps taken two in a turn, and a last one where their number is odd.
use Prim.Native.Nat.{ℕ, suc, ◌+◌, ◌*◌, ◌/◌, ◌≤◌, ◌<◌}
use mathlib.Core.Path.{◌≡◌}
use mathlib.Core.Bool.{Bool, true, cond}
use native.Mathlib.Omega.{arith}
use Rattle.lanes.specs.Lanes.{steps}
use Rattle.lanes.specs.declared.Lanes.{Lanes}

module _ (step : Lanes → ℕ → Lanes) (s : Lanes) where
  pub two_more : (j : ℕ) (t u r : Lanes) → t ≡ steps step s (2 * j) → u ≡ step t (2 * j) → r ≡ step u (2 * j + 1) → r ≡ steps step s (2 * (j + 1))
  unfolding steps
  two_more j t u r a b z =
      let e : 2 * (j + 1) ≡ suc (suc (2 * j)) = omega arith in
      let o : 2 * j + 1 ≡ suc (2 * j) = omega arith in
      rw (z, b, a, e, o)

  one_last : (n k : ℕ) → n ≡ k + 1 → step (steps step s k) k ≡ steps step s n
  unfolding steps
  one_last n k h = let e : n ≡ suc k = omega arith in rw e

  -- after all turns there is nothing left, or one step; b says that all samples are there
  pub all_taken : (n j : ℕ) (b : Bool) (t : Lanes) → b ≡ true → j ≡ n / 2 → t ≡ steps step s (2 * j) → n ≤ 2 * (n / 2) → t ≡ cond b (steps step s n) s
  all_taken n j b t h e a l = let o : 2 * (n / 2) ≡ n = omega arith in rw (h, a, e, o)

  pub last_taken : (n j : ℕ) (b : Bool) (t r : Lanes) → b ≡ true → j ≡ n / 2 → t ≡ steps step s (2 * j) → 2 * (n / 2) < n → r ≡ step t (2 * (n / 2)) → r ≡ cond b (steps step s n) s
  last_taken n j b t r h e a l z = rw (h, z, a, e) (one_last n (2 * (n / 2)) (omega arith))

-- an odd number and an even one
pub odd : (n : ℕ) → 2 * (n / 2) < n → n ≡ 2 * (n / 2) + 1
odd n t = omega arith

pub even : (n : ℕ) → n ≤ 2 * (n / 2) → 2 * (n / 2) ≡ n
even n t = omega arith

pub twice : (j : ℕ) → 2 * (j + 1) ≡ 2 * j + 2
twice j = omega arith
