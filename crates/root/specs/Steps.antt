-- What the two steps on the way to a root promise. They are private to the crate; `SquareRoot` says what the root is.
use Rattle.std.specs.Prelude.{◌≡◌, ℕ, ◌+◌, ◌*◌, ◌^◌, ◌≤◌, ◌<◌}
use Rattle.root.specs.SquareRoot.{root_square}

-- q is the root of n, cut to a whole number
pub record WholeRoot (n q : ℕ) : Type 0 where
  pub reached : q * q ≤ n
  pub not_next : n < (q + 1) * (q + 1)

-- the float a is the significand m, of 24 digits, times 2 ^ (k - 275): doubled, its root has the square m * 2 ^ (k + 25)
pub record Normalised (a m k : ℕ) : Type 0 where
  pub lead : 2 ^ 23 ≤ m
  pub digits : m < 2 ^ 24
  pub small : k < 380
  pub value : root_square a ≡ m * 2 ^ (k + 25)
