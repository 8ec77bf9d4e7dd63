-- What the functions of this crate ask of their callers, who are the engines above it and no users.
use Rattle.std.specs.Prelude.{ℕ, ◌+◌, ◌-◌, ◌*◌, ◌≤◌, ◌≡◌, List, Float, length}

-- the lent slices hold 4 rows each, for a filter of this order
pub record Lent (order : ℕ) (numerators denominators : List Float) : Type 0 where
  pub least : 2 ≤ order
  pub most : order ≤ 12
  pub nums : length numerators ≡ 4 * (order - 1)
  pub dens : length denominators ≡ 4 * (order + 1)
