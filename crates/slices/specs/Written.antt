-- Samples written one after the other over the entries of a list.
use Rattle.std.specs.Prelude.{ℕ, zero, suc, ◌+◌, List, Float, set}

-- x with the samples f 0, f 1, .. written over its entries from start on, n of them
unfoldable pub written : List Float → ℕ → (ℕ → Float) → ℕ → List Float
written x start f zero = x
written x start f (suc n) = set (written x start f n) (start + n) (f n)
