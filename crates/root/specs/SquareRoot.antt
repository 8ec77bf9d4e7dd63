-- What the square root of an `f32` is, by comparisons of whole numbers. Definitions only.
-- A float that is not negative is named by its bit pattern b. The patterns stand in the order of the values, so b's neighbours are b - 1 and b + 1,
-- also at a power of two, whose neighbour below is nearer than the one above. A pattern is even or odd as its significand is.
use Rattle.std.specs.Prelude.{◌≡◌, ◌⊎◌, Bool, true, false, cond, ℕ, zero, suc, ◌+◌, ◌-◌, ◌*◌, ◌/◌, ◌%◌, ◌^◌, ◌≤◌, ◌<◌, T, ltb, Float, Option, Some, None}
use Rattle.std.specs.Float.{nan, inf, fin, binary32}
use Rattle.std.specs.Float.Ieee.{fits, to_bits, of_bits}

-- ---- the definition

-- The float with the exponent field x and the 23 digits t, counted in units of 2 ^ -149, the smallest float above zero. A field of 0 has no leading digit.
unfoldable pub field_units : ℕ → ℕ → ℕ
field_units zero t = t
field_units (suc x) t = (2 ^ 23 + t) * 2 ^ x

-- the float b in units
unfoldable pub units : ℕ → ℕ
units b = field_units (b / 2 ^ 23) (b % 2 ^ 23)

-- the midpoint of b and the next float up, doubled and squared
unfoldable pub mid_square : ℕ → ℕ
mid_square b = (units b + units (suc b)) * (units b + units (suc b))

-- the root of the float a, doubled and squared: the float is `units a` times 2 ^ -149, which is `units a * 2 ^ 149` square units
unfoldable pub root_square : ℕ → ℕ
root_square a = units a * 2 ^ 151

-- b is the nearest float to a root that is n when doubled and squared: the root lies between b's two midpoints, and at one of them only if b is even.
pub record Nearest (n b : ℕ) : Type 0 where
  pub positive : 0 < b
  pub finite : b < 0x7f80_0000
  pub low : mid_square (b - 1) ≤ n
  pub high : n ≤ mid_square b
  pub tie : (mid_square (b - 1) ≡ n) ⊎ (n ≡ mid_square b) → b % 2 ≡ 0

-- v is the root of x. A zero is its own root, with its sign, and so is +infinity. A NaN and what is below zero have none.
unfoldable pub IsRoot : Float → Float → Type 0
IsRoot nan v = ⊥
IsRoot (inf true) v = ⊥
IsRoot (inf false) v = v ≡ inf false
IsRoot (fin s zero e) v = v ≡ fin s zero e
IsRoot (fin true (suc m) e) v = ⊥
IsRoot (fin false (suc m) e) v = T (fits binary32 v) × Nearest (root_square (to_bits binary32 (fin false (suc m) e))) (to_bits binary32 v)

-- ---- the same as a function, for promises to name: proofs/Roots.antt shows that it gives v exactly where `IsRoot` says that v is the root

-- the root is past the midpoint of b and the next float up; at the midpoint itself it is past an odd b, since the next is then even
unfoldable pub past : ℕ → ℕ → Bool
past n b = ltb (mid_square b) (n + b % 2)

-- the last float, among the 2 ^ d from b on, whose midpoint below the root is past: found by halves
unfoldable pub last_passed : ℕ → ℕ → ℕ → ℕ
last_passed n zero b = b
last_passed n (suc d) b = last_passed n d (cond (past n (b + 2 ^ d - 1)) (b + 2 ^ d) b)

-- the pattern of the root of the float a, which is finite and above zero
unfoldable pub root_bits : ℕ → ℕ
root_bits a = last_passed (root_square a) 31 0

-- the root of x, or that it has none
unfoldable pub root_of : Float → Option Float
root_of nan = None
root_of (inf s) = cond s None (Some (inf s))
root_of (fin s zero e) = Some (fin s zero e)
root_of (fin s (suc m) e) = cond s None (Some (of_bits binary32 (root_bits (to_bits binary32 (fin s (suc m) e)))))
