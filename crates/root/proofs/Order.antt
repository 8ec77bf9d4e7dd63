-- Whole numbers: their order, that of their squares, and products of powers of two. Assumes nothing.
use mathlib.Core.Path.{◌≡◌, sym, ap, ◌∙◌}
use mathlib.Core.Logic.{◌⊎◌, inl, inr, ⊎_elim}
use Prim.Native.Nat.{ℕ, ◌+◌, ◌*◌, ◌^◌, ◌≤◌, ◌<◌, zero-le}
use native.Mathlib.Decide.{dec_lt}
use native.Mathlib.Nat.{le_of_eq, eq-or-lt_of_le, mul-le-mul, mul-le-mul_left, mul-lt-mul_of_pos_right, lt_of_le_of_lt, le_of_lt}
use native.Mathlib.Omega.{arith}
use lib.Pow.{pow-add}

pub lt_or_le : (a b : ℕ) → (a < b) ⊎ (b ≤ a)
lt_or_le a b = elim (dec_lt a b) [ yes p ↦ inl p | no n ↦ inr (omega arith) ]

-- what grows strictly never falls
pub grows : {b c : ℕ} (f : ℕ → ℕ) → (b < c → f b < f c) → b ≤ c → f b ≤ f c
grows f up h = ⊎_elim (λ e. le_of_eq (ap f e)) (λ l. le_of_lt (up l)) (eq-or-lt_of_le h)

pub square_le : {a b : ℕ} → a ≤ b → a * a ≤ b * b
square_le h = mul-le-mul h h

pub square_lt : {a b : ℕ} → a < b → a * a < b * b
square_lt {a} h = lt_of_le_of_lt (mul-le-mul_left a (le_of_lt h)) (mul-lt-mul_of_pos_right h (lt_of_le_of_lt zero-le h))

pub pow_join : (i j k : ℕ) → i + j ≡ k → 2 ^ i * 2 ^ j ≡ 2 ^ k
pow_join i j k e = sym (pow-add 2 i j) ∙ ap (λ (x : ℕ). 2 ^ x) e
