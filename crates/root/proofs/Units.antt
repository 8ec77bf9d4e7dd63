-- The floats in units, by their bit patterns: a larger pattern is a larger float, and so are the midpoints. Assumes nothing.
use mathlib.Core.Path.{◌≡◌, ap, ◌∙◌}
use mathlib.Core.Logic.{⊎_elim}
use Prim.Native.Nat.{ℕ, suc, ◌+◌, ◌-◌, ◌*◌, ◌/◌, ◌%◌, ◌^◌, ◌≤◌, ◌<◌}
use native.Mathlib.Nat.{lt_trans, eq-or-lt_of_le, mul-one, mul-lt-mul_of_pos_right, pow-succ', lt-suc_self}
use native.Mathlib.Decide.{le_ind}
use native.Mathlib.Omega.{arith}
use lib.Pow.{pow_pos}
use Rattle.root.specs.SquareRoot.{field_units, units, mid_square}
use Rattle.root.proofs.Order.{lt_or_le, grows, square_lt}

-- the float b from its field x and its digits t
units_of : (b x t : ℕ) → b / 2 ^ 23 ≡ x → b % 2 ^ 23 ≡ t → units b ≡ field_units x t
unfolding units
units_of b x t p q = cc

-- a normal float: q has 24 digits, or is the power of two above them
pub units_at : (j q : ℕ) → 2 ^ 23 ≤ q → q ≤ 2 ^ 24 → units (j * 2 ^ 23 + q) ≡ q * 2 ^ j
unfolding field_units
units_at j q l h = ⊎_elim top inside (eq-or-lt_of_le h)
  where
    inside : q < 2 ^ 24 → units (j * 2 ^ 23 + q) ≡ q * 2 ^ j
    inside g = units_of (j * 2 ^ 23 + q) (suc j) (q - 2 ^ 23) (omega arith) (omega arith) ∙ ap (λ (x : ℕ). x * 2 ^ j) (omega arith)

    top : q ≡ 2 ^ 24 → units (j * 2 ^ 23 + q) ≡ q * 2 ^ j
    top e = units_of (j * 2 ^ 23 + q) (suc (suc j)) 0 (omega arith) (omega arith) ∙ rw (e, pow-succ' 2 j) (omega arith)

-- a float up to 2 ^ 24 units is its own pattern
pub units_small : (b : ℕ) → b ≤ 2 ^ 24 → units b ≡ b
unfolding field_units
units_small b h = ⊎_elim (λ l. units_of b 0 b (omega arith) (omega arith)) (λ l. ap units (omega arith) ∙ units_at 0 b l h ∙ mul-one b) (lt_or_le b (2 ^ 23))

-- the float b by its 24 digits and its power of two
pub units_normal : (b : ℕ) → 2 ^ 23 ≤ b → units b ≡ (2 ^ 23 + b % 2 ^ 23) * 2 ^ (b / 2 ^ 23 - 1)
units_normal b l = ap units (omega arith) ∙ units_at (b / 2 ^ 23 - 1) (2 ^ 23 + b % 2 ^ 23) (omega arith) (omega arith)

units_step : (b : ℕ) → units b < units (suc b)
units_step b = ⊎_elim
    (λ l. rw (units_small b (omega arith), units_small (suc b) (omega arith)) (lt-suc_self b))
    (λ l.
    let j = b / 2 ^ 23 - 1 in
    let q = 2 ^ 23 + b % 2 ^ 23 in
    let next : units (suc b) ≡ suc q * 2 ^ j = ap units (omega arith) ∙ units_at j (suc q) (omega arith) (omega arith) in
    rw (units_normal b l, next) (mul-lt-mul_of_pos_right (lt-suc_self q) (pow_pos j)))
    (lt_or_le b (2 ^ 23))

pub units_lt : {b c : ℕ} → b < c → units b < units c
units_lt {b} {c} h = le_ind (λ (x : ℕ). units b < units x) (units_step b) (λ x l p. lt_trans p (units_step x)) c h

pub units_le : {b c : ℕ} → b ≤ c → units b ≤ units c
units_le h = grows units (λ l. units_lt l) h

pub mid_lt : {b c : ℕ} → b < c → mid_square b < mid_square c
unfolding mid_square
mid_lt {b} {c} h = square_lt (omega (arith, units_lt h, units_lt {b = suc b} {c = suc c} (omega arith)))

pub mid_le : {b c : ℕ} → b ≤ c → mid_square b ≤ mid_square c
mid_le h = grows mid_square (λ l. mid_lt l) h
