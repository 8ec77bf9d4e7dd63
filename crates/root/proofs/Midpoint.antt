-- The whole root q of the scaled digits, and what is left over, decide the nearest float: `nearest_root` on plain numbers. Assumes nothing.
use mathlib.Core.Path.{◌≡◌, sym, ap, ◌∙◌, subst}
use mathlib.Core.Logic.{⊎_elim}
use Prim.Native.Nat.{ℕ, suc, ◌+◌, ◌-◌, ◌*◌, ◌/◌, ◌%◌, ◌^◌, ◌≤◌, ◌<◌}
use native.Mathlib.Nat.{mul_assoc, mul_comm, mul-mul-mul_comm, mul-suc, suc-mul, add-mul, mul-add, mul-le-mul_left, mul-le-mul_right, mul-lt-mul_of_pos_right, mul-pos, le_of_lt}
use native.Mathlib.Numerals.{add-one}
use native.Mathlib.Omega.{arith}
use lib.Pow.{pow-add, pow_pos, pow_mono}
use Rattle.root.specs.SquareRoot.{units, mid_square, root_square, Nearest}
use Rattle.root.specs.Steps.{WholeRoot, Normalised}
use Rattle.root.proofs.Order.{lt_or_le, square_le, pow_join}
use Rattle.root.proofs.Units.{units_at}
use Rattle.root.proofs.Nearest.{four_square, nearest_between, past_below, not_past}

-- the 24 digits moved up by 23 places or 24, so that what is left of the exponent is even
abbrev pub scaled : ℕ → ℕ → ℕ
scaled m k = m * 2 ^ (23 + k % 2)

pub scaled_range : (a m k : ℕ) → Normalised a m k → (2 ^ 46 ≤ scaled m k) × (scaled m k < 2 ^ 48)
scaled_range a m k norm =
    let lo = mul-le-mul_left m (pow_mono {i = 23} {j = 23 + k % 2} (omega arith)) in
    let hi = mul-le-mul_left m (pow_mono {i = 23 + k % 2} {j = 24} (omega arith)) in
    (omega (arith, lo, norm.lead), omega (arith, hi, norm.digits))

-- the root of such a number has 24 digits
pub root_range : (n q : ℕ) → 2 ^ 46 ≤ n → n < 2 ^ 48 → WholeRoot n q → (2 ^ 23 ≤ q) × (q < 2 ^ 24)
root_range n q lo hi w = (
  ⊎_elim (λ l. absurd (omega (arith, square_le {a = q + 1} {b = 2 ^ 23} (omega arith), w.not_next))) (λ l. l) (lt_or_le q (2 ^ 23)),
  ⊎_elim (λ l. l) (λ l. absurd (omega (arith, square_le l, w.reached))) (lt_or_le q (2 ^ 24)),
)

scaled_sum : (x y p : ℕ) → (x * p + y * p) * (x * p + y * p) ≡ (x + y) * (x + y) * (p * p)
scaled_sum x y p = rw (← add-mul) (mul-mul-mul_comm (x + y) p (x + y) p)

pub square_of_sum : (x y : ℕ) → (x + y) * (x + y) ≡ x * x + 2 * (x * y) + y * y
square_of_sum x y = simp (add-mul, mul-add) (omega (arith, mul_comm y x))

module _ (a m k q : ℕ) (norm : Normalised a m k) (w : WholeRoot (scaled m k) q) where
  -- the float below the root, and its unit
  abbrev pub below : ℕ
  below = k / 2 * 2 ^ 23 + q

  abbrev unit : ℕ
  unit = 2 ^ (k / 2)

  range : (2 ^ 23 ≤ q) × (q < 2 ^ 24)
  range = root_range (scaled m k) q (scaled_range a m k norm).0 (scaled_range a m k norm).1 w

  square_is : root_square a ≡ scaled m k * 4 * (unit * unit)
  square_is =
      norm.value
      ∙ ap (λ (x : ℕ). m * x) (sym (pow_join (23 + k % 2) (2 + (k / 2 + k / 2)) (k + 25) (omega arith)) ∙ ap (λ (x : ℕ). 2 ^ (23 + k % 2) * x) (pow-add 2 2 (k / 2 + k / 2) ∙ ap (λ (x : ℕ). 4 * x) (pow-add 2 (k / 2) (k / 2))))
      ∙ sym (mul_assoc m (2 ^ (23 + k % 2)) (4 * (unit * unit)))
      ∙ sym (mul_assoc (scaled m k) 4 (unit * unit))

  here : units below ≡ q * unit
  here = units_at (k / 2) q range.0 (le_of_lt range.1)

  next : units (suc below) ≡ suc q * unit
  next = ap units (omega arith) ∙ units_at (k / 2) (suc q) (omega (arith, range)) (omega (arith, range))

  unit_pos : 0 < unit * unit
  unit_pos = mul-pos (pow_pos (k / 2)) (pow_pos (k / 2))

  below_square : four_square below ≤ root_square a
  below_square = rw (here, square_is, scaled_sum) (mul-le-mul_right (unit * unit) (omega (arith, square_of_sum q q, w.reached)))

  above_square : root_square a ≤ four_square (suc below)
  above_square = rw (next, square_is, scaled_sum) (mul-le-mul_right (unit * unit) (omega (arith, square_of_sum (suc q) (suc q), subst (λ (x : ℕ). scaled m k < x * x) (add-one q) w.not_next)))

  middle : mid_square below ≡ (q + suc q) * (q + suc q) * (unit * unit)
  unfolding mid_square
  middle = rw (here, next) (scaled_sum q (suc q) unit)

  -- the square of q + 1/2, four times
  half_past : (q + suc q) * (q + suc q) ≡ 4 * (q * q + q) + 1
  half_past = omega (arith, square_of_sum q (suc q), mul-suc q q, suc-mul q (suc q))

  pub round_up : q < scaled m k - q * q → Nearest (root_square a) (suc below)
  round_up h =
      let past : mid_square below < root_square a = rw (middle, square_is) (mul-lt-mul_of_pos_right (omega (arith, half_past)) unit_pos) in
      let e : suc below - 1 ≡ below = omega arith in
      nearest_between (root_square a) (suc below) (omega arith) (omega (arith, range, norm.small)) (rw e (omega arith)) (not_past (root_square a) (suc below) above_square)

  pub round_down : scaled m k - q * q ≤ q → Nearest (root_square a) below
  round_down h =
      let before : root_square a < mid_square below = rw (middle, square_is) (mul-lt-mul_of_pos_right (omega (arith, half_past)) unit_pos) in
      nearest_between (root_square a) below (omega (arith, range)) (omega (arith, range, norm.small)) (past_below (root_square a) below (omega (arith, range)) below_square) (omega arith)
