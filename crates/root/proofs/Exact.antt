-- The root of a square that is a float is exact. Assumes nothing.
use mathlib.Core.Path.{◌≡◌, sym, ap, ◌∙◌}
use Prim.Native.Nat.{ℕ, ◌*◌, ◌^◌, ◌<◌}
use native.Mathlib.Nat.{le_of_eq, eq_of_mul-eq-mul_right, mul-pos, mul_assoc, mul_comm, mul_left_comm}
use native.Mathlib.Omega.{arith}
use mathlib.Core.Bool.{false}
use lib.Dec.{T}
use lib.Ieee.{Float, binary32, fits, to_bits, of_bits}
use lib.Ieee.Bits.{of_bits-to_bits}
use lib.Ieee.Exact.{HasValue}
use lib.Ieee.Positive.{positive, num, den, den_pos, own_value, value→cross, value_pos, positive_of_value}
use Rattle.root.specs.SquareRoot.{units, root_square, root_bits, root_of}
use Rattle.std.proofs.Common.{Some}
use Rattle.root.proofs.Nearest.{four_square, nearest_unique, nearest_between, past_below, not_past}
use Rattle.root.proofs.Search.{root_bits_nearest}
use Rattle.root.proofs.Midpoint.{square_of_sum}
use Rattle.root.proofs.Floats.{positive_pattern, positive_value, positive_root}

-- with p / q the square of n / d, as a / u and b / u: a * u is the square of b
in_units : (a b u p q n d : ℕ) → 0 < q → 0 < d → p * u ≡ a * q → n * u ≡ b * d → p * (d * d) ≡ n * n * q → a * u ≡ b * b
in_units a b u p q n d Q D x v h =
    let left : a * q * (u * (d * d)) ≡ a * u * (q * (d * d)) = simp (mul_assoc, mul_left_comm) in
    let turn : p * u * (u * (d * d)) ≡ p * (d * d) * (u * u) = simp (mul_assoc, mul_comm, mul_left_comm) in
    let pair : n * n * q * (u * u) ≡ n * u * (n * u) * q = simp (mul_assoc, mul_comm, mul_left_comm) in
    let right : b * d * (b * d) * q ≡ b * b * (q * (d * d)) = simp (mul_assoc, mul_comm, mul_left_comm) in
    eq_of_mul-eq-mul_right (q * (d * d)) (mul-pos Q (mul-pos D D)) (a * u) (b * b)
    (sym left ∙ ap (λ (z : ℕ). z * (u * (d * d))) (sym x) ∙ turn ∙ ap (λ (z : ℕ). z * (u * u)) h ∙ pair ∙ ap (λ (z : ℕ). z * z * q) v ∙ right)

-- Where x is exactly the square of a float v above zero, its root is v.
pub root_of_square : (x v : Float) → T (fits binary32 x) → T (fits binary32 v) → T (positive v) → HasValue x false (num v * num v) (den v * den v) → root_of x ≡ Some v
unfolding root_square
root_of_square x v fx fv pv h =
    let n_pos : 0 < num v = value_pos v (num v) (den v) pv (den_pos v) (own_value v pv) in
    let px : T (positive x) = positive_of_value x (num v * num v) (den v * den v) h (mul-pos n_pos n_pos) in
    let a = to_bits binary32 x in
    let b = to_bits binary32 v in
    let ra = positive_pattern x fx px in
    let rb = positive_pattern v fv pv in
    let e : units a * 2 ^ 149 ≡ units b * units b =
    in_units (units a) (units b) (2 ^ 149) (num x) (den x) (num v) (den v) (den_pos x) (den_pos v)
    (value→cross x (units a) (2 ^ 149) (positive_value x fx px)) (value→cross v (units b) (2 ^ 149) (positive_value v fv pv)) (value→cross x (num v * num v) (den v * den v) h) in
    let four : root_square a ≡ four_square b = sym (mul_assoc (units a) (2 ^ 149) 4) ∙ ap (λ (z : ℕ). z * 4) e ∙ omega (arith, square_of_sum (units b) (units b)) in
    let near = nearest_between (root_square a) b rb.0 rb.1 (past_below (root_square a) b rb.0 (le_of_eq (sym four))) (not_past (root_square a) b (le_of_eq four)) in
    positive_root x px ∙ ap (λ (z : ℕ). Some (of_bits binary32 z)) (nearest_unique (root_square a) (root_bits a) b (root_bits_nearest a ra.0 ra.1) near) ∙ ap Some (of_bits-to_bits binary32 v fv)
