-- The root is monotone: of two floats in order, the roots are in order. Assumes nothing.
use mathlib.Core.Path.{◌≡◌}
use mathlib.Core.Bool.{Bool, true, false, ◌||◌}
use Prim.Native.Nat.{ℕ, zero, ◌+◌, ◌*◌, ◌^◌, ◌≤◌, ◌<◌, zero-le as zero-le-all}
use native.Mathlib.Nat.{lt_of_le_of_lt, le_of_mul-le-mul_right, mul-le-mul_right, mul-pos, zero-mul}
use native.Mathlib.Omega.{arith}
use lib.IntN.{ℤ}
use lib.Dec.{T, ltb→lt}
use lib.Pow.{pow_pos}
use lib.Ieee.{Float, nan, inf, fin, binary32, up, down, fits, to_bits, le, below, level}
use lib.Ieee.Fits.{up_pos, down_pos}
use lib.Ieee.Exact.{HasValue}
use lib.Ieee.Order.{le_of_values}
use lib.Ieee.Positive.{positive, values_of_le, positive_of_value}
use borrow.Author.Tests.{lt-ltb, le-ltb, ne_eqb}
use Rattle.root.specs.SquareRoot.{units, root_square, root_of}
use Rattle.std.proofs.Common.{Some}
use Rattle.root.proofs.Units.{units_le, units_lt}
use Rattle.root.proofs.Nearest.{nearest_mono}
use Rattle.root.proofs.Floats.{finite_value, positive_value}
use Rattle.root.proofs.Roots.{positive_nearest, Rooted, a_zero, above, infinite, rooted}

-- the root of a float that is finite and above zero is so too, and its value in units
root_value : (x v : Float) → T (fits binary32 x) → T (positive x) → root_of x ≡ Some v → T (positive v) × HasValue v false (units (to_bits binary32 v)) (2 ^ 149)
root_value x v f p h =
    let n = positive_nearest x v f p h in
    let value = finite_value v n.0 n.1.finite in
    (positive_of_value v (units (to_bits binary32 v)) (2 ^ 149) value (lt_of_le_of_lt zero-le-all (units_lt n.1.positive)), value)

positive_monotone : (x y v w : Float) → T (fits binary32 x) → T (fits binary32 y) → T (positive x) → T (positive y) → T (le x y) → root_of x ≡ Some v → root_of y ≡ Some w → T (le v w)
unfolding root_square
positive_monotone x y v w fx fy px py l h k =
    let p = positive_nearest x v fx px h in
    let q = positive_nearest y w fy py k in
    let a = to_bits binary32 x in
    let b = to_bits binary32 y in
    let under : units a ≤ units b = le_of_mul-le-mul_right (values_of_le x y (units a) (2 ^ 149) (units b) (2 ^ 149) px py (positive_value x fx px) (positive_value y fy py) l) (pow_pos 149) in
    let order : to_bits binary32 v ≤ to_bits binary32 w = nearest_mono (root_square a) (root_square b) (to_bits binary32 v) (to_bits binary32 w) (mul-le-mul_right (2 ^ 151) under) p.1 q.1 in
    le_of_values v w (units (to_bits binary32 v)) (2 ^ 149) (units (to_bits binary32 w)) (2 ^ 149) (pow_pos 149) (pow_pos 149) (root_value x v fx px h).1 (root_value y w fy py k).1 (mul-le-mul_right (2 ^ 149) (units_le order))

-- ---- zeros, the floats above zero, and infinity

le_infinity : (v : Float) → T (positive v) → T (le v (inf false))
unfolding le
le_infinity nan p = absurd p
le_infinity (inf s) p = absurd p
le_infinity (fin s m e) p = tt

zero-le : (s : Bool) (e : ℤ) (w : Float) → T (positive w) → T (le (fin s zero e) w)
unfolding le
zero-le s e nan p = absurd p
zero-le s e (inf t) p = absurd p
zero-le s e (fin true n d) p = absurd p
zero-le s e (fin false n d) p =
    let b = n * up d * down e in
    let b_pos : 0 < b = mul-pos (mul-pos (ltb→lt 0 n p) (up_pos d)) (down_pos e) in
    sign s b b_pos
  where
    sign : (s : Bool) (b : ℕ) → 0 < b → T (below s (0 * up e * down d) false b || level s (0 * up e * down d) false b)
    sign true b h = rw (lt-ltb 0 (0 * up e * down d + b) (omega arith)) tt
    sign false b h = rw (lt-ltb (0 * up e * down d) b (simp zero-mul h)) tt

not_le_zero : (x : Float) (s : Bool) (d : ℤ) → T (positive x) → T (le x (fin s zero d)) → ⊥
unfolding le
not_le_zero nan s d p h = p
not_le_zero (inf t) s d p h = p
not_le_zero (fin true m e) s d p h = p
not_le_zero (fin false m e) s d p h = sign s (m * up e * down d) (mul-pos (mul-pos (ltb→lt 0 m p) (up_pos e)) (down_pos d)) h
  where
    sign : (s : Bool) (a : ℕ) → 0 < a → T (below false a s (0 * up d * down e) || level false a s (0 * up d * down e)) → ⊥
    sign true a h l = simp (zero-mul, ne_eqb a 0 (λ e. omega arith)) at l
    sign false a h l = simp (zero-mul, le-ltb a 0 zero-le-all, ne_eqb a 0 (λ e. omega arith)) at l

not_past_infinity : (y : Float) → T (positive y) → T (le (inf false) y) → ⊥
unfolding le
not_past_infinity nan p h = p
not_past_infinity (inf t) p h = p
not_past_infinity (fin t n d) p h = h

ordered : {x y v w : Float} → Rooted x v → Rooted y w → T (fits binary32 x) → T (fits binary32 y) → T (le x y) → root_of x ≡ Some v → root_of y ≡ Some w → T (le v w)
ordered (a_zero s e) (a_zero t d) fx fy l h k = l
ordered {y = y} {w = w} (a_zero s e) (above p) fx fy l h k = zero-le s e w (root_value y w fy p k).0
ordered (a_zero s e) infinite fx fy l h k = l
ordered {x} (above p) (a_zero t d) fx fy l h k = absurd (not_le_zero x t d p l)
ordered {x} {y} {v} {w} (above p) (above q) fx fy l h k = positive_monotone x y v w fx fy p q l h k
ordered {x} {y} {v} {w} (above p) infinite fx fy l h k = le_infinity v (root_value x v fx p h).0
ordered infinite (a_zero t d) fx fy l h k = absurd (unfold le in l)
ordered {x} {y} infinite (above q) fx fy l h k = absurd (not_past_infinity y q l)
ordered infinite infinite fx fy l h k = l

-- The root of a larger float is no smaller.
pub root_monotone : (x y v w : Float) → T (fits binary32 x) → T (fits binary32 y) → T (le x y) → root_of x ≡ Some v → root_of y ≡ Some w → T (le v w)
root_monotone x y v w fx fy l h k = ordered (rooted x v h) (rooted y w k) fx fy l h k
