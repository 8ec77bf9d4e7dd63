-- The floats above zero and their bit patterns. Assumes nothing.
use mathlib.Core.Path.{◌≡◌, refl, sym, ap, ◌∙◌, subst}
use mathlib.Core.Logic.{⊎_elim}
use Prim.Native.Nat.{ℕ, zero, suc, ◌+◌, ◌*◌, ◌/◌, ◌%◌, ◌^◌, ◌<◌}
use native.Mathlib.Nat.{mul-one, mul_right_comm, mul-lt-mul_of_pos_right, div-lt_iff_lt-mul, mod-eq_of_lt}
use native.Mathlib.Omega.{arith}
use mathlib.Core.Bool.{true, false, ◌&&◌}
use lib.Dec.{T, leb, ltb, eqb, ltb→lt}
use lib.Pow.{pow_pos}
use lib.Ieee.{Float, nan, inf, fin, binary32, up, down, odd, fits, is_nan, of_fields, of_bits, nan_bits, to_bits}
use lib.Ieee.Digits.{size-le}
use lib.Ieee.Fits.{kept-lt, and_r, down_pos}
use lib.Ieee.Bits.{of_bits-to_bits, to_bits-of_bits, nan_bits_is}
use lib.Ieee.Exact.{HasValue, odd_sign}
use lib.Ieee.Positive.{positive}
use borrow.Author.Tests.{lt-leb, ne_eqb}
use Rattle.root.specs.SquareRoot.{field_units, units, root_bits, root_of}
use Rattle.std.proofs.Common.{Some}
use Rattle.root.proofs.Order.{lt_or_le}

-- ---- what a pattern stands for

fields_value : (x t : ℕ) → x < 255 → HasValue (of_fields binary32 false x t) false (field_units x t) (2 ^ 149)
unfolding of_fields field_units
fields_value zero t h = subst (λ (n : ℕ). HasValue (odd 24 false t 0 149) false n (2 ^ 149)) (mul-one t) (odd_sign 24 false t 0 149)
fields_value (suc x) t h = rw (ne_eqb (suc x) 255 (λ e. omega arith)) (odd_sign 24 false (2 ^ 23 + t) x 149)

-- the finite float b is `units b` times 2 ^ -149
pub pattern_value : (b : ℕ) → b < 0x7f80_0000 → HasValue (of_bits binary32 b) false (units b) (2 ^ 149)
unfolding of_bits units
pattern_value b h = rw (lt-leb (2 ^ 31) b (omega arith), mod-eq_of_lt {n = b} {m = 2 ^ 31} (omega arith)) (fields_value (b / 2 ^ 23) (b % 2 ^ 23) (omega arith))

value_no_nan : (x : Float) (a c : ℕ) → HasValue x false a c → is_nan x ≡ false
unfolding is_nan
value_no_nan nan a c h = absurd h
value_no_nan (inf s) a c h = absurd h
value_no_nan (fin s m e) a c h = refl

pub pattern_no_nan : (b : ℕ) → b < 0x7f80_0000 → nan_bits binary32 b ≡ false
pattern_no_nan b h = nan_bits_is binary32 b ∙ value_no_nan (of_bits binary32 b) (units b) (2 ^ 149) (pattern_value b h)

pub pattern_back : (b : ℕ) → b < 0x7f80_0000 → to_bits binary32 (of_bits binary32 b) ≡ b
pattern_back b h = to_bits-of_bits binary32 b (omega arith) (rw (value_no_nan (of_bits binary32 b) (units b) (2 ^ 149) (pattern_value b h)) tt)

-- ---- the pattern of a float that is finite and above zero

finite_below : (x : Float) → T (fits binary32 x) → T (positive x) → to_bits binary32 x < 0x7f80_0000
unfolding fits to_bits
finite_below nan f p = absurd p
finite_below (inf s) f p = absurd p
finite_below (fin true m e) f p = absurd p
finite_below (fin false zero e) f p = absurd p
finite_below (fin false (suc m) e) f p =
    let n = suc m * up e * 2 ^ 149 / down e in
    let small : suc m * up e < 2 ^ 128 * down e = ltb→lt (suc m * up e) (2 ^ 128 * down e) (and_r (eqb (suc m % 2) 1 && ltb (suc m) (2 ^ 24) && leb (down e) (2 ^ 149)) (ltb (suc m * up e) (2 ^ 128 * down e)) f) in
    let n_lt : n < 2 ^ 277 = (div-lt_iff_lt-mul (down_pos e)).1 (rw (mul_right_comm (2 ^ 128) (down e) (2 ^ 149)) at (mul-lt-mul_of_pos_right small (pow_pos 149))) in
    omega (arith, size-le n 277 n_lt, kept-lt 24 n)

-- the pattern 0 is zero's
zero_not_positive : T (positive (of_bits binary32 0)) → ⊥
unfolding of_bits
zero_not_positive p = p

pub positive_pattern : (x : Float) → T (fits binary32 x) → T (positive x) → (0 < to_bits binary32 x) × (to_bits binary32 x < 0x7f80_0000)
positive_pattern x f p = (
  ⊎_elim (λ l. l)
      (λ l.
      let z : to_bits binary32 x ≡ 0 = omega arith in
      absurd (zero_not_positive (subst (λ (y : Float). T (positive y)) (sym (of_bits-to_bits binary32 x f) ∙ ap (of_bits binary32) z) p)))
      (lt_or_le 0 (to_bits binary32 x)),
  finite_below x f p,
)

pub finite_value : (x : Float) → T (fits binary32 x) → to_bits binary32 x < 0x7f80_0000 → HasValue x false (units (to_bits binary32 x)) (2 ^ 149)
finite_value x f h = subst (λ (y : Float). HasValue y false (units (to_bits binary32 x)) (2 ^ 149)) (of_bits-to_bits binary32 x f) (pattern_value (to_bits binary32 x) h)

pub positive_value : (x : Float) → T (fits binary32 x) → T (positive x) → HasValue x false (units (to_bits binary32 x)) (2 ^ 149)
positive_value x f p = finite_value x f (finite_below x f p)

pub positive_root : (x : Float) → T (positive x) → root_of x ≡ Some (of_bits binary32 (root_bits (to_bits binary32 x)))
unfolding root_of
positive_root nan p = absurd p
positive_root (inf s) p = absurd p
positive_root (fin true m e) p = absurd p
positive_root (fin false zero e) p = absurd p
positive_root (fin false (suc m) e) p = refl
