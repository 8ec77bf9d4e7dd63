-- A float as 24 digits and a power of two, below the smallest normal float and from it on. Assumes nothing.
use mathlib.Core.Path.{◌≡◌, sym, ap, ◌∙◌}
use mathlib.Core.Logic.{⊎_elim}
use Prim.Native.Nat.{ℕ, suc, ◌+◌, ◌-◌, ◌*◌, ◌/◌, ◌%◌, ◌^◌, ◌≤◌, ◌<◌}
use native.Mathlib.Nat.{mul_assoc, mul-le-mul_right, mul-lt-mul_of_pos_right, mod-eq_of_lt}
use native.Mathlib.Omega.{arith}
use lib.Pow.{pow_pos, pow_mono}
use lib.Count.{count_leading_zeros, leading_top}
use Rattle.root.specs.SquareRoot.{root_square}
use Rattle.root.specs.Steps.{Normalised}
use Rattle.root.proofs.Order.{lt_or_le, pow_join}
use Rattle.root.proofs.Units.{units_small, units_normal}

-- u places up, the leading digit of t stands at 2 ^ 23
pub lifted : (t : ℕ) → 0 < t → t < 2 ^ 23 → (u : ℕ) × (count_leading_zeros 32 t ≡ u + 8) × (u ≤ 23) × (2 ^ 23 ≤ t * 2 ^ u) × (t * 2 ^ u < 2 ^ 24)
lifted t z h =
    let top = leading_top 32 t z (omega arith) in
    let j = top.0 in
    let j_lt : j < 23 = ⊎_elim (λ l. l) (λ l. absurd (omega (arith, pow_mono l, top.2))) (lt_or_le j 23) in
    let u = 23 - j in
    let p : 2 ^ j * 2 ^ u ≡ 2 ^ 23 = pow_join j u 23 (omega arith) in
    let q : 2 ^ suc j * 2 ^ u ≡ 2 ^ 24 = pow_join (suc j) u 24 (omega arith) in
    (u, omega (arith, top.1), omega arith, rw p at (mul-le-mul_right (2 ^ u) top.2), rw q at (mul-lt-mul_of_pos_right top.3 (pow_pos u)))

pub subnormal : (a u : ℕ) → a < 2 ^ 23 → u ≤ 23 → 2 ^ 23 ≤ a * 2 ^ u → a * 2 ^ u < 2 ^ 24 → Normalised a (a * 2 ^ u % 2 ^ 32) (126 - u)
unfolding root_square
subnormal a u h l lo hi =
    let whole : a * 2 ^ u % 2 ^ 32 ≡ a * 2 ^ u = mod-eq_of_lt (omega arith) in
    let p : 2 ^ u * 2 ^ (126 - u + 25) ≡ 2 ^ 151 = pow_join u (126 - u + 25) 151 (omega arith) in
    rw whole (record {
      lead = lo;
      digits = hi;
      small = omega arith;
      value = ap (λ (x : ℕ). x * 2 ^ 151) (units_small a (omega arith)) ∙ ap (λ (x : ℕ). a * x) (sym p) ∙ sym (mul_assoc a (2 ^ u) (2 ^ (126 - u + 25)));
    })

pub normal : (a : ℕ) → 2 ^ 23 ≤ a → a < 0x7f80_0000 → Normalised a (2 ^ 23 + a % 2 ^ 23) (a / 2 ^ 23 + 125)
unfolding root_square
normal a l h =
    let j = a / 2 ^ 23 - 1 in
    let m = 2 ^ 23 + a % 2 ^ 23 in
    let p : 2 ^ j * 2 ^ 151 ≡ 2 ^ (a / 2 ^ 23 + 125 + 25) = pow_join j 151 (a / 2 ^ 23 + 125 + 25) (omega arith) in
    record {
      lead = omega arith;
      digits = omega arith;
      small = omega arith;
      value = ap (λ (x : ℕ). x * 2 ^ 151) (units_normal a l) ∙ mul_assoc m (2 ^ j) (2 ^ 151) ∙ ap (λ (x : ℕ). m * x) p;
    }
