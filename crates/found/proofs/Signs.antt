-- Laws of small signed numbers: what the machine reads back from their bits.
use Prim.Native.Nat.{ℕ, zero, suc, ◌+◌, ◌-◌, ◌*◌, ◌%◌, ◌≤◌, ◌<◌}
use mathlib.Core.Path.{◌≡◌, refl}
use mathlib.Core.Bool.{Bool, true, false, cond}
use native.Mathlib.Omega.{arith}
use lib.Dec.{eqb, ltb}
use lib.IntN.{ℤ, pos, negsuc, neg_ℤ, nat_abs, ◌+ℤ◌, ◌-ℤ◌, ◌*ℤ◌, +ℤ_idl}
use lib.Signed.{mag, rem_z}
use mir.Syntax.{w32}
use mir.Val.{SFits, to_z, of_z}
use mir.ValLaws.{to_z-of_z, to_z_pos}
use Rattle.found.specs.Taps.{offset}

-- a small number fits
pub small : (z : ℤ) → mag z ≤ 1000 → SFits w32 z
small z h = record { sfits = omega arith }

-- a small number is what the machine reads back from its bits
pub read_back : (z : ℤ) → mag z ≤ 1000 → to_z w32 (of_z w32 z) ≡ z
read_back z h = to_z-of_z w32 z (small z h)

pub read_whole : (n : ℕ) → n ≤ 1000 → to_z w32 n ≡ pos n
read_whole n h = to_z_pos w32 n (omega arith)

-- how far a negation, a sum and a product by four can reach
mag_neg : (z : ℤ) → mag (neg_ℤ z) ≤ suc (mag z)
mag_neg (pos zero) = omega arith
mag_neg (pos (suc n)) = omega arith
mag_neg (negsuc n) = omega arith

mag_pick : (t : Bool) (x y n : ℕ) → x ≤ n → y ≤ n → mag (cond t (negsuc x) (pos y)) ≤ n
mag_pick true x y n p q = p
mag_pick false x y n p q = q

pub mag_sum : (a b : ℤ) → mag (a +ℤ b) ≤ suc (mag a + mag b)
mag_sum (pos a) (pos b) = omega arith
mag_sum (pos a) (negsuc b) = mag_pick (ltb a (suc b)) (suc b - suc a) (a - suc b) (suc (a + b)) (omega arith) (omega arith)
mag_sum (negsuc a) (pos b) = mag_pick (ltb b (suc a)) (suc a - suc b) (b - suc a) (suc (a + b)) (omega arith) (omega arith)
mag_sum (negsuc a) (negsuc b) = omega arith

mag_four : (z : ℤ) → mag (pos 4 *ℤ z) ≤ suc (4 * suc (mag z))
mag_four (pos n) = omega arith
mag_four (negsuc n) = omega (arith, mag_neg (pos (4 * suc n)))

pub mag_offset : (m d : ℤ) → mag m ≤ 4 → mag d ≤ 3 → mag (offset m d) ≤ 26
mag_offset m d h k = omega (arith, mag_sum (pos 4 *ℤ m) (neg_ℤ d), mag_four m, mag_neg d)

-- whether a number is even, by what the machine leaves over
pub even_bits : (z : ℤ) → eqb (of_z w32 (rem_z z (pos 2))) 0 ≡ eqb (nat_abs z % 2) 0
even_bits (pos n) = refl
even_bits (negsuc n) = go (suc n % 2) (omega arith)
  where
    go : (k : ℕ) → k < 2 → eqb (of_z w32 (neg_ℤ (pos k))) 0 ≡ eqb k 0
    go zero h = refl
    go (suc zero) h = refl
    go (suc (suc k)) h = absurd (omega arith)

-- an offset that was computed, as the machine reads it back
pub offset_read : (n m d : ℤ) → n ≡ offset m d → mag m ≤ 4 → mag d ≤ 3 → (to_z w32 (of_z w32 n) ≡ offset m d) × (mag (to_z w32 (of_z w32 n)) ≤ 26)
offset_read n m d e h k =
    let near : mag n ≤ 26 = rw e (mag_offset m d h k) in rw (read_back n (omega arith)) (e, near)

-- a negation
pub neg_read : (z : ℤ) → mag z ≤ 16 → (SFits w32 (pos 0 -ℤ z)) × (to_z w32 (of_z w32 (pos 0 -ℤ z)) ≡ neg_ℤ z) × (mag (neg_ℤ z) ≤ 17)
neg_read z h =
    let far : mag (neg_ℤ z) ≤ 17 = omega (arith, mag_neg z) in
    rw (+ℤ_idl (neg_ℤ z)) (small (neg_ℤ z) (omega arith), read_back (neg_ℤ z) (omega arith), far)
