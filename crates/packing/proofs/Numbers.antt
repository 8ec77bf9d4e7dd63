-- A number and its bits.
use Prim.Native.Nat.{ℕ, zero, suc, ◌+◌, ◌*◌, ◌/◌, ◌%◌, ◌^◌, ◌<◌}
use mathlib.Core.Path.{◌≡◌, refl, sym, ap, ap₂, ◌∙◌}
use mathlib.Core.Bool.{Bool, true, false, cond}
use mathlib.Core.List.{List, [], ◌∷◌, ◌++◌}
use native.Mathlib.Nat.{mod-one, mul_comm, add_comm, zero-add, add-mul, suc-add, pow-suc}
use native.Mathlib.Omega.{arith}
use borrow.Author.Tests.{eqb-true, eqb-false, ne_eqb}
use lib.Dec.{eqb}
use lib.Arith.{mod-mul}
use lib.Pow.{pow_pos, shr-shr, pow-add}
use lib.ListN.{length, length-append}
use Rattle.packing.specs.Bits.{bits_of, value_of, clear}

length_bits : (w n : ℕ) → length (bits_of w n) ≡ w
unfolding bits_of
length_bits zero n = refl
length_bits (suc w) n = ap suc (length_bits w n)

-- a bit, at its place
bit_at : (x p : ℕ) → x < 2 → cond (eqb x 1) p 0 ≡ x * p
bit_at x p h = go (eqb x 1) refl
  where
    go : (b : Bool) → eqb x 1 ≡ b → cond b p 0 ≡ x * p
    go true e = omega (arith, ap (λ (k : ℕ). k * p) (eqb-true x 1 e))
    go false e =
        let none : x ≡ 0 = omega (arith, eqb-false x 1 e) in
        omega (arith, ap (λ (k : ℕ). k * p) none)

-- the lowest w bits of n are n modulo 2 ^ w
pub value_bits : (w n : ℕ) → value_of (bits_of w n) ≡ n % 2 ^ w
unfolding bits_of value_of
value_bits zero n = sym (mod-one n)
value_bits (suc w) n =
    ap₂ (λ (p v : ℕ). cond (eqb (n / 2 ^ w % 2) 1) (2 ^ p) 0 + v) (length_bits w n) (value_bits w n)
    ∙ ap (λ (k : ℕ). k + n % 2 ^ w) (bit_at (n / 2 ^ w % 2) (2 ^ w) (omega arith))
    ∙ sym (mod-mul n {m = 2} {c = 2 ^ w} (omega arith) (pow_pos w))
    ∙ ap (λ (k : ℕ). n % k) (mul_comm 2 (2 ^ w) ∙ sym (pow-suc 2 w))

-- bits after others
pub value_append : (upper lower : List Bool) → value_of (upper ++ lower) ≡ value_of upper * 2 ^ length lower + value_of lower
unfolding value_of
value_append [] lower = omega arith
value_append (true ∷ upper) lower =
    let high : 2 ^ length (upper ++ lower) ≡ 2 ^ length upper * 2 ^ length lower =
    ap (λ (k : ℕ). 2 ^ k) (length-append upper lower) ∙ pow-add 2 (length upper) (length lower) in
    omega (arith, high, value_append upper lower, add-mul (2 ^ length upper) (value_of upper) (2 ^ length lower))
value_append (false ∷ upper) lower = omega (arith, value_append upper lower)

-- the bits of a number above and below its bit n
pub bits_append : (m n x : ℕ) → bits_of (m + n) x ≡ bits_of m (x / 2 ^ n) ++ bits_of n x
unfolding bits_of
bits_append zero n x = ap (λ (k : ℕ). bits_of k x) (zero-add n)
bits_append (suc m) n x =
    ap (λ (k : ℕ). bits_of k x) (suc-add m n)
    ∙ ap₂ {C = List Bool} (λ (y : ℕ) (rest : List Bool). eqb (y % 2) 1 ∷ rest) (ap (λ (k : ℕ). x / 2 ^ k) (add_comm m n) ∙ sym (shr-shr x n m)) (bits_append m n x)

-- no bit is set exactly where the number is 0
pub clear_zero : (bits : List Bool) → clear bits ≡ eqb (value_of bits) 0
unfolding clear value_of
clear_zero [] = refl
clear_zero (true ∷ bits) = sym (ne_eqb (2 ^ length bits + value_of bits) 0 (λ h. absurd (omega (arith, h, pow_pos (length bits)))))
clear_zero (false ∷ bits) = clear_zero bits ∙ ap (λ (k : ℕ). eqb k 0) (sym (zero-add (value_of bits)))
