-- `four_fifths`: with each sum the part of n that is missing is squared, and rounding takes less than one more.
use Prim.Native.Nat.{ℕ, ◌+◌, ◌*◌, ◌/◌, ◌≤◌, ◌<◌, ◌^◌}
use native.Mathlib.Omega.{arith}
use Rattle.cells.proofs.decimal.four_fifths.Goals as goal

-- e is b/a of n, or too little by at most k/a
abbrev Near : ℕ → ℕ → ℕ → ℕ → ℕ → Type 0
Near a b k n e = (a * e ≤ b * n) × (b * n ≤ a * e + k)

near_0 : (n : ℕ) → Near 4 3 5 n (n / 2 + n / 4)
near_0 n = omega arith

near_1 : (n e : ℕ) → Near 4 3 5 n e → Near 64 51 145 n (e + e / 16)
near_1 n e h = omega arith

near_2 : (n e : ℕ) → Near 64 51 145 n e → Near 16384 13107 65536 n (e + e / 256)
near_2 n e h = omega arith

near_3 : (n e : ℕ) → Near 16384 13107 65536 n e → Near 1073741824 858993459 6442450944 n (e + e / 65536)
near_3 n e h = omega arith

near_4 : (n e : ℕ) → n < 2 ^ 64 → Near 1073741824 858993459 6442450944 n e → Near 5 4 40 n (e + e / 4294967296)
near_4 n e b h = omega arith

pub returns : goal.returns
returns c = near_4 _ _ (omega arith) (near_3 _ _ (near_2 _ _ (near_1 _ _ (near_0 c.args.n))))
