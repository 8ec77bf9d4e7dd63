-- The float that is nearest to a root: it grows with the number under the root, so that there is one at most, and how one is recognised. Assumes nothing.
use mathlib.Core.Path.{◌≡◌, ap}
use mathlib.Core.Logic.{inl, inr, ⊎_elim}
use Prim.Native.Nat.{ℕ, suc, ◌+◌, ◌-◌, ◌*◌, ◌%◌, ◌≤◌, ◌<◌}
use native.Mathlib.Nat.{le_antisymm, le_refl, eq-or-lt_of_le}
use native.Mathlib.Omega.{arith}
use Rattle.root.specs.SquareRoot.{units, mid_square, Nearest}
use Rattle.root.proofs.Order.{lt_or_le, square_lt}
use Rattle.root.proofs.Units.{units_lt, mid_lt}

-- of a larger number the nearest float to the root is no smaller: were c below b, then each would be at the midpoint between them, and both even
pub nearest_mono : (n m b c : ℕ) → n ≤ m → Nearest n b → Nearest m c → b ≤ c
nearest_mono n m b c h p q = ⊎_elim (λ l. absurd (⊎_elim (same l) (apart l) (eq-or-lt_of_le {n = c} {m = b - 1} (omega arith)))) (λ l. l) (lt_or_le c b)
  where
    apart : c < b → c < b - 1 → ⊥
    apart l k = omega (arith, mid_lt k, p.low, q.high)

    same : c < b → c ≡ b - 1 → ⊥
    same l e =
        let here : mid_square c ≡ mid_square (b - 1) = ap mid_square e in
        omega (arith, p.tie (inl (omega (arith, p.low, q.high))), q.tie (inr (omega (arith, p.low, q.high))), p.positive)

pub nearest_unique : (n b c : ℕ) → Nearest n b → Nearest n c → b ≡ c
nearest_unique n b c p q = le_antisymm (nearest_mono n n b c (le_refl n) p q) (nearest_mono n n c b (le_refl n) q p)

-- the two sides of the midpoint of b and the next float up: at the midpoint itself the even one of the two has it
abbrev pub Past : ℕ → ℕ → Type 0
Past n b = mid_square b < n + b % 2

abbrev pub NotPast : ℕ → ℕ → Type 0
NotPast n b = n + b % 2 ≤ mid_square b

pub nearest_between : (n b : ℕ) → 0 < b → b < 0x7f80_0000 → Past n (b - 1) → NotPast n b → Nearest n b
nearest_between n b z f p q = record { positive = z; finite = f; low = omega arith; high = omega arith; tie = ⊎_elim (λ e. omega arith) (λ e. omega arith) }

-- four times the square of the float b
abbrev pub four_square : ℕ → ℕ
four_square b = (units b + units b) * (units b + units b)

pub past_below : (n b : ℕ) → 0 < b → four_square b ≤ n → Past n (b - 1)
unfolding mid_square
past_below n b z h =
    let e : suc (b - 1) ≡ b = omega arith in
    omega (arith, square_lt {a = units (b - 1) + units (suc (b - 1))} {b = units b + units b} (rw e (omega (arith, units_lt {b = b - 1} {c = b} (omega arith)))))

pub not_past : (n b : ℕ) → n ≤ four_square b → NotPast n b
unfolding mid_square
not_past n b h = omega (arith, square_lt {a = units b + units b} {b = units b + units (suc b)} (omega (arith, units_lt {b = b} {c = suc b} (omega arith))))
