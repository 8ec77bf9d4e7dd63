-- `root::normalised` meets its contract: a subnormal float is lifted by its leading zeros, any other has its leading digit put back. Assumes nothing.
use mathlib.Core.Path.{◌≡◌}
use Prim.Native.Nat.{ℕ, ◌+◌, ◌-◌, ◌*◌, ◌/◌, ◌%◌, ◌^◌, ◌≤◌, ◌<◌}
use native.Mathlib.Omega.{arith}
use lib.Count.{count_leading_zeros}
use borrow.Author.Rules.{rules}
use Rattle.root.specs.Steps.{Normalised}
use Rattle.root.proofs.Leading.{lifted, subnormal, normal}
use Rattle.root.proofs.normalised.Goals as goal

-- how far the digits of a subnormal float go up
up : (a : ℕ) → 0 < a → a / 2 ^ 23 ≡ 0 → (u : ℕ) × (count_leading_zeros 32 (a % 2 ^ 23) ≡ u + 8) × (u ≤ 23) × (2 ^ 23 ≤ (a % 2 ^ 23) * 2 ^ u) × ((a % 2 ^ 23) * 2 ^ u < 2 ^ 24)
up a z e = lifted (a % 2 ^ 23) (omega arith) (omega arith)

lifted_back : (a u : ℕ) → a / 2 ^ 23 ≡ 0 → (count_leading_zeros 32 (a % 2 ^ 23) ≡ u + 8) × (u ≤ 23) × (2 ^ 23 ≤ (a % 2 ^ 23) * 2 ^ u) × ((a % 2 ^ 23) * 2 ^ u < 2 ^ 24) → Normalised a ((a % 2 ^ 23) * 2 ^ (count_leading_zeros 32 (a % 2 ^ 23) - 8) % 2 ^ 32) (126 - (count_leading_zeros 32 (a % 2 ^ 23) - 8))
lifted_back a u e h =
    let all : a % 2 ^ 23 ≡ a = omega arith in
    let places : count_leading_zeros 32 (a % 2 ^ 23) - 8 ≡ u = omega (arith, h.0) in
    rw (places, all) (subnormal a u (omega arith) h.1 (rw all at h.2) (rw all at h.3))

pub overflow_sub-up : goal.overflow_sub-up
overflow_sub-up c = omega (arith, (up c.args.a (search rules) (search rules)).1)

pub returns-then-field-eq0 : goal.returns-then-field-eq0
returns-then-field-eq0 c =
    let u = up c.args.a (search rules) (search rules) in
    lifted_back c.args.a u.0 (search rules) (u.1, u.2, u.3, u.4)

pub returns-else-field-eq0 : goal.returns-else-field-eq0
returns-else-field-eq0 c = normal c.args.a (omega (arith, c.if-field-eq0.false)) (search rules)
