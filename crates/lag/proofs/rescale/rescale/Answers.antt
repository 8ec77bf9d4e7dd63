-- `rescale` computes the definition: a product of 5, 32 and 16 bits fits 64, a shift down by k divides by 2 ^ k, and the mask 3
-- leaves the remainder by 4.
use Prim.Native.Nat.{ℕ, ◌*◌, ◌/◌, ◌≤◌}
use mathlib.Core.Path.{ap}
use native.Mathlib.Omega.{arith}
use lib.Bits.{and_mask}
use Rattle.lag.specs.Lag.{rescaled}
use Rattle.lag.proofs.Rounding.{product_small}
use Rattle.lag.proofs.rescale.rescale.Goals as goal

pub overflow_mul-p_up-2 : goal.overflow_mul-p_up-2
overflow_mul-p_up-2 c =
    let small : 5 * c.args.r * c.args.quarters ≤ 5 * 4294967295 * 65535 =
    product_small c.args.r c.args.quarters (omega arith) (omega arith) in
    omega (arith, small)

pub overflow_add-p_up : goal.overflow_add-p_up
overflow_add-p_up c =
    let small : 5 * c.args.r * c.args.quarters ≤ 5 * 4294967295 * 65535 =
    product_small c.args.r c.args.quarters (omega arith) (omega arith) in
    omega (arith, small)

pub returns : goal.returns
unfolding rescaled
returns c =
    let p_up : ℕ = rescaled c.args.r c.args.quarters in
    ap (λ quarter. record { whole = p_up / 4; quarter = quarter }) (and_mask p_up 2)
