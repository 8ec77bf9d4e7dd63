-- The products of a plan whose configuration is of the table: its numbers are small, so that all of each counts. `five_numbers`: those of the five cases
-- at 48000 Hz and 10 ms.
use Prim.Native.Nat.{◌+◌, ◌*◌, ◌≤◌}
use mathlib.Core.Path.{◌≡◌, refl}
use mathlib.Core.List.{[], ◌∷◌}
use native.Mathlib.Nat.{mul-le-mul_left}
use native.Mathlib.Omega.{arith}
use Rattle.rates.specs.Table.{find}
use Rattle.rates.specs.Configs.{config_of}
use Rattle.filter.proofs.Counting.{at_most}
use Rattle.control.proofs.Sizes.{Sized}
use Rattle.judging.specs.Products.{small, plan_products, products_in, five_products}
use Rattle.judging.specs.declared.plan.Plan.{Plan}

module _ (plan : Plan) (s : Sized plan.config) where
  pub plan_products_lem : plan_products plan ≡ products_in plan.config plan.transition
  plan_products_lem =
      let l : small plan.config.fs.l_den ≡ plan.config.fs.l_den = omega (arith, s) in
      let n : small plan.config.nf ≡ plan.config.nf = omega (arith, s) in
      let f : small plan.config.fs.fade ≡ plan.config.fs.fade = omega (arith, s) in
      rw (l, n, f)

  -- never above 2·l_den·(frame + fade)
  pub never_above : plan_products plan ≤ 2 * plan.config.fs.l_den * (plan.config.nf + plan.config.fs.fade)
  never_above = rw plan_products_lem (mul-le-mul_left (2 * plan.config.fs.l_den) (at_most plan.transition plan.config.nf plan.config.fs.fade))

pub five_numbers : five_products (config_of 48000 10000) ≡ 0 ∷ 11520 ∷ 2880 ∷ 11520 ∷ 14400 ∷ []
unfolding find
five_numbers = refl
