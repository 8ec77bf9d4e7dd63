-- How many products with a coefficient a frame takes, by its plan.
use Rattle.rates.specs.declared.answer.Refusal.{Refusal}
use Rattle.std.specs.Prelude.{ℕ, ◌%◌, List, [], ◌∷◌, map, Result, Ok, Err}
use Rattle.rates.specs.declared.config.Lc3Config.{Lc3Config}
use Rattle.filter.specs.declared.transition.Transition.{Transition}
use Rattle.filter.specs.declared.transition.Transition.TheVariants.{Inactive, Activated, Deactivated, ActiveNoPitchChange, ActivePitchChanged}
use Rattle.filter.specs.Counted.{evaluations_of, products_of}
use Rattle.judging.specs.declared.plan.Plan.{Plan}

-- a number of a configuration; of one that no table has, and that may be larger than any, the lowest 12 bits, so that no product can wrap
abbrev pub small : ℕ → ℕ
small n = n % 4096

abbrev pub plan_products : Plan → ℕ
plan_products plan =
    products_of (small plan.config.fs.l_den) (evaluations_of plan.transition (small plan.config.nf) (small plan.config.fs.fade))

-- the products of the five cases in a configuration
abbrev pub products_in : Lc3Config → Transition → ℕ
products_in c t = products_of c.fs.l_den (evaluations_of t c.nf c.fs.fade)

abbrev pub five_products : Result Lc3Config Refusal → List ℕ
five_products (Err answer) = []
five_products (Ok c) = map (products_in c) (Inactive ∷ Activated ∷ Deactivated ∷ ActiveNoPitchChange ∷ ActivePitchChanged ∷ [])
