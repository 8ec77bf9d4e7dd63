-- What the functions of this crate ask of their callers, who are the decoder and the ears and no users.
use Rattle.std.specs.Prelude.{ℕ, ◌≤◌, ◌≡◌, false, List, Float, Ok}
use Rattle.coefficients.specs.Coefficients.{gain_row, read_out}
use Rattle.coefficients.specs.Required.{Lent}
use Rattle.filter.specs.declared.transition.Transition.TheVariants.{Inactive}
use Rattle.judging.specs.Judge.{judged}
use Rattle.judging.specs.Filters.{filter_for}
use Rattle.judging.specs.declared.plan.SideInfo.{SideInfo}
use Rattle.judging.specs.declared.plan.Plan.{Plan}
use Rattle.rings.specs.Required.{Filterable}
use Rattle.on_ring.specs.Registers.{fit_ring}
use Rattle.on_ring.specs.declared.registers.Registers.{Registers}

-- what filtering by a plan takes: rows that were lent, and filters that read inside the history
pub record Filtering (lag start : ℕ) (plan : Plan) (kept xs ys nums dens : List Float) : Type 0 where
  pub rows : Lent plan.config.fs.l_den nums dens
  pub gain : gain_row plan.gain ≤ 3
  pub quarter : plan.lag.quarter ≤ 3
  pub idle : plan.transition ≡ Inactive → plan.active ≡ false
  pub lagless : plan.active ≡ false → plan.lag.whole ≡ 0
  pub filterable : Filterable plan.transition (read_out plan.config.fs.l_den lag kept) (filter_for plan nums dens) plan.config start xs ys

-- some side information led to this plan
pub record Judged (r : Registers) (numerators denominators samples : List Float) (plan : Plan) : Type 0 where
  pub side : SideInfo
  pub verdict : judged r.marks (fit_ring r) numerators denominators side samples ≡ Ok plan
