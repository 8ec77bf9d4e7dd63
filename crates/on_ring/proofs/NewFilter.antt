-- The filter of a plan, read back from its coefficients; and that of the first case, whose coefficients are all 0.0.
use Rattle.lag.specs.declared.gain.Gain.{Gain}
use Rattle.std.proofs.Common.{Option}
use Prim.Native.Nat.{ℕ, ◌≤◌}
use mathlib.Core.Path.{◌≡◌, refl, sym, ◌∙◌, ap}
use mathlib.Core.Bool.{Bool, true, false}
use mathlib.Core.List.{List}
use lib.Ieee.{Float}
use lib.ListN.{replicate}
use Rattle.floats.specs.Single.{0·0}
use Rattle.lag.specs.declared.rescale.Lag.{Lag}
use Rattle.coefficients.specs.Coefficients.{filter_of, new_filter, laid_out, read_out}
use Rattle.coefficients.proofs.LaidOut.{new_read_back}
use Rattle.judging.specs.Filters.{filter_for}
use Rattle.judging.specs.declared.plan.Plan.{Plan}

-- its lag is the plan's, which an inactive frame does not have
new_lag : (order : ℕ) (active : Bool) (gain : Option Gain) (lag : Lag) (nums dens : List Float) → (active ≡ false → lag.whole ≡ 0) →
    (new_filter order active gain lag nums dens).lag ≡ lag.whole
unfolding new_filter filter_of
new_lag order true gain lag nums dens h = refl
new_lag order false gain lag nums dens h = sym (h refl)

pub read_new : (plan : Plan) (nums dens : List Float) → plan.config.fs.l_den ≤ 12 → (plan.active ≡ false → plan.lag.whole ≡ 0) →
    read_out plan.config.fs.l_den plan.lag.whole (laid_out (filter_for plan nums dens)) ≡ filter_for plan nums dens
read_new plan nums dens few h =
    let order = plan.config.fs.l_den in
    ap (λ (l : ℕ). read_out order l (laid_out (filter_for plan nums dens))) (sym (new_lag order plan.active plan.gain plan.lag nums dens h))
    ∙ new_read_back order few plan.gain plan.lag nums dens plan.active

pub no_filter_lem : (plan : Plan) (nums dens : List Float) → plan.active ≡ false → replicate 24 0·0 ≡ laid_out (filter_for plan nums dens)
unfolding new_filter
no_filter_lem plan nums dens e = rw e
