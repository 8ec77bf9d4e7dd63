-- What a plan that judging gave fit marks has: a lag of its rate, rows that were lent, and filters that read inside the history. Where the past is kept
-- does not matter here.
use Rattle.lag.specs.declared.gain.Gain.{Gain}
use Rattle.std.proofs.Common.{Option}
use Prim.Native.Nat.{ℕ, ◌≤◌}
use mathlib.Core.Path.{◌≡◌, refl, sym, ap}
use mathlib.Core.Bool.{Bool, true, false, cond, true≢false}
use native.Mathlib.Omega.{arith}
use mathlib.Core.List.{List}
use lib.Ieee.{Float}
use Rattle.rates.specs.declared.config.Lc3Config.{Lc3Config}
use Rattle.lag.specs.Sent.{sent_of}
use Rattle.lag.specs.declared.rescale.Lag.{Lag}
use Rattle.coefficients.specs.Coefficients.{gain_row, filter_of, new_filter}
use Rattle.coefficients.specs.Required.{Lent}
use Rattle.filter.specs.Required.{Inside, Readable}
use Rattle.filter.specs.Transition.{transition_of, same_lag}
use Rattle.filter.specs.declared.transition.Transition.TheVariants.{Inactive, ActiveNoPitchChange, ActivePitchChanged}
use Rattle.control.specs.State.{lag_fits}
use Rattle.control.specs.declared.marks.Marks.{Marks}
use Rattle.control.proofs.Sizes.{FromTable, from_table, Sized, sized}
use Rattle.control.proofs.Fit.{Fits}
use Rattle.judging.specs.Pitch.{is_active}
use Rattle.judging.specs.Judge.{plan_of}
use Rattle.judging.specs.Filters.{kept_filter, filter_for}
use Rattle.judging.specs.declared.plan.SideInfo.{SideInfo}
use Rattle.judging.specs.declared.plan.Plan.{Plan}
use Rattle.judging.proofs.Lags.{lag_for_fits, lag_for_quarter, lag_for_none}
use Rattle.judging.proofs.Readable.{inside_of_lag, readable, gain_row_lem}
use Rattle.judging.proofs.Judging.{Passed, lent}

new_inside : (c : Lc3Config) → FromTable c → (active : Bool) (gain : Option Gain) (lag : Lag) (nums dens : List Float) →
    lag_fits c.fs active lag ≡ true → active ≡ true → Inside (new_filter c.fs.l_den active gain lag nums dens) c.history
unfolding new_filter filter_of
new_inside c k true gain lag nums dens h e = inside_of_lag c k _ refl lag refl h
new_inside c k false gain lag nums dens h e = absurd (true≢false (sym e))

-- only two inactive frames make the first case
idle_case : (p a : Bool) (old new : Lag) → transition_of p a old new ≡ Inactive → a ≡ false
unfolding transition_of
idle_case p false old new e = refl
idle_case false true old new e = let z : ◌≡◌ {A = ℕ} 0 1 = cc in absurd (omega arith)
idle_case true true old new e = go (same_lag old new) e
  where
    go : (b : Bool) → cond b ActiveNoPitchChange ActivePitchChanged ≡ Inactive → true ≡ false
    go true q = let z : ◌≡◌ {A = ℕ} 0 1 = cc in absurd (omega arith)
    go false q = let z : ◌≡◌ {A = ℕ} 0 1 = cc in absurd (omega arith)

module _ {m : Marks} {nums dens frame : List Float} {side : SideInfo} {plan : Plan} (fit : Fits plan.config m)
    (planned : plan ≡ plan_of m plan.config side plan.lag) (checks : Passed plan.config nums dens side frame plan.lag) where
  pub found : FromTable plan.config
  found = from_table m.rate m.duration plan.config fit.config

  pub sizes : Sized plan.config
  sizes = sized plan.config found

  -- the lag fits, if the frame is active
  pub lag_fitting : lag_fits plan.config.fs plan.active plan.lag ≡ true
  lag_fitting = rw (ap (λ (p : Plan). p.active) planned) (lag_for_fits plan.config.fs (sent_of side.pitch) plan.lag checks.found)

  pub lent_rows : Lent plan.config.fs.l_den nums dens × (gain_row plan.gain ≤ 3) × (plan.lag.quarter ≤ 3)
  lent_rows = (
    lent plan.config nums dens side frame plan.lag sizes checks,
    rw (ap (λ (p : Plan). p.gain) planned) (gain_row_lem _ _),
    lag_for_quarter plan.config.fs (sent_of side.pitch) plan.lag checks.found,
  )

  -- a frame of the first case is not active
  pub idle : plan.transition ≡ Inactive → plan.active ≡ false
  idle e =
      rw (ap (λ (p : Plan). p.active) planned)
      (idle_case m.ltpf_active_prev (is_active side.pitch) m.lag plan.lag (rw (ap (λ (p : Plan). p.transition) planned) at e))

  -- and a frame that is not active has no lag
  pub lagless : plan.active ≡ false → plan.lag.whole ≡ 0
  lagless e =
      ap (λ (l : Lag). l.whole)
      (lag_for_none plan.config.fs (sent_of side.pitch) plan.lag checks.found (rw (ap (λ (p : Plan). p.active) planned) at e))

  pub filters_readable : (kept : List Float) →
      Readable plan.transition (kept_filter plan.config.fs m kept) (filter_for plan nums dens) plan.config.history
  filters_readable kept =
      rw (ap (λ (p : Plan). p.transition) planned)
      (readable m.ltpf_active_prev (is_active side.pitch) m.lag plan.lag (kept_filter plan.config.fs m kept) (filter_for plan nums dens)
      plan.config.history
      (λ p. inside_of_lag plan.config found (kept_filter plan.config.fs m kept) refl m.lag refl (rw p at fit.lag))
      (λ p. new_inside plan.config found plan.active plan.gain plan.lag nums dens lag_fitting (rw (ap (λ (q : Plan). q.active) planned) p)))
