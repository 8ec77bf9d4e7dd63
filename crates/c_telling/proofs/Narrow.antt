-- Every lag of a rate, and the row of every gain, is a number that C's hold.
use Rattle.lag.specs.declared.pitch.Present.{Present}
use Rattle.rates.specs.declared.answer.Refusal.{Refusal}
use Rattle.std.proofs.Common.{Option, Some, None, Result, Ok, Err}
use Prim.Native.Nat.{ℕ, ◌/◌, ◌%◌, ◌≤◌}
use mathlib.Core.Path.{◌≡◌, refl, sym, ap, ◌∙◌}
use mathlib.Core.Bool.{Bool, true, false, cond}
use native.Mathlib.Omega.{arith}
use borrow.Author.Tests.{leb-true}
use lib.Dec.{leb}
use Rattle.rates.specs.Table.{row_of}
use Rattle.rates.specs.declared.answer.Refusal.TheVariants.{TooManyBits}
use Rattle.rates.specs.declared.table.Rate.{Rate}
use Rattle.rates.specs.declared.config.Lc3Config.{Lc3Config}
use Rattle.rates.proofs.Rows.{bound_at}
use Rattle.rates.proofs.Known.{known}
use Rattle.lag.specs.Lag.{quarters, rescaled, scaled_to, found_lag, looked_up_lag}
use Rattle.lag.specs.Sent.{sent_of}
use Rattle.lag.specs.declared.rescale.Lag.{Lag}
use Rattle.lag.specs.declared.rescale.RoundedLag.{RoundedLag}
use Rattle.lag.proofs.Lags.{quarters_range, rescaled_keeps_order}
use Rattle.lag.proofs.Rounding.{lag_alone, same_lag_lem}
use Rattle.coefficients.specs.Coefficients.{gain_row}
use Rattle.control.specs.State.{no_lag}
use Rattle.control.specs.declared.marks.Marks.{Marks}
use Rattle.judging.specs.Pitch.{lag_where, lag_in, lag_for}
use Rattle.judging.specs.Judge.{unless, plan_of, lag_judged, judged_side}
use Rattle.judging.specs.declared.plan.SideInfo.{SideInfo}
use Rattle.judging.specs.declared.plan.Plan.{Plan}
use Rattle.judging.proofs.Readable.{gain_row_lem}
use Rattle.telling.specs.Told.{judged_fitted}
use Rattle.on_ring.specs.Registers.{fit_ring}
use Rattle.on_ring.specs.declared.registers.Registers.{Registers}
use Rattle.on_ring.proofs.RingFits.{ring_fits_lem}
use Rattle.c_telling.specs.Required.{Narrow}

module _ (hz : ℕ) (fs : Rate) (row : row_of hz ≡ Some fs) where
  -- the largest lag of the table has 3,420 quarters
  most : (index : ℕ) → index ≤ 511 → rescaled fs.r (quarters index) ≤ 3420
  unfolding rescaled
  most index h =
      let largest = bound_at (λ r. rescaled r.r 912) (λ _. 3420) tt hz fs row in
      let order = rescaled_keeps_order fs.r (quarters_range index h).1 in
      omega arith

  pub found_narrow : (index : ℕ) (lag : Lag) → found_lag fs index ≡ Some lag → Narrow lag
  found_narrow index lag e = go (leb index 511) refl e
    where
      go : (b : Bool) → leb index 511 ≡ b → scaled_to fs (cond b (Some (quarters index)) None) ≡ Some lag → Narrow lag
      go false h q = let z : ◌≡◌ {A = ℕ} 0 1 = cc in absurd (omega arith)
      go true h q =
          let largest = most index (leb-true index 511 h) in
          let same : record { whole = rescaled fs.r (quarters index) / 4; quarter = rescaled fs.r (quarters index) % 4 } ≡ lag = cc in
          rw (← same) (record { whole = omega arith; quarter = omega arith })

  pub looked_up_narrow : (index : ℕ) (l : RoundedLag) → looked_up_lag fs index ≡ Some l → Narrow l.lag
  looked_up_narrow index l e = found_narrow index l.lag (sym (same_lag_lem fs index) ∙ ap lag_alone e)

  -- the lag that a record asks for
  asked_narrow : (sent : Option Present) (lag : Lag) → lag_in fs sent ≡ Some lag → Narrow lag
  asked_narrow None lag e = let same : no_lag ≡ lag = cc in rw (← same) (record { whole = omega arith; quarter = omega arith })
  asked_narrow (Some p) lag e = go p.active (found_lag fs p.index) refl e
    where
      go : (b : Bool) (f : Option Lag) → found_lag fs p.index ≡ f → lag_where b f ≡ Some lag → Narrow lag
      go b None h q = let z : ◌≡◌ {A = ℕ} 0 1 = cc in absurd (omega arith)
      go false (Some l) h q = let same : no_lag ≡ lag = cc in rw (← same) (record { whole = omega arith; quarter = omega arith })
      go true (Some l) h q = let same : l ≡ lag = cc in found_narrow p.index lag (rw (← same) h)

-- what the plan of an accepted frame has
abbrev Small : Plan → Type 0
Small plan = Narrow plan.lag × (gain_row plan.gain ≤ 3)

side_small : (hz : ℕ) (m : Marks) (c : Lc3Config) → row_of hz ≡ Some c.fs → (side : SideInfo) (plan : Plan) →
    judged_side m c side ≡ Ok plan → Small plan
unfolding judged_side
side_small hz m c row side plan e = go (leb side.nbits 3200) (lag_for c.fs side.pitch) refl e
  where
    go : (b : Bool) (f : Option Lag) → lag_for c.fs side.pitch ≡ f → unless b TooManyBits (lag_judged m c side f) ≡ Ok plan → Small plan
    go false f h q = let z : ◌≡◌ {A = ℕ} 0 1 = cc in absurd (omega arith)
    go true None h q = let z : ◌≡◌ {A = ℕ} 0 1 = cc in absurd (omega arith)
    go true (Some lag) h q =
        let same : plan_of m c side lag ≡ plan = cc in
        rw (← same) (asked_narrow hz c.fs row (sent_of side.pitch) lag h, gain_row_lem _ _)

pub plan_small : (r : Registers) (side : SideInfo) (plan : Plan) → judged_fitted r.marks side (fit_ring r) ≡ Ok plan → Small plan
plan_small r side plan e = go (fit_ring r) refl e
  where
    go : (k : Result Lc3Config Refusal) → fit_ring r ≡ k → judged_fitted r.marks side k ≡ Ok plan → Small plan
    go (Err a) h q = let z : ◌≡◌ {A = ℕ} 0 1 = cc in absurd (omega arith)
    go (Ok c) h q =
        side_small r.marks.rate r.marks c (known r.marks.rate r.marks.duration c (ring_fits_lem r c h).0.config).row side plan q
