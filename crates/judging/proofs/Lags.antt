-- The lag that a record asks for is one of its rate.
use Rattle.lag.specs.declared.pitch.Present.{Present}
use Rattle.std.proofs.Common.{Option, Some, None}
use Prim.Native.Nat.{ℕ, ◌/◌, ◌%◌, ◌≤◌}
use mathlib.Core.Path.{◌≡◌, refl, sym, subst}
use mathlib.Core.Bool.{Bool, true, false, cond, true≢false}
use native.Mathlib.Omega.{arith}
use borrow.Author.Tests.{leb-true, le-leb}
use lib.Dec.{leb}
use Rattle.rates.specs.declared.table.Rate.{Rate}
use Rattle.lag.specs.Lag.{quarters, rescaled, lag_of, scaled_to}
use Rattle.lag.specs.declared.rescale.Lag.{Lag}
use Rattle.lag.proofs.Lags.{rescaled_never_falls}
use Rattle.control.specs.State.{no_lag, lag_fits}
use Rattle.judging.specs.Pitch.{active_in, lag_where, lag_in}

-- the lag that a record asks for fits, if it is active
pub lag_for_fits : (fs : Rate) (sent : Option Present) (lag : Lag) → lag_in fs sent ≡ Some lag → lag_fits fs (active_in sent) lag ≡ true
unfolding lag_fits
lag_for_fits fs None lag h = refl
lag_for_fits fs (Some p) lag h = go p.active (leb p.index 511) refl h
  where
    between : p.index ≤ 511 → lag_fits fs true (lag_of fs.r (quarters p.index)) ≡ true
    between i =
        rw (
          le-leb (rescaled fs.r (quarters 0) / 4) (rescaled fs.r (quarters p.index) / 4)
              (omega (arith, rescaled_never_falls fs.r 0 p.index (omega arith))),
          le-leb (rescaled fs.r (quarters p.index) / 4) (rescaled fs.r (quarters 511) / 4)
              (omega (arith, rescaled_never_falls fs.r p.index 511 i)),
          le-leb (rescaled fs.r (quarters p.index) % 4) 3 (omega arith),
        )

    go : (a b : Bool) → leb p.index 511 ≡ b →
        lag_where a (scaled_to fs (cond b (Some (quarters p.index)) None)) ≡ Some lag → lag_fits fs a lag ≡ true
    go false b e q = refl
    go true false e q = let z : ◌≡◌ {A = ℕ} 0 1 = cc in absurd (omega arith)
    go true true e q =
        let same : lag_of fs.r (quarters p.index) ≡ lag = cc in
        subst (λ (l : Lag). lag_fits fs true l ≡ true) same (between (leb-true p.index 511 e))

-- and has a quarter in any case
pub lag_for_quarter : (fs : Rate) (sent : Option Present) (lag : Lag) → lag_in fs sent ≡ Some lag → lag.quarter ≤ 3
lag_for_quarter fs None lag h = let same : no_lag ≡ lag = cc in rw (← same) (omega arith)
lag_for_quarter fs (Some p) lag h = go p.active (leb p.index 511) h
  where
    go : (a b : Bool) → lag_where a (scaled_to fs (cond b (Some (quarters p.index)) None)) ≡ Some lag → lag.quarter ≤ 3
    go a false q = let z : ◌≡◌ {A = ℕ} 0 1 = cc in absurd (omega arith)
    go false true q = let same : no_lag ≡ lag = cc in rw (← same) (omega arith)
    go true true q = let same : lag_of fs.r (quarters p.index) ≡ lag = cc in rw (← same) (omega arith)

-- an inactive frame has no lag
pub lag_for_none : (fs : Rate) (sent : Option Present) (lag : Lag) → lag_in fs sent ≡ Some lag → active_in sent ≡ false → lag ≡ no_lag
lag_for_none fs None lag h e = let same : no_lag ≡ lag = cc in sym same
lag_for_none fs (Some p) lag h e = go p.active (leb p.index 511) e h
  where
    go : (a b : Bool) → a ≡ false → lag_where a (scaled_to fs (cond b (Some (quarters p.index)) None)) ≡ Some lag → lag ≡ no_lag
    go a false f q = let z : ◌≡◌ {A = ℕ} 0 1 = cc in absurd (omega arith)
    go false true f q = let same : no_lag ≡ lag = cc in sym same
    go true true f q = absurd (true≢false f)
