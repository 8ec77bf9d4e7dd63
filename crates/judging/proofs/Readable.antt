-- Filters whose lag is one of their rate read inside the history, and no further back than the rate's reach.
use Rattle.std.proofs.Common.{None}
use Prim.Native.Nat.{ℕ, ◌+◌, ◌*◌, ◌≤◌}
use mathlib.Core.Path.{◌≡◌, refl}
use mathlib.Core.Bool.{Bool, true, false, cond}
use native.Mathlib.Omega.{arith}
use lib.Dec.{ltb}
use Rattle.rates.specs.declared.config.Lc3Config.{Lc3Config}
use Rattle.lag.specs.Gain.{gain_of, on}
use Rattle.lag.specs.declared.rescale.Lag.{Lag}
use Rattle.lag.proofs.Reach.{shortest_lag, longest_lag}
use Rattle.coefficients.specs.Coefficients.{Filter, gain_row}
use Rattle.filter.specs.Required.{Inside, Readable}
use Rattle.filter.specs.Transition.{transition_of, same_lag}
use Rattle.filter.specs.declared.transition.Transition.TheVariants.{ActiveNoPitchChange, ActivePitchChanged}
use Rattle.control.specs.State.{lag_fits}
use Rattle.control.proofs.Sizes.{FromTable, sized}
use Rattle.control.proofs.Fit.{lag_within_lem}
use Rattle.control.proofs.Reaching.{reach}

module _ (c : Lc3Config) (k : FromTable c) (t : Filter) (e : t.l_den ≡ c.fs.l_den) (lag : Lag) (l : t.lag ≡ lag.whole)
    (h : lag_fits c.fs true lag ≡ true) where
  -- inside the history
  pub inside_of_lag : Inside t c.history
  inside_of_lag =
      let w = lag_within_lem c.fs lag h in
      let s = sized c k in
      let near = shortest_lag k.0 c.fs k.1.row in
      let far = longest_lag k.0 c.fs k.1.row c.n_ms in
      let p = k.1.past in
      record { least = omega arith; most = omega arith; inputs = omega arith; oldest = omega arith; newest = omega arith }

  -- no further back than the reach
  pub inside_reach : Inside t (reach c.fs)
  inside_reach =
      let w = lag_within_lem c.fs lag h in
      let s = sized c k in
      let near = shortest_lag k.0 c.fs k.1.row in
      record { least = omega arith; most = omega arith; inputs = omega arith; oldest = omega arith; newest = omega arith }

-- whatever the case, its filters read inside the history
pub readable : (p a : Bool) (lo ln : Lag) (old new : Filter) (history : ℕ) →
    (p ≡ true → Inside old history) → (a ≡ true → Inside new history) → Readable (transition_of p a lo ln) old new history
unfolding transition_of
readable false false lo ln old new history o n = tt
readable false true lo ln old new history o n = n refl
readable true false lo ln old new history o n = o refl
readable true true lo ln old new history o n = go (same_lag lo ln)
  where
    go : (b : Bool) → Readable (cond b ActiveNoPitchChange ActivePitchChanged) old new history
    go true = n refl
    go false = (o refl, n refl)

-- the gain names one of four rows
pub gain_row_lem : (i t : ℕ) → gain_row (gain_of i t) ≤ 3
unfolding gain_of
gain_row_lem i t = go (ltb t (320 + 80 * i)) (ltb t (400 + 80 * i)) (ltb t (480 + 80 * i)) (ltb t (560 + 80 * i))
  where
    go : (a b c d : Bool) →
        gain_row (cond a (on 40 0) (cond b (on 35 1) (cond c (on 30 2) (cond d (on 25 3) None)))) ≤ 3
    go true b c d = omega arith
    go false true c d = omega arith
    go false false true d = omega arith
    go false false false true = omega arith
    go false false false false = omega arith
