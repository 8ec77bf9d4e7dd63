-- The five cases, over a straight past: x is the inputs, the past in front, and the outputs grow after their own past.
use Rattle.std.specs.Prelude.{ℕ, ◌+◌, ◌-◌, Bool, true, false, cond, ◌&&◌, List, ◌++◌, eqb, Float, length, drop}
use Rattle.lag.specs.declared.rescale.Lag.{Lag}
use Rattle.filter.specs.Fade.{grow, steady, faded}
use Rattle.coefficients.specs.Coefficients.{Filter}
use Rattle.filter.specs.declared.fade.Direction.TheVariants.{In, Out}
use Rattle.filter.specs.declared.transition.Transition.{Transition}
use Rattle.filter.specs.declared.transition.Transition.TheVariants.{Inactive, Activated, Deactivated, ActiveNoPitchChange, ActivePitchChanged}

-- the same whole lag and quarter
abbrev pub same_lag : Lag → Lag → Bool
same_lag old new = eqb old.whole new.whole && eqb old.quarter new.quarter

-- the case, by whether the previous frame and this one are active, and by their lags
unfoldable pub transition_of : Bool → Bool → Lag → Lag → Transition
transition_of false false old new = Inactive
transition_of false true old new = Activated
transition_of true false old new = Deactivated
transition_of true true old new = cond (same_lag old new) ActiveNoPitchChange ActivePitchChanged

-- The five cases give the past outputs with this frame's after them.

-- 2: y = x − F·f in the fade, then x − F
unfoldable pub case_activated : Filter → ℕ → List Float → List Float → List Float
case_activated new fade x past =
    grow (steady new x) (grow (faded In (length past) fade new x) past fade) (length x - (length past + fade))

-- 3: y = x − F_old·(1 − f) in the fade, then x
unfoldable pub case_deactivated : Filter → ℕ → List Float → List Float → List Float
case_deactivated old fade x past = grow (faded Out (length past) fade old x) past fade ++ drop (length past + fade) x

-- 4: y = x − F
unfoldable pub case_pitch_kept : Filter → List Float → List Float → List Float
case_pitch_kept new x past = grow (steady new x) past (length x - length past)

-- 5: z as in case 3 for the fade; then y = z − G·f, where G is F with z in place of x, and the true earlier y; after the fade x − F
unfoldable pub case_pitch_changed : Filter → Filter → ℕ → List Float → List Float → List Float
case_pitch_changed old new fade x past =
    let z = grow (faded Out (length past) fade old x) past fade in
    grow (steady new x) (grow (faded In (length past) fade new z) past fade) (length x - (length past + fade))

-- 1: y = x, and the four above
unfoldable pub outputs : Transition → Filter → Filter → ℕ → List Float → List Float → List Float
outputs Inactive old new fade x past = past ++ drop (length past) x
outputs Activated old new fade x past = case_activated new fade x past
outputs Deactivated old new fade x past = case_deactivated old fade x past
outputs ActiveNoPitchChange old new fade x past = case_pitch_kept new x past
outputs ActivePitchChanged old new fade x past = case_pitch_changed old new fade x past
