-- The five cases with a count of the evaluations of F, F_old and G: each counts one, where it is made. Without the count they are the cases of
-- Transition (`without_count`).
use Rattle.std.specs.Prelude.{ℕ, zero, suc, ◌+◌, ◌-◌, ◌*◌, List, [], ◌∷◌, ◌++◌, Float, length, drop}
use Rattle.floats.specs.Single.{◌⊖◌, ◌⊗◌, at}
use Rattle.filter.specs.Filter.{F}
use Rattle.filter.specs.Fade.{factor}
use Rattle.coefficients.specs.Coefficients.{Filter}
use Rattle.filter.specs.declared.fade.Direction.{Direction}
use Rattle.filter.specs.declared.fade.Direction.TheVariants.{In, Out}
use Rattle.filter.specs.declared.transition.Transition.{Transition}
use Rattle.filter.specs.declared.transition.Transition.TheVariants.{Inactive, Activated, Deactivated, ActiveNoPitchChange, ActivePitchChanged}

-- a filter's sum at the next output, after the outputs y: its value, and one evaluation
abbrev pub evaluated : Filter → List Float → List Float → Float × ℕ
evaluated filter x y = (F filter x y (length y), 1)

-- the next output x − F, and what it took
unfoldable pub steady_counted : Filter → List Float → List Float → Float × ℕ
steady_counted filter x y = let sum = evaluated filter x y in (at x (length y) ⊖ sum.0, sum.1)

-- the next output of a fade after a history: x − F·f or x − F·(1 − f), and what it took
unfoldable pub faded_counted : Direction → ℕ → ℕ → Filter → List Float → List Float → Float × ℕ
faded_counted direction history fade filter x y =
    let sum = evaluated filter x y in (at x (length y) ⊖ sum.0 ⊗ factor direction fade (length y - history), sum.1)

-- n more outputs, each made of all those before it, and what they took with those
unfoldable pub grow_counted : (List Float → Float × ℕ) → List Float × ℕ → ℕ → List Float × ℕ
grow_counted f made zero = made
grow_counted f made (suc n) =
    let before = grow_counted f made n in let next = f before.0 in (before.0 ++ (next.0 ∷ []), before.1 + next.1)

-- 2: F in the fade and after it
unfoldable pub counted_activated : Filter → ℕ → List Float → List Float → List Float × ℕ
counted_activated new fade x past =
    grow_counted (steady_counted new x) (grow_counted (faded_counted In (length past) fade new x) (past, 0) fade) (length x - (length past + fade))

-- 3: F_old in the fade; what follows is copied
unfoldable pub counted_deactivated : Filter → ℕ → List Float → List Float → List Float × ℕ
counted_deactivated old fade x past =
    let faded = grow_counted (faded_counted Out (length past) fade old x) (past, 0) fade in
    (faded.0 ++ drop (length past + fade) x, faded.1)

-- 4: F throughout
unfoldable pub counted_pitch_kept : Filter → List Float → List Float → List Float × ℕ
counted_pitch_kept new x past = grow_counted (steady_counted new x) (past, 0) (length x - length past)

-- 5: F_old for z in the fade, then G in the fade, after it F
unfoldable pub counted_pitch_changed : Filter → Filter → ℕ → List Float → List Float → List Float × ℕ
counted_pitch_changed old new fade x past =
    let z = grow_counted (faded_counted Out (length past) fade old x) (past, 0) fade in
    grow_counted (steady_counted new x) (grow_counted (faded_counted In (length past) fade new z.0) (past, z.1) fade) (length x - (length past + fade))

-- 1: nothing is evaluated, and the four above
unfoldable pub counted_outputs : Transition → Filter → Filter → ℕ → List Float → List Float → List Float × ℕ
counted_outputs Inactive old new fade x past = (past ++ drop (length past) x, 0)
counted_outputs Activated old new fade x past = counted_activated new fade x past
counted_outputs Deactivated old new fade x past = counted_deactivated old fade x past
counted_outputs ActiveNoPitchChange old new fade x past = counted_pitch_kept new x past
counted_outputs ActivePitchChanged old new fade x past = counted_pitch_changed old new fade x past

-- The closed form of that count, over the lengths of the frame and the fade (`closed_form`).
abbrev pub evaluations_of : Transition → ℕ → ℕ → ℕ
evaluations_of Inactive nf fade = 0
evaluations_of Activated nf fade = nf
evaluations_of Deactivated nf fade = fade
evaluations_of ActiveNoPitchChange nf fade = nf
evaluations_of ActivePitchChanged nf fade = nf + fade

-- each evaluation is 2·l_den products with a coefficient
abbrev pub products_of : ℕ → ℕ → ℕ
products_of l evaluations = 2 * l * evaluations
