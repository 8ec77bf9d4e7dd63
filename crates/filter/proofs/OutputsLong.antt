-- How many outputs a frame has.
use Prim.Native.Nat.{ℕ, ◌+◌, ◌≤◌}
use mathlib.Core.Path.{◌≡◌}
use mathlib.Core.List.{List}
use native.Mathlib.Omega.{arith}
use lib.Ieee.{Float}
use lib.ListN.{length, length-append, length-drop}
use Rattle.coefficients.specs.Coefficients.{Filter}
use Rattle.filter.specs.Transition.{outputs, case_activated, case_deactivated, case_pitch_kept, case_pitch_changed}
use Rattle.filter.specs.declared.transition.Transition.{Transition}
use Rattle.filter.specs.declared.transition.Transition.TheVariants.{Inactive, Activated, Deactivated, ActiveNoPitchChange, ActivePitchChanged}
use Rattle.filter.proofs.Growing.{length_grow}

-- the outputs, with their past, are as many as the inputs
pub outputs_long : (t : Transition) (old new : Filter) (fade : ℕ) (x p : List Float) → length p + fade ≤ length x → length (outputs t old new fade x p) ≡ length x
unfolding outputs case_activated case_deactivated case_pitch_kept case_pitch_changed
outputs_long Inactive old new fade x p h = simp (length-append, length-drop) (omega arith)
outputs_long Activated old new fade x p h = simp length_grow (omega arith)
outputs_long Deactivated old new fade x p h = simp (length-append, length_grow, length-drop) (omega arith)
outputs_long ActiveNoPitchChange old new fade x p h = simp length_grow (omega arith)
outputs_long ActivePitchChanged old new fade x p h = simp length_grow (omega arith)
