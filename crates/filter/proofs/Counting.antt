-- THE COUNT OF A CASE. `without_count`: the cases that count give the outputs of the cases that do not. `closed_form`: what they count, over the lengths
-- of the frame and the fade; no sample, coefficient or lag changes it. `at_most`: never more than one for each sample and one more for each of the fade.
use Prim.Native.Nat.{ℕ, zero, suc, ◌+◌, ◌-◌, ◌≤◌}
use mathlib.Core.Path.{◌≡◌, refl, ap, ◌∙◌}
use mathlib.Core.List.{List}
use native.Mathlib.Nat.{add-zero}
use native.Mathlib.Omega.{arith}
use lib.Ieee.{Float}
use lib.ListN.{length}
use Rattle.coefficients.specs.Coefficients.{Filter}
use Rattle.filter.specs.Fade.{grow, steady, faded}
use Rattle.filter.specs.Transition.{outputs, case_activated, case_deactivated, case_pitch_kept, case_pitch_changed}
use Rattle.filter.specs.Counted.{steady_counted, faded_counted, grow_counted, counted_activated, counted_deactivated, counted_pitch_kept, counted_pitch_changed, counted_outputs, evaluations_of}
use Rattle.filter.specs.declared.fade.Direction.{Direction}
use Rattle.filter.specs.declared.fade.Direction.TheVariants.{In, Out}
use Rattle.filter.specs.declared.transition.Transition.{Transition}
use Rattle.filter.specs.declared.transition.Transition.TheVariants.{Inactive, Activated, Deactivated, ActiveNoPitchChange, ActivePitchChanged}

-- where each output takes one evaluation, n of them take n
grow_counted_lem : (g : List Float → Float × ℕ) (f : List Float → Float) → ((y : List Float) → g y ≡ (f y, 1)) → (ys : List Float) (k n : ℕ) →
    grow_counted g (ys, k) n ≡ (grow f ys n, k + n)
unfolding grow_counted grow
grow_counted_lem g f e ys k zero = rw add-zero
grow_counted_lem g f e ys k (suc n) = rw (grow_counted_lem g f e ys k n, e (grow f ys n)) (ap (λ (m : ℕ). (grow f ys (suc n), m)) (omega arith))

module _ (filter : Filter) (x ys : List Float) (k n : ℕ) where
  steadily : grow_counted (steady_counted filter x) (ys, k) n ≡ (grow (steady filter x) ys n, k + n)
  unfolding steady_counted steady
  steadily = grow_counted_lem (steady_counted filter x) (steady filter x) (λ y. refl) ys k n

  fading : (direction : Direction) (history fade : ℕ) →
      grow_counted (faded_counted direction history fade filter x) (ys, k) n ≡ (grow (faded direction history fade filter x) ys n, k + n)
  unfolding faded_counted faded
  fading direction history fade =
      grow_counted_lem (faded_counted direction history fade filter x) (faded direction history fade filter x) (λ y. refl) ys k n

module _ (old new : Filter) (fade : ℕ) (x past : List Float) where
  -- each case beside the one that does not count: the runs of outputs that it is made of
  activated : counted_activated new fade x past ≡ (case_activated new fade x past, 0 + fade + (length x - (length past + fade)))
  unfolding counted_activated case_activated
  activated =
      ap (λ (made : List Float × ℕ). grow_counted (steady_counted new x) made (length x - (length past + fade))) (fading new x past 0 fade In (length past) fade)
      ∙ steadily new x _ _ _

  deactivated : counted_deactivated old fade x past ≡ (case_deactivated old fade x past, 0 + fade)
  unfolding counted_deactivated case_deactivated
  deactivated = rw (fading old x past 0 fade Out (length past) fade)

  pitch_kept : counted_pitch_kept new x past ≡ (case_pitch_kept new x past, 0 + (length x - length past))
  unfolding counted_pitch_kept case_pitch_kept
  pitch_kept = steadily new x past 0 (length x - length past)

  pitch_changed : counted_pitch_changed old new fade x past ≡ (case_pitch_changed old new fade x past, 0 + fade + fade + (length x - (length past + fade)))
  unfolding counted_pitch_changed case_pitch_changed
  pitch_changed = rw (fading old x past 0 fade Out (length past) fade, fading new _ past (0 + fade) fade In (length past) fade) (steadily new x _ _ _)

  pub without_count : (t : Transition) → (counted_outputs t old new fade x past).0 ≡ outputs t old new fade x past
  unfolding counted_outputs outputs
  without_count Inactive = refl
  without_count Activated = rw activated
  without_count Deactivated = rw deactivated
  without_count ActiveNoPitchChange = rw pitch_kept
  without_count ActivePitchChanged = rw pitch_changed

  pub closed_form : (nf : ℕ) → length x ≡ length past + nf → fade ≤ nf → (t : Transition) → (counted_outputs t old new fade x past).1 ≡ evaluations_of t nf fade
  unfolding counted_outputs
  closed_form nf e l Inactive = refl
  closed_form nf e l Activated = rw activated (omega arith)
  closed_form nf e l Deactivated = rw deactivated (omega arith)
  closed_form nf e l ActiveNoPitchChange = rw pitch_kept (omega arith)
  closed_form nf e l ActivePitchChanged = rw pitch_changed (omega arith)

pub at_most : (t : Transition) (nf fade : ℕ) → evaluations_of t nf fade ≤ nf + fade
at_most Inactive nf fade = omega arith
at_most Activated nf fade = omega arith
at_most Deactivated nf fade = omega arith
at_most ActiveNoPitchChange nf fade = omega arith
at_most ActivePitchChanged nf fade = omega arith
