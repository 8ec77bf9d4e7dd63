-- The five cases from the runs of outputs that the code makes on a line.
use Prim.Native.Nat.{ℕ, ◌+◌, ◌-◌, ◌≤◌}
use mathlib.Core.Path.{◌≡◌, sym, ◌∙◌, ap}
use mathlib.Core.List.{List, ◌++◌}
use native.Mathlib.Nat.{add-zero}
use native.Mathlib.Omega.{arith}
use lib.ListN.{length, take, drop, take-append-drop, length-drop}
use lib.Seq.{drop-drop, length-take-le}
use lib.Ieee.{Float}
use Rattle.filter.specs.Fade.{grow, grown, steady, faded}
use Rattle.filter.specs.Blocks.{padded}
use Rattle.filter.specs.Transition.{case_activated, case_deactivated, case_pitch_kept, case_pitch_changed}
use Rattle.filter.specs.Required.{Inside, Lines}
use Rattle.coefficients.specs.Coefficients.{Filter}
use Rattle.filter.specs.declared.fade.Direction.TheVariants.{In, Out}
use Rattle.filter.proofs.Growing.{take_grown, length_grown, before_grown, grown_all}
use Rattle.slices.proofs.Stored.{drop_take}
use Rattle.filter.proofs.Padded.{length_padded, drop_padded, padded_alike, fade_inputs}

-- a line whose fade is done, filtered to its end
faded_line : (f : List Float → Float) (new : Filter) (fade history : ℕ) (x y : List Float) → history + fade ≤ length x → length y ≡ length x →
    grown (steady new x) (grown f y history fade) (history + fade) (length x - (history + fade)) ≡
    grow (steady new x) (grow f (take history y) fade) (length x - (history + fade))
faded_line f new fade history x y h e =
    grown_all _ (grown f y history fade) (history + fade) (length x - (history + fade)) (omega (arith, length_grown f y history fade (omega arith)))
    ∙ rw (take_grown f y history fade (omega arith))

-- a part of a line, put at the front of another
pub part_aside : (y z : List Float) (from to k : ℕ) → to - from ≡ k → from ≤ to → to ≤ length y →
    take (length (take (to - from) (drop from y))) z ≡ take (to - from) (drop from y) → (k ≡ length (take k z)) × (take k z ≡ take k (drop from y))
part_aside y z from to k e h l p =
    let long : length (take (to - from) (drop from y)) ≡ k = length-take-le (to - from) (drop from y) (simp length-drop (omega arith)) ∙ e in
    let same : take k z ≡ take k (drop from y) = rw (long, e) at p in
    (sym (ap length same ∙ length-take-le k (drop from y) (simp length-drop (omega arith))), same)

module _ (fade history : ℕ) (x y : List Float) (l : Lines fade history x y) where
  -- the inputs as the definitions have them, after the whole of their past
  abbrev full : List Float
  full = padded (history - 16) x

  past_long : length (take history y) ≡ history
  past_long = length-take-le history y (omega arith)

  full_long : length y ≡ length full
  full_long = omega (arith, length_padded (history - 16) x)

  inputs : drop history y ≡ drop history full
  inputs =
      let e : history ≡ history - 16 + 16 = omega arith in
      l.inputs ∙ sym (ap (λ (k : ℕ). drop k full) e ∙ sym (drop-drop 16 (history - 16) full) ∙ rw (drop_padded (history - 16) x))

  -- the outputs from one on, to the end of the frame
  rest : (from : ℕ) → length x - 16 - from ≡ length full - (history + from)
  rest from = omega (arith, length_padded (history - 16) x)

  all : length x - 16 ≡ length full - history
  all = omega (arith, length_padded (history - 16) x)

  pub inactive_line : y ≡ take history y ++ drop (length (take history y)) full
  inactive_line = rw (past_long, ← inputs, take-append-drop)

  pub kept_line : (new : Filter) → grown (steady new full) y (history + 0) (length x - 16) ≡ case_pitch_kept new full (take history y)
  unfolding case_pitch_kept
  kept_line new = rw (all, add-zero, past_long) (grown_all _ y history (length full - history) (omega (arith, full_long)))

  pub deactivated_line : (old : Filter) → grown (faded Out history fade old full) y (history + 0) fade ≡ case_deactivated old fade full (take history y)
  unfolding case_deactivated grown
  deactivated_line old = rw (add-zero, past_long, ← drop-drop fade history y, inputs, drop-drop)

  pub activated_line : (new : Filter) →
      grown (steady new full) (grown (faded In history fade new full) y (history + 0) fade) (history + fade) (length x - 16 - fade) ≡
      case_activated new fade full (take history y)
  unfolding case_activated
  activated_line new = rw (rest fade, add-zero, past_long) (faded_line _ new fade history full y (omega (arith, full_long)) full_long)

  -- what is set aside of a faded line is all that a filter's numerators read of it
  aside : (new : Filter) (y₁ z : List Float) → Inside new history → history + fade ≤ length y₁ → z ≡ take (16 + fade) (drop (history - 16) y₁) →
      grown (faded In history fade new (padded (history - 16) z)) y₁ history fade ≡ grown (faded In history fade new (take (history + fade) y₁)) y₁ history fade
  unfolding grown
  aside new y₁ z i h e =
      let all = take (history + fade) y₁ in
      let whole : history + fade ≡ history - 16 + (16 + fade) = omega arith in
      let newest : z ≡ drop (history - 16) all = e ∙ sym (rw whole (drop_take (history - 16) (16 + fade) y₁ (omega arith))) in
      rw (
        newest,
        fade_inputs (history - 16) (padded (history - 16) (drop (history - 16) all)) all
            (padded_alike (history - 16) all (omega (arith, length-take-le (history + fade) y₁ h))) new history i In history fade (take history y₁) fade
            (omega (arith, length-take-le history y₁ (omega arith))),
      )

  pub changed_line : (old new : Filter) (y₁ y₂ y₃ z : List Float) → Inside new history →
      y₁ ≡ grown (faded Out history fade old full) y (history + 0) fade →
      z ≡ take (16 + fade) (drop (history - 16) y₁) →
      y₂ ≡ grown (faded In history fade new (padded (history - 16) z)) y₁ (history + 0) fade →
      y₃ ≡ grown (steady new full) y₂ (history + fade) (length x - 16 - fade) →
      y₃ ≡ case_pitch_changed old new fade full (take history y)
  unfolding case_pitch_changed
  changed_line old new y₁ y₂ y₃ z i f₁ e f₂ e₃ =
      let e₁ = rw add-zero at f₁ in
      let e₂ = rw add-zero at f₂ in
      let out = faded Out history fade old full in
      let all = take (history + fade) y₁ in
      let long : length y₁ ≡ length full = ap length e₁ ∙ length_grown out y history fade (omega arith) ∙ full_long in
      let set_aside : all ≡ grow out (take history y) fade = rw e₁ (take_grown out y history fade (omega arith)) in
      let past : take history y₁ ≡ take history y = rw e₁ (before_grown out y history fade (omega arith)) in
      rw (
        e₃,
        rest fade,
        e₂,
        aside new y₁ z i (omega (arith, full_long)) e,
        faded_line (faded In history fade new all) new fade history full y₁ (omega (arith, full_long)) long,
        past,
        past_long,
        set_aside,
      )
