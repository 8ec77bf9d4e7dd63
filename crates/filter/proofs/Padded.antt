-- Lines that lack their oldest samples: no filter reads those of its inputs.
use Prim.Native.Nat.{ℕ, zero, suc, ◌+◌, ◌-◌, ◌≤◌}
use mathlib.Core.Path.{◌≡◌, refl, ◌∙◌}
use mathlib.Core.List.{List}
use native.Mathlib.Omega.{arith}
use lib.ListN.{length, drop, replicate, length-append, length-replicate, length-drop}
use lib.Seq.{drop_at, get_or-append-add}
use lib.Ieee.{Float, nan}
use Rattle.floats.specs.Single.{0·0, at}
use Rattle.filter.specs.Filter.{F}
use Rattle.filter.specs.Fade.{grow, steady, faded}
use Rattle.filter.specs.Transition.{outputs, case_activated, case_deactivated, case_pitch_kept, case_pitch_changed}
use Rattle.filter.specs.Blocks.{padded}
use Rattle.filter.specs.Required.{Inside, Readable}
use Rattle.coefficients.specs.Coefficients.{Filter}
use Rattle.filter.specs.declared.fade.Direction.{Direction}
use Rattle.filter.specs.declared.fade.Direction.TheVariants.{In, Out}
use Rattle.filter.specs.declared.transition.Transition.{Transition}
use Rattle.filter.specs.declared.transition.Transition.TheVariants.{Inactive, Activated, Deactivated, ActiveNoPitchChange, ActivePitchChanged}
use Rattle.filter.proofs.Growing.{length_grow}
use Rattle.filter.proofs.Alike.{Alike, alike_later, at_alike, num_sum_alike}

module _ (missing : ℕ) (x : List Float) where
  pub length_padded : length (padded missing x) ≡ missing + length x
  unfolding padded
  length_padded = simp (length-append, length-replicate)

  pub drop_padded : drop missing (padded missing x) ≡ x
  unfolding padded
  drop_padded = drop_at (replicate missing 0·0) x missing (length-replicate missing 0·0)

  pub at_padded : (i : ℕ) → at (padded missing x) (missing + i) ≡ at x i
  unfolding padded
  at_padded i = rw (length-replicate missing 0·0) at (get_or-append-add (replicate missing 0·0) x i nan)

-- a line alike from some sample on with one that has it all
pub padded_alike : (missing : ℕ) (x : List Float) → missing ≤ length x → Alike missing (padded missing (drop missing x)) x
padded_alike missing x h =
    record {
      long = length_padded missing (drop missing x) ∙ simp length-drop (omega arith);
      rest = drop_padded missing (drop missing x);
    }

-- runs of outputs that are the same for each past of some length
grow_same : (f g : List Float → Float) (least : ℕ) (y : List Float) (n : ℕ) → least ≤ length y →
    ((u : List Float) → least ≤ length u → f u ≡ g u) → grow f y n ≡ grow g y n
unfolding grow
grow_same f g least y zero h same = refl
grow_same f g least y (suc n) h same =
    rw (grow_same f g least y n h same, same (grow g y n) (omega (arith, length_grow g y n)))

module _ (from : ℕ) (x x' : List Float) (s : Alike from x x') (t : Filter) (reach : ℕ) (i : Inside t reach) where
  F-inputs : (y : List Float) (n : ℕ) → from + 12 ≤ n → F t x y n ≡ F t x' y n
  unfolding F
  F-inputs y n h = rw (num_sum_alike t.c_num x x' from n (t.l_den - 1) (omega arith) s)

  -- runs of outputs over inputs that are alike as far as numerators reach
  pub rest_inputs : (y : List Float) (n : ℕ) → from + 12 ≤ length y → grow (steady t x) y n ≡ grow (steady t x') y n
  unfolding steady
  rest_inputs y n h =
      grow_same (steady t x) (steady t x') (from + 12) y n h
      (λ u l. rw (F-inputs u (length u) l, at_alike from (length u) x x' (omega arith) s))

  pub fade_inputs : (direction : Direction) (history fade : ℕ) (y : List Float) (n : ℕ) → from + 12 ≤ length y →
      grow (faded direction history fade t x) y n ≡ grow (faded direction history fade t x') y n
  unfolding faded
  fade_inputs direction history fade y n h =
      grow_same (faded direction history fade t x) (faded direction history fade t x') (from + 12) y n h
      (λ u l. rw (F-inputs u (length u) l, at_alike from (length u) x x' (omega arith) s))

module _ (from fade reach : ℕ) (x x' past : List Float) (h : from + 12 ≤ length past) (s : Alike from x x') where
  -- the outputs of each case
  pub outputs_inputs : (t : Transition) (old new : Filter) → Readable t old new reach → outputs t old new fade x past ≡ outputs t old new fade x' past
  unfolding outputs case_activated case_deactivated case_pitch_kept case_pitch_changed
  outputs_inputs Inactive old new r = rw (alike_later from (length past) x x' (omega arith) s).rest
  outputs_inputs Activated old new r =
      rw (← s.long, fade_inputs from x x' s new reach r In (length past) fade past fade h)
      (rest_inputs from x x' s new reach r _ _ (omega (arith, length_grow (faded In (length past) fade new x') past fade)))
  outputs_inputs Deactivated old new r =
      rw (fade_inputs from x x' s old reach r Out (length past) fade past fade h, (alike_later from (length past + fade) x x' (omega arith) s).rest)
  outputs_inputs ActiveNoPitchChange old new r = rw (← s.long) (rest_inputs from x x' s new reach r past _ h)
  outputs_inputs ActivePitchChanged old new r =
      rw (← s.long, fade_inputs from x x' s old reach r.0 Out (length past) fade past fade h)
      (rest_inputs from x x' s new reach r.1 _ _
      (omega (arith, length_grow (faded In (length past) fade new (grow (faded Out (length past) fade old x') past fade)) past fade)))
