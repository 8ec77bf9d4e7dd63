-- Lists that are equal from an index on, and what of the outputs depends on no more than that.
use Prim.Native.Nat.{ℕ, zero, suc, ◌+◌, ◌-◌, ◌/◌, ◌≤◌}
use mathlib.Core.Path.{◌≡◌, refl, ap}
use mathlib.Core.List.{List, [], ◌∷◌, ◌++◌}
use native.Mathlib.Omega.{arith}
use lib.ListN.{length, drop, length-append}
use lib.Seq.{drop-drop, drop-append-le, get_or-drop}
use lib.Ieee.{Float, nan}
use Rattle.floats.specs.Single.{at}
use Rattle.filter.specs.Filter.{num_sum, den_sum, F}
use Rattle.filter.specs.Fade.{grow, steady, faded}
use Rattle.filter.specs.Transition.{outputs, case_activated, case_deactivated, case_pitch_kept, case_pitch_changed}
use Rattle.filter.specs.Required.{Inside, Readable}
use Rattle.coefficients.specs.Coefficients.{Filter}
use Rattle.filter.specs.declared.fade.Direction.{Direction}
use Rattle.filter.specs.declared.fade.Direction.TheVariants.{In, Out}
use Rattle.filter.specs.declared.transition.Transition.{Transition}
use Rattle.filter.specs.declared.transition.Transition.TheVariants.{Inactive, Activated, Deactivated, ActiveNoPitchChange, ActivePitchChanged}
use Rattle.filter.proofs.Growing.{length_grow}

-- as long as each other, and equal from an index on
pub record Alike (from : ℕ) (a b : List Float) : Type 0 where
  pub long : length a ≡ length b
  pub rest : drop from a ≡ drop from b

pub alike_later : (m n : ℕ) (a b : List Float) → m ≤ n → Alike m a b → Alike n a b
alike_later m n a b h s =
    let e : n ≡ m + (n - m) = omega arith in
    record { long = s.long; rest = rw (e, ← drop-drop (n - m) m a, ← drop-drop (n - m) m b, s.rest) }

pub at_alike : (from i : ℕ) (a b : List Float) → from ≤ i → Alike from a b → at a i ≡ at b i
at_alike from i a b h s =
    let e : i ≡ from + (i - from) = omega arith in
    rw (e, ← get_or-drop from a (i - from) nan, ← get_or-drop from b (i - from) nan, s.rest)

pub append_alike : (from : ℕ) (a b c d : List Float) → from ≤ length a → Alike from a b → c ≡ d → Alike from (a ++ c) (b ++ d)
append_alike from a b c d h s e =
    record {
      long = simp length-append (omega (arith, ap length e, s.long));
      rest = rw (drop-append-le from a c h, drop-append-le from b d (omega (arith, s.long)), s.rest, e);
    }

-- the filter reads no more than the last samples, so it gives the same after lines that are alike there
pub num_sum_alike : (num x x' : List Float) (from i k : ℕ) → from + k ≤ i + 1 → Alike from x x' → num_sum num x i k ≡ num_sum num x' i k
unfolding num_sum
num_sum_alike num x x' from i zero h s = refl
num_sum_alike num x x' from i (suc k) h s =
    rw (num_sum_alike num x x' from i k (omega arith) s, at_alike from (i - k) x x' (omega arith) s)

den_sum_alike : (start : Float) (den y y' : List Float) (from i k : ℕ) → from + k ≤ i + 1 → Alike from y y' →
    den_sum start den y i k ≡ den_sum start den y' i k
unfolding den_sum
den_sum_alike start den y y' from i zero h s = refl
den_sum_alike start den y y' from i (suc k) h s =
    rw (den_sum_alike start den y y' from i k (omega arith) s, at_alike from (i - k) y y' (omega arith) s)

module _ (t : Filter) (reach from : ℕ) (inside : Inside t reach) (x x' : List Float) (sx : Alike from x x') where
  F-alike : (y y' : List Float) (i : ℕ) → from + reach ≤ i → Alike from y y' → F t x y i ≡ F t x' y' i
  unfolding F
  F-alike y y' i h sy =
      rw (
        num_sum_alike t.c_num x x' from i (t.l_den - 1) (omega arith) sx,
        den_sum_alike _ t.c_den y y' from (i + t.l_den / 2 - t.lag) (t.l_den + 1) (omega arith) sy,
      )

  pub steady_alike : (y y' : List Float) → from + reach ≤ length y → Alike from y y' → steady t x y ≡ steady t x' y'
  unfolding steady
  steady_alike y y' h sy = rw (← sy.long, F-alike y y' (length y) h sy, at_alike from (length y) x x' (omega arith) sx)

  pub faded_alike : (direction : Direction) (history fade : ℕ) (y y' : List Float) → from + reach ≤ length y → Alike from y y' →
      faded direction history fade t x y ≡ faded direction history fade t x' y'
  unfolding faded
  faded_alike direction history fade y y' h sy =
      rw (← sy.long, F-alike y y' (length y) h sy, at_alike from (length y) x x' (omega arith) sx)

-- outputs made of what is alike are alike
pub grow_alike : (f g : List Float → Float) (least from : ℕ) (y y' : List Float) (n : ℕ) → from ≤ least → least ≤ length y →
    ((u v : List Float) → least ≤ length u → Alike from u v → f u ≡ g v) → Alike from y y' → Alike from (grow f y n) (grow g y' n)
unfolding grow
grow_alike f g least from y y' zero l h same s = s
grow_alike f g least from y y' (suc n) l h same s =
    let before = grow_alike f g least from y y' n l h same s in
    let long : least ≤ length (grow f y n) = omega (arith, length_grow f y n) in
    append_alike from (grow f y n) (grow g y' n) _ _ (omega arith) before (ap (λ (v : Float). v ∷ []) (same (grow f y n) (grow g y' n) long before))

module _ (from reach fade : ℕ) (x x' p p' : List Float) (h : from + reach ≤ length p) (sx : Alike from x x') (sp : Alike from p p') where
  fade_alike : (direction : Direction) (t : Filter) (z z' : List Float) → Inside t reach → Alike from z z' →
      Alike from (grow (faded direction (length p) fade t z) p fade) (grow (faded direction (length p') fade t z') p' fade)
  fade_alike direction t z z' i s =
      rw (← sp.long) (grow_alike _ _ (length p) from p p' fade (omega arith) (omega arith)
      (λ u v l w. faded_alike t reach from i z z' s direction (length p) fade u v (omega arith) w) sp)

  rest_alike : (t : Filter) → Inside t reach → (y y' : List Float) → length p ≤ length y → Alike from y y' → (m m' : ℕ) → m ≡ m' →
      Alike from (grow (steady t x) y (length x - m)) (grow (steady t x') y' (length x' - m'))
  rest_alike t i y y' l s m m' e =
      rw (← sx.long, ← e) (grow_alike _ _ (length p) from y y' (length x - m) (omega arith) l
      (λ u v k w. steady_alike t reach from i x x' sx u v (omega arith) w) s)

  -- the outputs of each case, after pasts that are alike as far as its filters reach
  pub outputs_alike : (t : Transition) (old new : Filter) → Readable t old new reach → Alike from (outputs t old new fade x p) (outputs t old new fade x' p')
  unfolding outputs case_activated case_deactivated case_pitch_kept case_pitch_changed
  outputs_alike Inactive old new r =
      append_alike from p p' _ _ (omega arith) sp (rw (← sp.long) (alike_later from (length p) x x' (omega arith) sx).rest)
  outputs_alike Activated old new r =
      rest_alike new r _ _ (omega (arith, length_grow (faded In (length p) fade new x) p fade)) (fade_alike In new x x' r sx)
      (length p + fade) (length p' + fade) (omega (arith, sp.long))
  outputs_alike Deactivated old new r =
      append_alike from _ _ _ _ (omega (arith, length_grow (faded Out (length p) fade old x) p fade)) (fade_alike Out old x x' r sx)
      (rw (← sp.long) (alike_later from (length p + fade) x x' (omega arith) sx).rest)
  outputs_alike ActiveNoPitchChange old new r = rest_alike new r p p' (omega arith) sp (length p) (length p') sp.long
  outputs_alike ActivePitchChanged old new r =
      let z = fade_alike Out old x x' r.0 sx in
      rest_alike new r.1 _ _ (omega (arith, length_grow (faded In (length p) fade new (grow (faded Out (length p) fade old x) p fade)) p fade))
      (fade_alike In new _ _ r.1 z) (length p + fade) (length p' + fade) (omega (arith, sp.long))
