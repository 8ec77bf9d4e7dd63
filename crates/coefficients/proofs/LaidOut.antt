-- A filter's coefficients in one array: written in two parts, and read back.
use Rattle.lag.specs.declared.gain.Gain.{Gain}
use Rattle.std.proofs.Common.{Option}
use Prim.Native.Nat.{ℕ, ◌+◌, ◌-◌, ◌≤◌}
use mathlib.Core.Path.{◌≡◌, refl}
use mathlib.Core.Bool.{Bool, true, false}
use mathlib.Core.List.{List, ◌++◌, append-nil}
use native.Mathlib.Omega.{arith}
use lib.ListN.{length, take, drop, length-append, length-take, length-drop, length-map, length-replicate}
use lib.Seq.{take_at, drop_at, take_all, drop-length}
use lib.Ieee.{Float}
use borrow.Rule.Slice.PartMut.{put_mid}
use Rattle.lag.specs.declared.rescale.Lag.{Lag}
use Rattle.coefficients.specs.Coefficients.{Filter, filter_of, new_filter, scaled, row_of_set, laid_out, read_out}

module _ (num den : List Float) (ln : length num ≡ 11) (ld : length den ≡ 13) where
  -- the second part is what lies after the first
  pub second_part : take 13 (drop 11 (num ++ den)) ≡ den
  second_part = rw (drop_at num den 11 ln) (take_all 13 den (omega arith))

  -- and can be replaced by itself
  pub second_replaced : (new : List Float) → put_mid 11 13 (num ++ den) new ≡ num ++ new
  second_replaced new =
      let none : drop 13 den ≡ drop (length den) den = rw ld in
      rw (take_at num den 11 ln, drop_at num den 11 ln, none, drop-length den, append-nil new)

-- what is laid out is read back
pub read_back : (f : Filter) → length f.c_num ≡ 11 → length f.c_den ≡ 13 → read_out f.l_den f.lag (laid_out f) ≡ f
read_back f ln ld = rw (take_at f.c_num f.c_den 11 ln, second_part f.c_num f.c_den ln ld)

-- a scaled row is as long as the coefficients that it stands among
scaled_long : (size entries r : ℕ) (gain : Float) (set : List Float) → entries ≤ size → length (scaled size gain (row_of_set entries r set)) ≡ size
scaled_long size entries r gain set h = simp (length-append, length-map, length-drop, length-replicate, length-take) (omega arith)

module _ (order : ℕ) (few : order ≤ 12) (gain : Option Gain) (lag : Lag) (nums dens : List Float) where
  pub new_nums : (active : Bool) → length (new_filter order active gain lag nums dens).c_num ≡ 11
  unfolding new_filter filter_of
  new_nums false = refl
  new_nums true = scaled_long 11 (order - 1) _ _ nums (omega arith)

  pub new_dens : (active : Bool) → length (new_filter order active gain lag nums dens).c_den ≡ 13
  unfolding new_filter filter_of
  new_dens false = refl
  new_dens true = scaled_long 13 (order + 1) _ _ dens (omega arith)

  pub new_order : (active : Bool) → (new_filter order active gain lag nums dens).l_den ≡ order
  unfolding new_filter filter_of
  new_order false = refl
  new_order true = refl

  -- a frame's filter is read back from its coefficients
  pub new_read_back : (active : Bool) → let new = new_filter order active gain lag nums dens in read_out order new.lag (laid_out new) ≡ new
  unfolding new_filter
  new_read_back active =
      let new = new_filter order active gain lag nums dens in
      rw (new_order active) at (read_back new (new_nums active) (new_dens active))
