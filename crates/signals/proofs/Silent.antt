-- Silent signals: lists of 0.0, and what writing into them leaves.
use Prim.Native.Nat.{ℕ, zero, suc, ◌+◌, ◌≤◌, ◌<◌}
use mathlib.Core.Path.{◌≡◌, refl, ◌∙◌}
use mathlib.Core.Bool.{Bool, true, false}
use mathlib.Core.List.{List}
use native.Mathlib.Omega.{arith}
use borrow.Author.Tests.{eqb-true, eqb-false}
use lib.Dec.{eqb}
use lib.ListN.{length, set, replicate, length-set, length-replicate, get_or-replicate}
use lib.Seq.{get_or-set_same, get_or-set_other}
use lib.Ieee.{Float, nan}
use Rattle.floats.specs.Single.{0·0, at}
use Rattle.lanes.specs.Sums.{window}
use Rattle.slices.specs.Written.{written}
use Rattle.signals.specs.Straight.{laid}

pub record Silent (n : ℕ) (x : List Float) : Type 0 where
  pub long : length x ≡ n
  pub still : (i : ℕ) → i < n → at x i ≡ 0·0

-- the first n samples are 0.0
abbrev pub Still : ℕ → (ℕ → Float) → Type 0
Still n f = (i : ℕ) → i < n → f i ≡ 0·0

pub silent_zeros : (n : ℕ) → Silent n (replicate n 0·0)
silent_zeros n = record { long = length-replicate n 0·0; still = λ i h. get_or-replicate n i 0·0 nan h }

silent_set : (n : ℕ) (x : List Float) (i : ℕ) (v : Float) → Silent n x → v ≡ 0·0 → Silent n (set x i v)
silent_set n x i v quiet z = record { long = length-set x i v ∙ quiet.long; still = λ j h. go j h (eqb j i) refl }
  where
    go : (j : ℕ) → j < n → (b : Bool) → eqb j i ≡ b → at (set x i v) j ≡ 0·0
    go j h true e = let same : j ≡ i = eqb-true j i e in rw (same, get_or-set_same x i v nan (omega (arith, quiet.long))) z
    go j h false e = get_or-set_other x i j v nan (eqb-false j i e) ∙ quiet.still j h

pub silent_written : (n : ℕ) (x : List Float) (start : ℕ) (f : ℕ → Float) (k : ℕ) → Silent n x → Still k f → Silent n (written x start f k)
unfolding written
silent_written n x start f zero quiet z = quiet
silent_written n x start f (suc k) quiet z =
    silent_set n (written x start f k) (start + k) (f k) (silent_written n x start f k quiet (λ i h. z i (omega arith))) (z k (omega arith))

-- a part of a silent signal
pub still_window : (n : ℕ) (x : List Float) (start k : ℕ) → Silent n x → start + k ≤ n → Still k (window x start)
still_window n x start k quiet h i l = quiet.still (start + i) (omega arith)

pub silent_laid : (n size : ℕ) (x : List Float) (start k : ℕ) → Silent n x → start + k ≤ n → Silent size (laid size x start k)
unfolding laid
silent_laid n size x start k quiet h =
    silent_written size (replicate size 0·0) 0 (window x start) k (silent_zeros size) (still_window n x start k quiet h)
