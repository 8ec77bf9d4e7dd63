-- A product of two floats is the same either way round; a quotient of 0 is rounded to a zero.
use Prim.Native.Nat.{ℕ, ◌*◌, ◌<◌}
use mathlib.Core.Path.{◌≡◌, refl, ◌∙◌}
use mathlib.Core.Bool.{Bool, true, false}
use native.Mathlib.Nat.{mul_comm}
use native.Mathlib.Omega.{arith}
use lib.IntN.{pos}
use lib.Ieee.{Float, nan, inf, fin, up, down, unlike, mul, round, binary32}
use lib.Ieee.Scale.{round_same}
use Rattle.floats.specs.Single.{◌⊗◌}

unlike_comm : (s t : Bool) → unlike s t ≡ unlike t s
unlike_comm true true = refl
unlike_comm true false = refl
unlike_comm false true = refl
unlike_comm false false = refl

pub times_comm : (x y : Float) → x ⊗ y ≡ y ⊗ x
unfolding mul
times_comm nan nan = refl
times_comm nan (inf t) = refl
times_comm nan (fin t n d) = refl
times_comm (inf s) nan = refl
times_comm (inf s) (inf t) = rw (unlike_comm s t)
times_comm (inf s) (fin t n d) = rw (unlike_comm s t)
times_comm (fin s m e) nan = refl
times_comm (fin s m e) (inf t) = rw (unlike_comm s t)
times_comm (fin s m e) (fin t n d) = rw (unlike_comm s t, mul_comm (m * up e) (n * up d), mul_comm (down e) (down d))

pub round_zero : (s : Bool) (num den : ℕ) → 0 < den → num ≡ 0 → round binary32 s num den ≡ fin s 0 (pos 0)
unfolding round
round_zero s num den h e = round_same binary32 s num den 0 1 h (omega arith) (omega arith) ∙ refl
