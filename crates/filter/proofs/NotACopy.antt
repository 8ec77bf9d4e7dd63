-- A filtered output is computed even where its factor is zero, and that can be told from a copy.
use mathlib.Core.Path.{◌≡◌, refl}
use mathlib.Core.Bool.{true, false}
use lib.IntN.{pos}
use lib.Ieee.{Float, nan, inf, fin, add, sub, mul, round, neg}
use Rattle.floats.specs.Single.{◌⊖◌, ◌⊗◌, 0·0}

-- where F is -1.0 an input of -0.0 then gives 0.0
pub minus_zero_tells : fin true 0 (pos 0) ⊖ fin true 1 (pos 0) ⊗ 0·0 ≡ 0·0
unfolding sub mul add neg round
minus_zero_tells = refl

-- where F is infinite every input gives a NaN
pub infinity_tells : (x : Float) → x ⊖ inf false ⊗ 0·0 ≡ nan
unfolding sub mul add neg
infinity_tells nan = refl
infinity_tells (inf s) = refl
infinity_tells (fin s m e) = refl
