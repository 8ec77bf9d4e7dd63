-- A flag that was written reads back.
use mathlib.Core.Path.{◌≡◌, refl}
use mathlib.Core.Bool.{Bool, true, false}
use Rattle.c_arrays.specs.Words.{is_yes, as_flag}

pub flag_back : (b : Bool) → is_yes (as_flag b) ≡ b
flag_back true = refl
flag_back false = refl
