-- A test of what a function found: what the definition then says.
use mathlib.Core.Path.{◌≡◌, sym, ◌∙◌}
use mathlib.Core.Bool.{Bool, true, false}

pub failed : {found right : Bool} → found ≡ right → found ≡ false → right ≡ false
failed e t = sym e ∙ t

pub passed : {found right : Bool} → found ≡ right → found ≡ true → right ≡ true
passed e t = sym e ∙ t
