-- Runs of outputs after a straight past. x is the inputs with their past in front, y the outputs so far with theirs.
use Rattle.std.specs.Prelude.{ℕ, zero, suc, ◌+◌, ◌-◌, List, [], ◌∷◌, ◌++◌, Float, length, take, drop}
use Rattle.floats.specs.Single.{◌⊖◌, ◌⊗◌, ◌⊘◌, float, at}
use Rattle.filter.specs.Filter.{F}
use Rattle.coefficients.specs.Coefficients.{Filter}
use Rattle.filter.specs.declared.fade.Direction.{Direction}
use Rattle.filter.specs.declared.fade.Direction.TheVariants.{In, Out}

-- f is n divided by the fade length, one float division; a filter fades in by f and out by 1 − f
unfoldable pub factor : Direction → ℕ → ℕ → Float
factor In fade n = float n ⊘ float fade
factor Out fade n = float 1 ⊖ float n ⊘ float fade

-- the next output x − F, after the outputs y
unfoldable pub steady : Filter → List Float → List Float → Float
steady filter x y = at x (length y) ⊖ F filter x y (length y)

-- the next output of a fade after a history: x − F·f or x − F·(1 − f)
unfoldable pub faded : Direction → ℕ → ℕ → Filter → List Float → List Float → Float
faded direction history fade filter x y = at x (length y) ⊖ F filter x y (length y) ⊗ factor direction fade (length y - history)

-- n more outputs, each made of all those before it
unfoldable pub grow : (List Float → Float) → List Float → ℕ → List Float
grow f ys zero = ys
grow f ys (suc n) = grow f ys n ++ (f (grow f ys n) ∷ [])

-- the line y with n outputs in place of its samples from `from` on
unfoldable pub grown : (List Float → Float) → List Float → ℕ → ℕ → List Float
grown f y from n = grow f (take from y) n ++ drop (from + n) y
