-- What the functions that filter on lines promise and ask. No promise of a public function names any of it.
use Rattle.std.specs.Prelude.{ℕ, ◌+◌, ◌-◌, ◌≡◌, List, ◌++◌, Float, length, drop}
use Rattle.slices.specs.Slices.{stored}
use Rattle.rates.specs.declared.config.Lc3Config.{Lc3Config}
use Rattle.coefficients.specs.Coefficients.{Filter}
use Rattle.filter.specs.Blocks.{padded}
use Rattle.filter.specs.Transition.{outputs}
use Rattle.filter.specs.declared.transition.Transition.{Transition}
use Rattle.rings.specs.Ring.{straight}
use Rattle.rings.specs.Required.{Filterable}
use Rattle.rings.specs.Samples.{block_at}

-- the line of inputs: the newest 16 samples of the past, with the frame after them
abbrev pub input_line : Lc3Config → ℕ → List Float → List Float
input_line c start ring = drop (c.history - 16) (straight ring c.history start ++ block_at c start ring)

-- the ring of outputs with those of the frame that ends such a line
abbrev pub filtered_on : Transition → Filter → Filter → Lc3Config → ℕ → List Float → List Float → List Float
filtered_on t old new c start x ys =
    stored ys start (drop c.history (outputs t old new c.fs.fade (padded (c.history - 16) x) (straight ys c.history start)))

-- what filtering on a line of inputs takes: of the ring of outputs what filtering between rings takes, and a line of the right length
pub record FilterableOn (t : Transition) (old new : Filter) (c : Lc3Config) (start : ℕ) (x ys : List Float) : Type 0 where
  pub ring : Filterable t old new c start ys ys
  pub long : length x ≡ 16 + c.nf
