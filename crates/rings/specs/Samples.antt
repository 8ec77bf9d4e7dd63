-- A frame filtered after the pasts that two rings hold.
use Rattle.std.specs.Prelude.{ℕ, List, ◌++◌, Float, take, drop}
use Rattle.slices.specs.Slices.{stored}
use Rattle.rates.specs.declared.config.Lc3Config.{Lc3Config}
use Rattle.coefficients.specs.Coefficients.{Filter}
use Rattle.filter.specs.Transition.{outputs}
use Rattle.filter.specs.declared.transition.Transition.{Transition}
use Rattle.rings.specs.Ring.{straight}

-- a frame's outputs: those of its case, after the straight pasts of the two rings
unfoldable pub filtered : Transition → Filter → Filter → Lc3Config → ℕ → List Float → List Float → List Float → List Float
filtered t old new c start xs ys frame =
    drop c.history (outputs t old new c.fs.fade (straight xs c.history start ++ frame) (straight ys c.history start))

-- the frame that stands in a ring at a block start
abbrev pub block_at : Lc3Config → ℕ → List Float → List Float
block_at c start ring = take c.nf (drop start ring)

-- the ring of outputs with those of the frame that stands in the ring of inputs
abbrev pub filtered_block : Transition → Filter → Filter → Lc3Config → ℕ → List Float → List Float → List Float
filtered_block t old new c start xs ys = stored ys start (filtered t old new c start xs ys (block_at c start xs))
