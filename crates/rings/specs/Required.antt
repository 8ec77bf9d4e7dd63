-- What the functions of this crate ask of their callers, who are the engines above it and no users.
use Rattle.std.specs.Prelude.{ℕ, ◌+◌, ◌*◌, ◌≤◌, ◌≡◌, List, Float, length}
use Rattle.rates.specs.declared.config.Lc3Config.{Lc3Config}
use Rattle.coefficients.specs.Coefficients.{Filter}
use Rattle.filter.specs.Required.{Readable}
use Rattle.filter.specs.declared.transition.Transition.{Transition}
use Rattle.rings.specs.Ring.{newest_end}

-- what filtering after the pasts of two rings takes: the case's filters read inside the history, the rings hold it and have a place for a
-- frame, and the lines hold it and the frame
pub record Filterable (t : Transition) (old new : Filter) (c : Lc3Config) (start : ℕ) (xs ys : List Float) : Type 0 where
  pub readable : Readable t old new c.history
  pub block : start + c.nf ≤ c.history
  pub newest : 16 ≤ newest_end c.history start
  pub past : c.history ≤ 1080
  pub inputs : length xs ≡ 1080
  pub outputs : length ys ≡ 1080
  pub fade_least : 8 ≤ c.fs.fade
  pub fade_most : c.fs.fade ≤ 120
  pub rest : c.fs.fade + 8 ≤ c.nf
  pub twice : 2 * c.nf ≤ c.history
  pub line : c.history + c.nf ≤ 1440
