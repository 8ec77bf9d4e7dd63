-- What the functions of this crate ask of their callers, who are the engines above it and no users.
use Rattle.std.specs.Prelude.{ℕ, ◌+◌, ◌/◌, ◌≤◌, ◌≡◌, List, Float, length, drop}
use Rattle.coefficients.specs.Coefficients.{Filter}
use Rattle.filter.specs.declared.transition.Transition.{Transition}
use Rattle.filter.specs.declared.transition.Transition.TheVariants.{Inactive, Activated, Deactivated, ActiveNoPitchChange, ActivePitchChanged}

-- every sample that F reads at i has an index, and those of y lie at least 18 before i
pub record Inside (filter : Filter) (i : ℕ) : Type 0 where
  pub least : 2 ≤ filter.l_den
  pub most : filter.l_den ≤ 12
  pub inputs : filter.l_den ≤ i
  pub oldest : filter.lag + filter.l_den ≤ i + filter.l_den / 2
  pub newest : filter.l_den / 2 + 18 ≤ filter.lag

-- the inputs x have 16 samples of their past in front, and the line y of outputs the history; both hold the same frame, and 8 outputs at
-- least are made in the fade and after it
pub record Lines (fade history : ℕ) (x y : List Float) : Type 0 where
  pub past : 16 ≤ history
  pub fade_least : 8 ≤ fade
  pub fade_most : fade ≤ 120
  pub frame : 16 + fade + 8 ≤ length x
  pub same : 16 + length y ≡ history + length x
  pub inputs : drop history y ≡ drop 16 x

-- the filters that a case uses can be computed after a history
abbrev pub Readable : Transition → Filter → Filter → ℕ → Type 0
Readable Inactive old new history = Unit
Readable Activated old new history = Inside new history
Readable Deactivated old new history = Inside old history
Readable ActiveNoPitchChange old new history = Inside new history
Readable ActivePitchChanged old new history = Inside old history × Inside new history
