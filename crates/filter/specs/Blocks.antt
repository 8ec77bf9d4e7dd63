-- What the functions that make eight outputs side by side promise. Of public functions only `filter_frame`, which asks, names any of it (`padded`).
use Rattle.std.specs.Prelude.{ℕ, ◌+◌, ◌≤◌, List, ◌++◌, Float, replicate, Option, Some, None}
use Rattle.floats.specs.Single.{◌⊖◌, ◌⊗◌, 0·0, at}
use Rattle.lanes.specs.Lanes.{all, fir_added, fir_taken}
use Rattle.lanes.specs.declared.Lanes.{Lanes}
use Rattle.filter.specs.Fade.{factor, steady, faded}
use Rattle.coefficients.specs.Coefficients.{Filter}
use Rattle.filter.specs.declared.fade.Direction.{Direction}

-- both sums of the filter, for eight samples of x from i on and of y from j on
unfoldable pub sums : List Float → List Float → List Float → ℕ → List Float → ℕ → Lanes
sums num den x i y j = fir_taken (fir_added (all 0·0) num x i) den y j

-- eight samples of x from i on, less these
abbrev pub less : List Float → ℕ → Lanes → Lanes
less x i s = record {
  s0 = at x i ⊖ s.s0;
  s1 = at x (i + 1) ⊖ s.s1;
  s2 = at x (i + 2) ⊖ s.s2;
  s3 = at x (i + 3) ⊖ s.s3;
  s4 = at x (i + 4) ⊖ s.s4;
  s5 = at x (i + 5) ⊖ s.s5;
  s6 = at x (i + 6) ⊖ s.s6;
  s7 = at x (i + 7) ⊖ s.s7;
}

-- these, each times its factor of the fade, from its sample n on
abbrev pub weighed : Direction → ℕ → ℕ → Lanes → Lanes
weighed direction fade n s = record {
  s0 = s.s0 ⊗ factor direction fade n;
  s1 = s.s1 ⊗ factor direction fade (n + 1);
  s2 = s.s2 ⊗ factor direction fade (n + 2);
  s3 = s.s3 ⊗ factor direction fade (n + 3);
  s4 = s.s4 ⊗ factor direction fade (n + 4);
  s5 = s.s5 ⊗ factor direction fade (n + 5);
  s6 = s.s6 ⊗ factor direction fade (n + 6);
  s7 = s.s7 ⊗ factor direction fade (n + 7);
}

-- these, each times its factor where the run fades, and else as they are
abbrev pub weighed_in : Option Direction → ℕ → ℕ → Lanes → Lanes
weighed_in None fade n s = s
weighed_in (Some direction) fade n s = weighed direction fade n s

-- the next output, so weighted
abbrev pub next_in : Option Direction → ℕ → ℕ → Filter → List Float → List Float → Float
next_in None history fade filter x = steady filter x
next_in (Some direction) history fade filter x = faded direction history fade filter x

-- outputs that are faded end within the fade
abbrev pub Within : Option Direction → ℕ → ℕ → Type 0
Within None fade end = Unit
Within (Some direction) fade end = end ≤ fade

-- a line with so many samples of 0.0 in front, instead of those that it lacks
unfoldable pub padded : ℕ → List Float → List Float
padded missing x = replicate missing 0·0 ++ x
