-- `pitch_lag_parameter` fills the part of its buffer that the lags need, and looks among it.
use Prim.Native.Nat.{ℕ, ◌+◌, ◌-◌, ◌≤◌}
use mathlib.Core.Path.{◌≡◌, ◌∙◌}
use mathlib.Core.List.{List}
use native.Mathlib.Omega.{arith}
use lib.Ieee.{Float, binary32, of_bits}
use lib.ListN.{length, take, replicate}
use lib.Seq.{length-take-le}
use borrow.Author.Rules.{rules}
use Rattle.found.specs.LagParameter.{k_min, k_max, lag_parameter}
use Rattle.search.specs.Correlate.{correlated, correlated_into}
use Rattle.found.proofs.LagParameters.{lag_bounds, count_bounds}
use Rattle.search.proofs.Correlates.{LagsInside, correlated_where_inside}
use Rattle.found.proofs.lag_parameter.pitch_lag_parameter.Goals as goal

abbrev zeros : List Float
zeros = replicate 17 (of_bits binary32 0)

-- how many correlations there are, of lags low - 4 to high + 4
abbrev count : ℕ → ℕ → ℕ
count low high = high + 4 - (low - 4) + 1

-- the lags lie within the signal
inside : (start len low high : ℕ) → 232 ≤ start → start + len ≤ 404 → (32 ≤ low) × (low ≤ high) × (high ≤ 228) × (high ≤ low + 8) →
    LagsInside 404 start len (low - 4) (count low high)
inside start len low high late within m =
    let b = count_bounds low high m in
    record { frame = within; lags = (omega arith, omega (arith, b)); few = (omega (arith, b), omega (arith, b)) }

-- the correlations in the part of the buffer
made : (x r : List Float) (start len low high : ℕ) → length x ≡ 404 → 232 ≤ start → start + len ≤ 404 →
    (32 ≤ low) × (low ≤ high) × (high ≤ 228) × (high ≤ low + 8) → r ≡ correlated_into (take (count low high) zeros) x start len (low - 4) →
    r ≡ correlated x start len (low - 4) (count low high)
made x r start len low high long late within m e =
    let fits = length-take-le (count low high) zeros (count_bounds low high m).1 in
    let i : LagsInside (length x) start len (low - 4) (length (take (count low high) zeros)) = rw (long, fits) (inside start len low high late within m) in
    rw fits at (e ∙ correlated_where_inside _ _ _ _ _ i)

pub returns : goal.returns
unfolding lag_parameter
returns c =
    let a = c.args in
    let t = a.t_curr in
    let low_is : c.max-low.result ≡ k_min t = omega (arith, c.max-low.ensures) in
    let high_is : c.min-high.result ≡ k_max t = omega (arith, c.min-high.ensures) in
    let m = rw (← low_is, ← high_is) at (lag_bounds t c.requires.0 c.requires.1) in
    let r = made a.frame.x.now c.correlate.new.r a.frame.start a.frame.len12p8 c.max-low.result c.min-high.result (search rules) a.frame.late (omega (arith, a.frame.inside)) m c.correlate.ensures in
    rw (← low_is, ← high_is, ← r) c.lag_among.ensures
