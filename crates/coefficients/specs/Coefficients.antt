-- The filter of a frame: its coefficients, each a gain times an entry of the lent set, and its lag.
use Rattle.lag.specs.declared.gain.Gain.{Gain}
use Rattle.std.specs.Prelude.{ℕ, ◌+◌, ◌-◌, ◌*◌, Bool, true, false, List, map, ◌++◌, Float, length, take, drop, replicate, Option, None, Some}
use Rattle.lag.specs.declared.rescale.Lag.{Lag}
use Rattle.floats.specs.Single.{◌⊗◌, 0·0, decimal}

-- a filter: the order l_den, 11 numerator and 13 denominator coefficients, of which l_den − 1 and l_den + 1 are used and the others are 0.0,
-- and the whole lag
pub record Filter : Type 0 where
  pub l_den : ℕ
  pub c_num : List Float
  pub c_den : List Float
  pub lag : ℕ

-- off is computed as gain 0.0 on row 0
abbrev pub gain_value : Option Gain → Float
gain_value None = 0·0
gain_value (Some on) = on.gain

-- and its row
abbrev pub gain_row : Option Gain → ℕ
gain_row None = 0
gain_row (Some on) = on.row

-- row r of a set whose rows have so many entries
abbrev pub row_of_set : ℕ → ℕ → List Float → List Float
row_of_set entries r set = take entries (drop (r * entries) set)

-- a gain times each entry of a row, in place of the first of so many 0.0
abbrev pub scaled : ℕ → Float → List Float → List Float
scaled size gain row = map (λ e. gain ⊗ e) row ++ drop (length row) (replicate size 0·0)

-- a numerator entry is (0.85·gain)·table, by gain row, and a denominator entry gain·table, by quarter
unfoldable pub filter_of : ℕ → Option Gain → Lag → List Float → List Float → Filter
filter_of order gain lag numerators denominators = record {
  l_den = order;
  c_num = scaled 11 (decimal 85 2 ⊗ gain_value gain) (row_of_set (order - 1) (gain_row gain) numerators);
  c_den = scaled 13 (gain_value gain) (row_of_set (order + 1) lag.quarter denominators);
  lag = lag.whole;
}

-- an inactive frame has coefficients of 0.0 and the lag 0
abbrev pub no_filter : ℕ → Filter
no_filter order = record { l_den = order; c_num = replicate 11 0·0; c_den = replicate 13 0·0; lag = 0 }

-- this frame's filter, by its gain and its lag; an inactive frame has none
unfoldable pub new_filter : ℕ → Bool → Option Gain → Lag → List Float → List Float → Filter
new_filter order false gain lag numerators denominators = no_filter order
new_filter order true gain lag numerators denominators = filter_of order gain lag numerators denominators

-- how a filter's coefficients stand in one array of 24: those of the numerator, then those of the denominator
abbrev pub laid_out : Filter → List Float
laid_out filter = filter.c_num ++ filter.c_den

-- the filter of this order and whole lag whose coefficients stand in one array
abbrev pub read_out : ℕ → ℕ → List Float → Filter
read_out order lag coefficients = record { l_den = order; c_num = take 11 coefficients; c_den = take 13 (drop 11 coefficients); lag = lag }
