-- The pitch search at 6.4 kHz. x is the signal, entry 114 the frame's first sample, len the frame's length. Definitions only.
use Rattle.std.specs.Prelude.{ℕ, zero, suc, ◌+◌, ◌-◌, min, max, cond, ◌&&◌, List, leb, Float, length, take, drop, Option, Some, None}
use Rattle.std.specs.Float.Ieee.{lt}
use Rattle.floats.specs.Single.{◌⊖◌, ◌⊗◌, ◌⊘◌, 0·0, decimal, float, at}
use Rattle.root.specs.SquareRoot.{root_of}
use Rattle.lanes.specs.Sums.{product_sum, window}
use Rattle.search.specs.Lists.{list_of}
use Rattle.search.specs.declared.pitch.Detected.{Detected}
use Rattle.search.specs.declared.pitch.Candidate.{Candidate}

-- the frame's correlation with what lies lag samples before it
abbrev pub correlation : List Float → ℕ → ℕ → Float
correlation x len lag = product_sum (window x 114) (window x (114 - lag)) len

-- the energy of what lies lag samples before the frame
abbrev pub energy : List Float → ℕ → ℕ → Float
energy x len lag = product_sum (window x (114 - lag)) (window x (114 - lag)) len

-- the 98 correlations, of lags 17 to 114
unfoldable pub correlations : List Float → ℕ → List Float
correlations x len = list_of (λ k. correlation x len (17 + k)) 98

-- the weight of entry k
abbrev pub weight : ℕ → Float
weight k = float 1 ⊖ decimal 5 1 ⊗ float k ⊘ float 97

-- each correlation times its weight
unfoldable pub weighted : List Float → List Float
weighted r = list_of (λ k. weight k ⊗ at r k) 98

-- a search among the first n entries: it starts at the first and moves only to a strictly greater one
unfoldable pub searched : List Float → ℕ → ℕ
searched s zero = 0
searched s (suc n) = cond (lt (at s (searched s n)) (at s n)) n (searched s n)

-- the entry of the largest value: ties go to the first, and a NaN never wins later; an empty list gives 0
abbrev pub index_of_max : List Float → ℕ
index_of_max s = searched s (length s)

-- the first lag: the largest of the weighted correlations
unfoldable pub lag1 : List Float → ℕ
lag1 r = index_of_max (weighted r) + 17

-- the first entry of the second search: that of lag max(17, previous - 4)
abbrev pub near_from : ℕ → ℕ
near_from previous = max 17 (previous - 4) - 17

-- the entry past its last: that of lag min(114, previous + 4) and one
abbrev pub near_to : ℕ → ℕ
near_to previous = min 114 (previous + 4) - 17 + 1

-- the second lag: the largest of the correlations there
unfoldable pub lag2 : List Float → ℕ → ℕ
lag2 r previous = index_of_max (take (near_to previous - near_from previous) (drop (near_from previous) r)) + near_from previous + 17

-- a quotient that is NaN or not above 0 counts as 0.0
abbrev pub above_zero : Float → Float
above_zero q = cond (lt 0·0 q) q 0·0

-- r over a root, and 0.0 where there is none
abbrev pub over_root : Float → Option Float → Float
over_root r None = 0·0
over_root r (Some v) = above_zero (r ⊘ v)

-- the root of the product of the two energies
unfoldable pub root_at : List Float → ℕ → ℕ → Option Float
root_at x len lag = root_of (energy x len 0 ⊗ energy x len lag)

-- the correlation at a lag, over that root
unfoldable pub normalised : List Float → ℕ → ℕ → Float
normalised x len lag = over_root (correlation x len lag) (root_at x len lag)

-- a lag to choose from
abbrev pub candidate_at : List Float → ℕ → ℕ → Candidate
candidate_at x len lag = record { lag = lag; correlation = correlation x len lag; root = root_at x len lag; normcorr = normalised x len lag }

-- present only above 0.6; the correlation and the root are kept
abbrev pub with_presence : Candidate → Detected
with_presence c = record { t_curr = c.lag; present = lt (decimal 6 1) c.normcorr; correlation = c.correlation; root = c.root }

-- lag 2 wins only above 0.85 times the first
unfoldable pub chosen : Candidate → Candidate → Detected
chosen first second = cond (lt (decimal 85 2 ⊗ first.normcorr) second.normcorr) (with_presence second) (with_presence first)

-- the lag of a frame, by the previous one
unfoldable pub detected : List Float → ℕ → ℕ → Detected
detected x len previous =
    let r = correlations x len in
    chosen (candidate_at x len (lag1 r)) (candidate_at x len (lag2 r previous))

-- a previous lag outside 17 to 114 counts as 17
abbrev pub lag_within : ℕ → ℕ
lag_within t = cond (leb 17 t && leb t 114) t 17
