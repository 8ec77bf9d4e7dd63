-- Whether the long-term post filter is activated. x is the signal at 12.8 kHz, entry start the delayed frame's first sample, len the frame's length, a lag has
-- whole samples and f quarters, and h is the signal's interpolation table. Definitions only.
use Rattle.std.specs.Prelude.{ℕ, zero, suc, ◌+◌, ◌-◌, Bool, false, cond, not, ◌&&◌, ◌||◌, List, ℤ, pos, neg_ℤ, Float, Option, Some, None}
use Rattle.std.specs.Float.{nan, inf, fin}
use Rattle.std.specs.Float.Ieee.{lt, neg}
use Rattle.floats.specs.Single.{◌⊕◌, ◌⊖◌, ◌⊗◌, ◌⊘◌, 0·0, decimal, float, at}
use Rattle.root.specs.SquareRoot.{root_of}
use Rattle.lanes.specs.Sums.{product_sum}
use Rattle.found.specs.Taps.{turn, offset, inside, moved, plus}
use Rattle.found.specs.declared.activation.NcSums.{NcSums}
use Rattle.found.specs.declared.activation.Memory.{Memory}
use Rattle.found.specs.declared.activation.Activation.{Activation}

-- the signal at entry i, interpolated at d quarters: the sum over the first j of the taps k = -2 to 2
unfoldable pub dotted : List Float → ℕ → ℤ → List Float → ℕ → Float
dotted x i d h zero = 0·0
dotted x i d h (suc j) =
    plus (inside (pos 8) (offset (turn 2 j) d)) (dotted x i d h j) (at x (moved i (neg_ℤ (turn 2 j))) ⊗ at h (moved 7 (offset (turn 2 j) d)))

-- the delayed frame's sample n
abbrev pub no_delay : List Float → ℕ → List Float → ℕ → Float
no_delay x start h n = dotted x (start + n) (pos 0) h 5

-- the sample that lies a lag before it
abbrev pub shifted : List Float → ℕ → ℕ → ℕ → List Float → ℕ → Float
shifted x start whole f h n = dotted x (start + n - whole) (pos f) h 5

-- a quotient by a root above 0.0; any other root, and none, gives 0.0
abbrev pub over_positive : Float → Option Float → Float
over_positive num None = 0·0
over_positive num (Some v) = cond (lt 0·0 v) (num ⊘ v) 0·0

-- the sums of the two signals' products over the frame
abbrev pub sums_of : (ℕ → Float) → (ℕ → Float) → ℕ → NcSums
sums_of a b len = record { nc_numerator = product_sum a b len; no_delay_total = product_sum a a len; shifted_total = product_sum b b len }

-- the normalised correlation
abbrev pub nc_of : NcSums → Float
nc_of s = over_positive s.nc_numerator (root_of (s.no_delay_total ⊗ s.shifted_total))

-- the lag as one number
abbrev pub pitch_of : ℕ → ℕ → Float
pitch_of whole f = float whole ⊕ float f ⊘ float 4

-- a float without its sign
abbrev pub magnitude : Float → Float
magnitude nan = nan
magnitude (inf s) = inf false
magnitude (fin s m e) = fin false m e

-- an inactive filter starts where the last correlations and this one are high; at 10 ms one less is asked
unfoldable pub starts : Memory → Float → Bool → Bool
starts memory nc ten_ms = (ten_ms || lt (decimal 94 2) memory.mem_mem_nc) && (lt (decimal 94 2) memory.mem_nc && lt (decimal 94 2) nc)

-- an active one stays where the correlation is high, or where neither the lag nor the correlation has changed much
unfoldable pub stays : Memory → Float → Float → Bool
stays memory nc pitch =
    lt (decimal 9 1) nc
    || (lt (magnitude (pitch ⊖ memory.mem_pitch)) (float 2) && (lt (neg (decimal 1 1)) (nc ⊖ memory.mem_nc) && lt (decimal 84 2) nc))

-- active only where the gain is on and the signal does not reach near the Nyquist frequency
unfoldable pub active_of : Memory → Bool → Bool → Bool → Float → Float → Bool
active_of memory gain_on near_nyquist ten_ms nc pitch = (gain_on && not near_nyquist) && cond memory.mem_ltpf_active (stays memory nc pitch) (starts memory nc ten_ms)

-- the activation, with the correlation and the lag that the next frame remembers
unfoldable pub activation : List Float → ℕ → ℕ → ℕ → ℕ → List Float → Memory → Bool → Bool → Bool → Activation
activation x start len whole f h memory gain_on near_nyquist ten_ms =
    let nc = nc_of (sums_of (no_delay x start h) (shifted x start whole f h) len) in
    record { active = active_of memory gain_on near_nyquist ten_ms nc (pitch_of whole f); nc = nc; pitch = pitch_of whole f }
