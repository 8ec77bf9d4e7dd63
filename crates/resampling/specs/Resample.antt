-- The resampler: the frame's samples at 12.8 kHz.
use Rattle.std.specs.Prelude.{ℕ, zero, suc, ◌+◌, ◌-◌, ◌*◌, ◌/◌, ◌%◌, Bool, cond, ◌&&◌, List, leb, ltb, eqb, Float, length}
use Rattle.floats.specs.Single.{◌⊕◌, ◌⊗◌, 0·0, float, at}
use Rattle.slices.specs.Written.{written}

-- Tap j has docs/SCOPE.md's k = j - 120/p, so j runs from 0 to 240/p, and p·k is p·j - 120, since p divides 120 (`step_divides`).
-- It is used where h = p·j - 120 - (15n mod p) lies strictly inside ±120.
abbrev pub used : ℕ → ℕ → ℕ → Bool
used p n j = ltb (15 * n % p) (p * j) && ltb (p * j) (240 + 15 * n % p)

-- the sample at floor(15n/p) + k - 120/p, where the frame's first stands at 60 of the straight signal x
abbrev pub sample : List Float → ℕ → ℕ → ℕ → Float
sample x p n j = at x (60 - 240 / p + 15 * n / p + j)

-- entry 119 + h of the set
abbrev pub entry : List Float → ℕ → ℕ → ℕ → Float
entry filter p n j = at filter (p * j - 15 * n % p - 1)

-- the sum of the first taps of output n; a tap that is not used adds nothing
unfoldable pub taps : List Float → List Float → ℕ → ℕ → ℕ → Float
taps x filter p n zero = 0·0
taps x filter p n (suc j) =
    cond (used p n j) (taps x filter p n j ⊕ sample x p n j ⊗ entry filter p n j) (taps x filter p n j)

-- p, or 12.0 at 8000, whose p is 24
abbrev pub scale : ℕ → Float
scale p = cond (eqb p 24) (float 12) (float p)

-- output n
unfoldable pub resampled : List Float → List Float → ℕ → ℕ → Float
resampled x filter p n = taps x filter p n (240 / p + 1) ⊗ scale p

-- the set has 239 entries, and p is a step of the table: from 4 to 24, and a divisor of 120
unfoldable pub usable : List Float → ℕ → Bool
usable filter p = eqb (length filter) 239 && leb 4 p && leb p 24 && eqb (p * (120 / p)) 120

-- the frame's outputs after 276 samples of history; where the set or the step is not usable, nothing is written
unfoldable pub resampled_into : List Float → List Float → List Float → ℕ → ℕ → List Float
resampled_into y x filter p len = cond (usable filter p) (written y 276 (resampled x filter p) len) y
