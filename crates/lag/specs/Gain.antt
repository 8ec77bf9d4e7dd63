-- Bits to gain.
use Rattle.lag.specs.declared.gain.Gain.{Gain}
use Rattle.std.specs.Prelude.{ℕ, ◌+◌, ◌*◌, ◌/◌, Bool, false, cond, ltb, Float, Option, Some, None}
use Rattle.std.specs.Float.{binary32}
use Rattle.std.specs.Float.Ieee.{round}
use Rattle.rates.specs.declared.duration.FrameDuration.{FrameDuration}
use Rattle.rates.specs.declared.duration.FrameDuration.TheVariants.{TenMs, SevenPointFiveMs}

-- t, the bits of a frame scaled to 10 ms
unfoldable pub bits_of : FrameDuration → ℕ → ℕ
bits_of TenMs nbits = nbits
bits_of SevenPointFiveMs nbits = (4 * nbits + 1) / 3

-- n hundredths, rounded once to 32 bits
abbrev pub hundredths : ℕ → Float
hundredths n = round binary32 false n 100

-- a gain of so many hundredths, with its row
abbrev pub on : ℕ → ℕ → Option Gain
on n row = Some (record { gain = hundredths n; row = row })

-- the gain and its row, by fs_ind and t; none where it is off
unfoldable pub gain_of : ℕ → ℕ → Option Gain
gain_of i t =
    cond (ltb t (320 + 80 * i)) (on 40 0)
    (cond (ltb t (400 + 80 * i)) (on 35 1)
    (cond (ltb t (480 + 80 * i)) (on 30 2)
    (cond (ltb t (560 + 80 * i)) (on 25 3) None)))

-- the encoder may activate only below this
abbrev pub may_activate : ℕ → ℕ → Bool
may_activate i t = ltb t (560 + 80 * i)
