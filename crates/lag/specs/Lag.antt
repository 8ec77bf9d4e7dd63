-- The lag, both ways: a pitch index as a lag at 12.8 kHz and at a rate, and a lag as an index.
use Rattle.lag.specs.declared.rescale.RoundedLag.{RoundedLag}
use Rattle.std.specs.Prelude.{ℕ, ◌+◌, ◌-◌, ◌*◌, ◌/◌, ◌%◌, cond, leb, ltb, ℤ, pos, ◌-ℤ◌, Option, Some, None}
use Rattle.rates.specs.declared.table.Rate.{Rate}
use Rattle.lag.specs.declared.rescale.Lag.{Lag}

-- q, the lag of an index in quarters of a sample at 12.8 kHz
unfoldable pub quarters : ℕ → ℕ
quarters index = cond (leb index 379) (index + 128) (cond (leb index 439) (2 * index - 252) (4 * index - 1132))

-- an index above 511 has no lag
abbrev pub unscaled_of : ℕ → Option ℕ
unscaled_of index = cond (leb index 511) (Some (quarters index)) None

-- the encoder's index of a whole lag and a fraction, once a negative fraction is carried
unfoldable pub index_of : ℕ → ℕ → ℕ
index_of whole fraction =
    cond (ltb whole 127) (4 * whole + fraction - 128)
    (cond (leb whole 156) (2 * whole + fraction / 2 + 126) (whole + 283))

-- q rescaled to R times 8000 Hz, in quarters, halves upward
unfoldable pub rescaled : ℕ → ℕ → ℕ
rescaled r q = (5 * r * q + 4) / 8

-- its whole part and its quarter
abbrev pub lag_of : ℕ → ℕ → Lag
lag_of r q = record { whole = rescaled r q / 4; quarter = rescaled r q % 4 }

-- the lag of an index at a rate, as a decoder keeps it
abbrev pub scaled_to : Rate → Option ℕ → Option Lag
scaled_to fs (Some q) = Some (lag_of fs.r q)
scaled_to fs None = None

abbrev pub found_lag : Rate → ℕ → Option Lag
found_lag fs index = scaled_to fs (unscaled_of index)

-- how it was rounded: the signed difference of eight times the rescaled quarters from 5·R·q
unfoldable pub rounding : ℕ → ℕ → ℤ
rounding r q = pos (8 * rescaled r q) -ℤ pos (5 * r * q)

-- the lag lookup: the lag of an index at a rate, and how it was rounded
abbrev pub rounded_to : Rate → Option ℕ → Option RoundedLag
rounded_to fs (Some q) = Some (record { lag = lag_of fs.r q; rounding = rounding fs.r q })
rounded_to fs None = None

abbrev pub looked_up_lag : Rate → ℕ → Option RoundedLag
looked_up_lag fs index = rounded_to fs (unscaled_of index)
