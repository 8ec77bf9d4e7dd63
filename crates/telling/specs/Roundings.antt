-- How the lag of a frame was rounded.
use Rattle.lag.specs.declared.rescale.RoundedLag.{RoundedLag}
use Rattle.lag.specs.declared.pitch.Present.{Present}
use Rattle.std.specs.Prelude.{ℤ, cond, Option, Some, None}
use Rattle.rates.specs.declared.table.Rate.{Rate}
use Rattle.lag.specs.Lag.{looked_up_lag}
use Rattle.lag.specs.Sent.{sent_of}
use Rattle.lag.specs.declared.pitch.PitchRecord.{PitchRecord}

-- as the lag lookup says; no lag, no rounding
abbrev pub rounding_of : Option RoundedLag → Option ℤ
rounding_of (Some l) = Some l.rounding
rounding_of None = None

-- an absent or inactive pitch has no lag
abbrev pub sent_rounding : Rate → Option Present → Option ℤ
sent_rounding fs None = None
sent_rounding fs (Some p) = cond p.active (rounding_of (looked_up_lag fs p.index)) None

abbrev pub rounding_for : Rate → PitchRecord → Option ℤ
rounding_for fs pitch = sent_rounding fs (sent_of pitch)
