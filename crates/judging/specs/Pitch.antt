-- What a frame's pitch record asks for, by what of it is sent.
use Rattle.lag.specs.declared.rescale.Lag.{Lag}
use Rattle.lag.specs.declared.pitch.Present.{Present}
use Rattle.std.specs.Prelude.{Bool, false, cond, Option, Some, None}
use Rattle.rates.specs.declared.table.Rate.{Rate}
use Rattle.lag.specs.Lag.{found_lag}
use Rattle.lag.specs.Sent.{sent_of}
use Rattle.lag.specs.declared.pitch.PitchRecord.{PitchRecord}
use Rattle.control.specs.State.{no_lag}

-- active is a present record with its active mark
abbrev pub active_in : Option Present → Bool
active_in None = false
active_in (Some p) = p.active

abbrev pub is_active : PitchRecord → Bool
is_active pitch = active_in (sent_of pitch)

-- the lag of a present index where the frame is active; an index above 511 is refused, active or not
abbrev pub lag_where : Bool → Option Lag → Option Lag
lag_where active None = None
lag_where active (Some l) = Some (cond active l no_lag)

-- an absent record has no index, and no lag
abbrev pub lag_in : Rate → Option Present → Option Lag
lag_in fs None = Some no_lag
lag_in fs (Some p) = lag_where p.active (found_lag fs p.index)

abbrev pub lag_for : Rate → PitchRecord → Option Lag
lag_for fs pitch = lag_in fs (sent_of pitch)
