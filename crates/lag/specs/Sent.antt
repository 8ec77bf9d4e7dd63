-- What of a pitch record is sent.
use Rattle.lag.specs.declared.pitch.Present.{Present}
use Rattle.std.specs.Prelude.{Option, Some, None}
use Rattle.lag.specs.declared.pitch.PitchRecord.{PitchRecord}

-- nothing of an absent record; index and active mark of a present one
abbrev pub sent_of : PitchRecord → Option Present
sent_of PitchRecord.Absent = None
sent_of (PitchRecord.Present p) = Some p

-- the record that a receiver has of it
abbrev pub received_of : Option Present → PitchRecord
received_of None = PitchRecord.Absent
received_of (Some p) = PitchRecord.Present p
