-- What is received of what is sent.
use Rattle.lag.specs.declared.pitch.Present.{Present}
use Rattle.std.proofs.Common.{Option, Some, None}
use mathlib.Core.Path.{◌≡◌, refl}
use Rattle.lag.specs.Sent.{sent_of, received_of}
use Rattle.lag.specs.declared.pitch.PitchRecord.{PitchRecord}

-- what is received, sent again, is the same
pub sent_again : (s : Option Present) → sent_of (received_of s) ≡ s
sent_again None = refl
sent_again (Some p) = refl

-- a record is received as it was
pub received_as_sent : (pitch : PitchRecord) → received_of (sent_of pitch) ≡ pitch
received_as_sent PitchRecord.Absent = refl
received_as_sent (PitchRecord.Present p) = refl
