-- A frame's pitch as the caller's numbers: what a call is given, and what it gives.
use Rattle.lag.specs.declared.pitch.Present.{Present}
use Rattle.std.specs.Prelude.{ℕ, cond, List, [], ◌∷◌, Option, Some, None}
use Rattle.lag.specs.Sent.{sent_of}
use Rattle.lag.specs.declared.pitch.PitchRecord.{PitchRecord}
use Rattle.judging.specs.declared.plan.SideInfo.{SideInfo}
use Rattle.c_arrays.specs.Words.{is_yes, as_flag}

-- a frame's pitch: where it is not present, the index and the active mark are not read
abbrev pub pitch_from : ℕ → ℕ → ℕ → PitchRecord
pitch_from present index active = cond (is_yes present) (PitchRecord.Present (record { index = index; active = is_yes active })) PitchRecord.Absent

-- and with it the frame's bits
unfoldable pub side_from : ℕ → ℕ → ℕ → ℕ → SideInfo
side_from present index active nbits = record { pitch = pitch_from present index active; nbits = nbits }

-- what is sent of a record: present, index, active, and its size in bits or in bytes
abbrev pub record_by : Option Present → ℕ → List ℕ
record_by None size = 0 ∷ 0 ∷ 0 ∷ size ∷ []
record_by (Some p) size = 1 ∷ p.index ∷ as_flag p.active ∷ size ∷ []

abbrev pub record_of : PitchRecord → ℕ → List ℕ
record_of pitch size = record_by (sent_of pitch) size
