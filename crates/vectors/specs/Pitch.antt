-- A pitch record as vector files have it.
use Rattle.std.specs.Prelude.{ℕ, List, [], ◌∷◌, cond}
use Rattle.std.specs.Prelude.{Option, Some, None}
use Rattle.lag.specs.declared.pitch.PitchRecord.{PitchRecord}
use Rattle.lag.specs.declared.pitch.Present.{Present}
use Rattle.lag.specs.Sent.{sent_of}

-- three zeros where there is no pitch; otherwise 1, the index, and 1 where the active mark is set
abbrev pub sent_numbers : Option Present → List ℕ
sent_numbers None = 0 ∷ 0 ∷ 0 ∷ []
sent_numbers (Some p) = 1 ∷ p.index ∷ cond p.active 1 0 ∷ []

-- the numbers of a record
abbrev pub pitch_numbers : PitchRecord → List ℕ
pitch_numbers pitch = sent_numbers (sent_of pitch)
