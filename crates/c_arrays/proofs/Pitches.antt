-- A pitch that was written reads back.
use Prim.Native.Nat.{ℕ}
use mathlib.Core.Path.{◌≡◌, refl, ap}
use mathlib.Core.Bool.{Bool}
use lib.ListN.{get_or}
use Rattle.lag.specs.declared.pitch.PitchRecord.{PitchRecord}
use Rattle.lag.specs.declared.pitch.PitchRecord.TheVariants.{Absent, Present}
use Rattle.c_arrays.specs.Pitch.{pitch_from, record_of}
use Rattle.c_arrays.proofs.Flags.{flag_back}

pub pitch_back : (pitch : PitchRecord) (size : ℕ) →
    pitch_from (get_or (record_of pitch size) 0 0) (get_or (record_of pitch size) 1 0) (get_or (record_of pitch size) 2 0) ≡ pitch
pitch_back Absent size = refl
pitch_back (Present p) size = ap (λ (on : Bool). Present (record { index = p.index; active = on })) (flag_back p.active)
