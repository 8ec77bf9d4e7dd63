-- Side information as text: pitch, active and nbits, separated by tabs.
use Rattle.std.specs.Prelude.{ℕ, Bool, true, false, cond, List, leb, eqb, Option, Some, None, Result, Ok, Err}
use Rattle.lag.specs.declared.pitch.PitchRecord.TheVariants.{Absent, Present}
use Rattle.judging.specs.declared.plan.SideInfo.{SideInfo}
use Rattle.lines.specs.Fields.{has_tab, before_tab, after_tab, malformed, number_of, field_of}
use Rattle.lines.specs.declared.field.Malformed.{Malformed}

-- a dash for pitch is an absent pitch, and asks for active 0
abbrev pub side_with : Result (Option ℕ) Malformed → Bool → ℕ → Result SideInfo Malformed
side_with (Err e) active nbits = malformed
side_with (Ok (Some index)) active nbits = Ok (record { pitch = Present (record { index = index; active = active }); nbits = nbits })
side_with (Ok None) true nbits = malformed
side_with (Ok None) false nbits = Ok (record { pitch = Absent; nbits = nbits })

-- active is 0 or 1
abbrev pub side_of : Result (Option ℕ) Malformed → Result ℕ Malformed → Result ℕ Malformed → Result SideInfo Malformed
side_of pitch (Err e) nbits = malformed
side_of pitch (Ok mark) (Err e) = malformed
side_of pitch (Ok mark) (Ok nbits) = cond (leb mark 1) (side_with pitch (eqb mark 1) nbits) malformed

-- active has one digit, nbits has 1 to 9
unfoldable pub marks_read : Result (Option ℕ) Malformed → List ℕ → Result SideInfo Malformed
marks_read pitch s = cond (has_tab s) (side_of pitch (number_of 1 (before_tab s)) (number_of 9 (after_tab s))) malformed

-- pitch is a dash or an index of 1 to 9 digits
unfoldable pub side_read : List ℕ → Result SideInfo Malformed
side_read s = cond (has_tab s) (marks_read (field_of 9 (before_tab s)) (after_tab s)) malformed
