-- What a frame is going to do, for a decoder with these registers, in C's numbers.
use Rattle.rates.specs.declared.answer.Refusal.{Refusal}
use Rattle.judging.specs.declared.plan.Plan.{Plan}
use Rattle.lag.specs.declared.gain.Gain.{Gain}
use Rattle.std.specs.Prelude.{Bool, true, false, ℤ, pos, Option, Some, None, Result, Ok, Err}
use Rattle.lag.specs.declared.pitch.PitchRecord.{PitchRecord}
use Rattle.judging.specs.declared.plan.SideInfo.{SideInfo}
use Rattle.telling.specs.Told.{case_number, judged_fitted, told_of}
use Rattle.telling.specs.declared.told.Told.{Told}
use Rattle.on_ring.specs.Registers.{fit_ring}
use Rattle.on_ring.specs.declared.registers.Registers.{Registers}
use Rattle.c_telling.specs.declared.told.RowForC.{RowForC}
use Rattle.c_telling.specs.declared.told.ToldForC.{ToldForC}

-- no row, and so for a frame that is not active, or whose gain is off
abbrev pub no_row : RowForC
no_row = record { on = false; row = 0 }

abbrev pub row_told : Bool → Option Gain → RowForC
row_told false gain = no_row
row_told true None = no_row
row_told true (Some g) = record { on = true; row = g.row }

-- no lag, rounding 0
abbrev pub rounding_number : Option ℤ → ℤ
rounding_number None = pos 0
rounding_number (Some d) = d

-- a refused frame gives zeros
abbrev pub told_refused : Refusal → ToldForC
told_refused refusal =
    record { answer = Err refusal; transition = 0; active = false; whole = 0; quarter = 0; rounding = pos 0; gain = no_row }

abbrev pub told_done : Told → ToldForC
told_done t = record {
  answer = Ok tt;
  transition = case_number t.transition;
  active = t.active;
  whole = t.lag.whole;
  quarter = t.lag.quarter;
  rounding = rounding_number t.rounding;
  gain = row_told t.active t.gain;
}

-- by the verdict
abbrev pub told_by : PitchRecord → Result Plan Refusal → ToldForC
told_by pitch (Err refusal) = told_refused refusal
told_by pitch (Ok plan) = told_done (told_of plan pitch)

-- 9, 6 and 7, or what the frame is going to do
unfoldable pub told_for : Registers → SideInfo → ToldForC
told_for r side = told_by side.pitch (judged_fitted r.marks side (fit_ring r))
