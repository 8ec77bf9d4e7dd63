-- A frame and a loss mark as far as their row goes: the verdict, the marks and the report. Samples and coefficients decide none of these.
use Rattle.rates.specs.declared.answer.Refusal.{Refusal}
use Rattle.rates.specs.declared.config.Lc3Config.{Lc3Config}
use Rattle.std.specs.Prelude.{Bool, Option, Some, None, Result, Ok, Err}
use Rattle.rates.specs.Answers.{Answer}
use Rattle.lag.specs.declared.pitch.PitchRecord.{PitchRecord}
use Rattle.control.specs.State.{fit_config}
use Rattle.control.specs.Next.{next_marks, unsettled}
use Rattle.control.specs.declared.marks.Marks.{Marks}
use Rattle.judging.specs.declared.plan.SideInfo.{SideInfo}
use Rattle.judging.specs.declared.plan.Plan.{Plan}
use Rattle.telling.specs.Told.{judged_fitted, told_of}
use Rattle.replaying.specs.declared.frame.Columns.{Columns}
use Rattle.replaying.specs.declared.frame.Played.{Played}

-- a row is a refusal, or shows the columns of a frame, or none
abbrev pub Row : Type 0
Row = Result (Option Columns) Refusal

-- the row of an answer that shows this where it is no refusal
abbrev pub answered_row : Answer → Option Columns → Row
answered_row (Ok done) shown = Ok shown
answered_row (Err refusal) shown = Err refusal

-- what a row shows, and its answer
abbrev pub shown_of : Row → Option Columns
shown_of (Ok shown) = shown
shown_of (Err refusal) = None

abbrev pub answer_of : Row → Answer
answer_of (Ok shown) = Ok tt
answer_of (Err refusal) = Err refusal

-- a refused line shows dashes, and so does a lost line, whose answer is 0
abbrev pub dashed_row : Answer → Row
dashed_row answer = answered_row answer None

-- what an accepted frame shows: what its plan tells, and the settled report
abbrev pub columns_of : Plan → PitchRecord → Bool → Columns
columns_of plan pitch settled = record { told = told_of plan pitch; settled = settled }

-- the verdict of the decoder, where set and samples are good
unfoldable pub judged_marks : Marks → SideInfo → Result Plan Refusal
judged_marks r side = judged_fitted r side (fit_config r)

abbrev pub accepted_as : Plan → PitchRecord → Marks → Played
accepted_as plan pitch next =
    record { marks = next; row = answered_row (Ok tt) (Some (columns_of plan pitch next.settled)) }

-- a refused frame changes nothing; an accepted one moves the marks on
abbrev pub played_by : Marks → PitchRecord → Result Plan Refusal → Played
played_by r pitch (Err refusal) = record { marks = r; row = dashed_row (Err refusal) }
played_by r pitch (Ok plan) = accepted_as plan pitch (next_marks r plan.active plan.lag)

-- a loss mark checks 9 only
abbrev pub lost_with : Marks → Result Lc3Config Refusal → Played
lost_with r (Err refusal) = record { marks = r; row = dashed_row (Err refusal) }
lost_with r (Ok c) = record { marks = unsettled r; row = dashed_row (Ok tt) }

unfoldable pub lost_marks : Marks → Played
lost_marks r = lost_with r (fit_config r)

abbrev pub replayed_content : Marks → Option SideInfo → Played
replayed_content r None = lost_marks r
replayed_content r (Some side) = played_by r side.pitch (judged_marks r side)
