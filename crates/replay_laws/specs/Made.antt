-- What some lines leave, and the calls that they make of the decoder.
use Rattle.std.specs.Prelude.{ℕ, cond, List, [], ◌∷◌, Option, Result, Ok, Err}
use Rattle.judging.specs.declared.plan.Plan.{Plan}
use Rattle.settling_laws.specs.Calls.{Call}
use Rattle.lines.specs.Listings.{Rules}
use Rattle.lines.specs.declared.field.Malformed.{Malformed}
use Rattle.entries.specs.Lines.{line_read}
use Rattle.entries.specs.declared.line.Entry.{Entry}
use Rattle.replaying.specs.Steps.{follows}
use Rattle.replaying.specs.declared.frame.Columns.{Columns}
use Rattle.replay_listing.specs.ByMarks.{marks_rules_at}
use Rattle.replay_listing.specs.declared.machine.Replay.{Replay}
use Rattle.replay_laws.specs.Whole.{Setting, Between, call_of, moved_by}

-- what the replay without samples and coefficients keeps of all that
abbrev pub marks_of : Between → Replay
marks_of s = record { line = s.line; last = s.last; marks = s.decoder.registers.marks }

-- its rules, at the setting's rate and duration
abbrev pub marks_rules_of : Setting → Rules
marks_rules_of setting = marks_rules_at setting.rate setting.duration

-- the plan of a frame that its row shows
abbrev pub shown_plan : Setting → Columns → Plan
shown_plan setting c =
    record { config = setting.config; active = c.told.active; lag = c.told.lag; gain = c.told.gain; transition = c.told.transition }

module _ (setting : Setting) where
  -- a line that counts adds its call to those made before
  abbrev pub made_by : Option ℕ → Result Entry Malformed → List Call → List Call
  made_by last (Err e) calls = calls
  made_by last (Ok e) calls = cond (follows last e.frame) (call_of setting e.content ∷ calls) calls

  -- the calls of some lines, the latest first, after those that were made before
  unfoldable pub calls_of : Between → List (List ℕ) → List Call → List Call
  calls_of s [] calls = calls
  calls_of s (line ∷ rest) calls = calls_of (moved_by setting s (line_read line)) rest (made_by s.last (line_read line) calls)
