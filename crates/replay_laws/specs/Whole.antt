-- The replay of a recording, defined on the whole input as a list of bytes: each line that counts is a call of a fresh decoder with all samples
-- zero, and its row shows what that call did, and how the lag of its pitch was rounded.
use Rattle.std.specs.Prelude.{ℕ, ◌≡◌, Bool, true, false, cond, List, [], Float, replicate, Option, Some, None, Result, Ok, Err}
use Rattle.floats.specs.Single.{0·0}
use Rattle.rates.specs.Table.{row}
use Rattle.rates.specs.Configs.{config_of}
use Rattle.rates.specs.declared.answer.Refusal.TheVariants.{MalformedLine, WrongFrameNumber}
use Rattle.rates.specs.declared.duration.FrameDuration.TheVariants.{TenMs}
use Rattle.rates.specs.declared.config.Lc3Config.{Lc3Config}
use Rattle.rates.specs.declared.answer.Refusal.{Refusal}
use Rattle.lag.specs.declared.pitch.PitchRecord.{PitchRecord}
use Rattle.judging.specs.Judge.{set_counts, set_finite, judged}
use Rattle.judging.specs.declared.plan.SideInfo.{SideInfo}
use Rattle.judging.specs.declared.plan.Plan.{Plan}
use Rattle.decoder.specs.State.{started, fit_decoder}
use Rattle.decoder.specs.declared.state.Decoder.{Decoder}
use Rattle.settling_laws.specs.Calls.{Given, Call, frame, loss, after, reply}
use Rattle.lines.specs.Listings.{Rules, next_number, listing_of}
use Rattle.lines.specs.declared.field.Malformed.{Malformed}
use Rattle.entries.specs.Lines.{line_read}
use Rattle.entries.specs.declared.line.Entry.{Entry}
use Rattle.replaying.specs.Frames.{Row, answered_row, columns_of}
use Rattle.replaying.specs.declared.frame.Columns.{Columns}
use Rattle.replaying.specs.Steps.{follows}
use Rattle.replay_rows.specs.Rows.{row_text}
use Rattle.replay_listing.specs.ByMarks.{header}

-- what a replay is made with: a rate and a duration, the lengths that they fix, and a lent coefficient set
pub record Setting : Type 0 where
  pub rate : ℕ
  pub duration : ℕ
  pub config : Lc3Config
  pub numerators : List Float
  pub denominators : List Float

-- one that a decoder takes: the table has the rate and the duration, the set has their lengths, and each entry is finite
pub record Usable (setting : Setting) : Type 0 where
  pub known : config_of setting.rate setting.duration ≡ Ok setting.config
  pub counts : set_counts setting.config.fs.l_den setting.numerators setting.denominators ≡ true
  pub finite : set_finite setting.numerators setting.denominators ≡ true

-- the setting of the listing: 48000 Hz and 10 ms, with any set
abbrev pub at48000 : List Float → List Float → Setting
at48000 numerators denominators =
    record {
      rate = 48000;
      duration = 10000;
      config = record { fs = row 48000 4 6 480 360 4 12 120; n_ms = TenMs; nf = 480; history = 960 };
      numerators = numerators;
      denominators = denominators;
    }

-- between two lines: the number of the next one, the last frame that counted, and the decoder
pub record Between : Type 0 where
  pub line : ℕ
  pub last : Option ℕ
  pub decoder : Decoder

-- what a verdict shows: dashes, or the plan, the settled report, and how the lag of the frame's pitch was rounded
abbrev pub shown_by : Result Plan Refusal → PitchRecord → Bool → Option Columns
shown_by (Err refusal) pitch settled = None
shown_by (Ok plan) pitch settled = Some (columns_of plan pitch settled)

-- a line that is answered 10 or 11 leaves everything as it is
abbrev pub skipped_line : Between → Between
skipped_line s = record { line = next_number s.line; last = s.last; decoder = s.decoder }

module _ (setting : Setting) where
  -- before the first line: no frame has counted, and the decoder is fresh
  abbrev pub first : Between
  first = record { line = 1; last = None; decoder = (started setting.rate setting.duration).decoder }

  -- a frame of zeros
  abbrev pub zeros : List Float
  zeros = replicate setting.config.nf 0·0

  abbrev pub given : SideInfo → Given
  given side = record { numerators = setting.numerators; denominators = setting.denominators; side = side; samples = zeros }

  -- the call of a line that counts: a loss mark, or a frame
  abbrev pub call_of : Option SideInfo → Call
  call_of None = loss
  call_of (Some side) = frame (given side)

  -- what its row shows: nothing of a loss mark; of a frame the decoder's verdict on it, how its lag was rounded, and the report that the call gives
  abbrev pub shown_of : Decoder → Option SideInfo → Option Columns
  shown_of d None = None
  shown_of d (Some side) =
      shown_by (judged d.registers.marks (fit_decoder d) setting.numerators setting.denominators side zeros) side.pitch
      (reply d (frame (given side))).settled

  abbrev pub called_row : Decoder → Option SideInfo → Row
  called_row d content = answered_row (reply d (call_of content)).answer (shown_of d content)

  -- any other line counts, and the decoder is what its call leaves
  abbrev pub counted_line : Between → ℕ → Option SideInfo → Between
  counted_line s number content = record { line = next_number s.line; last = Some number; decoder = after s.decoder (call_of content) }

  -- 10, then 11, then what the call answers
  abbrev pub moved_by : Between → Result Entry Malformed → Between
  moved_by s (Err e) = skipped_line s
  moved_by s (Ok e) = cond (follows s.last e.frame) (counted_line s e.frame e.content) (skipped_line s)

  abbrev pub row_of : Between → Result Entry Malformed → Row
  row_of s (Err e) = Err MalformedLine
  row_of s (Ok e) = cond (follows s.last e.frame) (called_row s.decoder e.content) (Err WrongFrameNumber)

  abbrev pub replay_rules : Rules
  replay_rules =
      record {
        State = Between;
        header = header;
        first = first;
        moved = λ s line. moved_by s (line_read line);
        row = λ s line. row_text s.line (row_of s (line_read line));
        stops = λ s. false;
        closing = λ s. [];
        space = 169;
      }

  -- the header, and a row for each line
  abbrev pub replay : List ℕ → List ℕ
  replay input = listing_of replay_rules input
