-- Calls of a decoder one after the other, what each gives back, and what each was to the decoder. Lists of them have the latest first.
use Rattle.std.specs.Prelude.{ℕ, ◌+◌, max, ◌≡◌, Bool, true, false, cond, List, [], ◌∷◌, leb, eqb, Float, length, Ok}
use Rattle.call_laws.specs.Engine as engine
use Rattle.call_laws.specs.Engine.{Engine}
use Rattle.rates.specs.Answers.{number_of, Answer}
use Rattle.rates.specs.declared.config.Lc3Config.{Lc3Config}
use Rattle.lag.specs.declared.pitch.PitchRecord.{PitchRecord}
use Rattle.judging.specs.Pitch.{is_active}
use Rattle.control.specs.State.{settled_limit}
use Rattle.judging.specs.declared.plan.SideInfo.{SideInfo}
use Rattle.decoder.specs.State.{started, fit_decoder}
use Rattle.decoder.specs.Frame.{framed, lost_from}
use Rattle.decoder.specs.declared.state.Decoder.{Decoder}
use Rattle.decoder.specs.declared.frame.Framed.{Framed}

-- what a frame call is given, beside the state
pub record Given : Type 0 where
  pub numerators : List Float
  pub denominators : List Float
  pub side : SideInfo
  pub samples : List Float

-- a call: a start with a rate and a duration, a frame, or a loss mark
pub data CallWith (Frame : Type 0) : Type 0 where
  start : ℕ → ℕ → CallWith Frame
  frame : Frame → CallWith Frame
  loss : CallWith Frame

-- what a frame gives back, with its samples at exit, and its pitch record and samples
pub record Frames (Frame : Type 0) : Type 0 where
  pub framed_by : Decoder → Frame → Framed × List Float
  pub pitch_of : Frame → PitchRecord
  pub samples_of : Frame → List Float

-- what the caller sees: the answer, the settled report and the samples at exit
pub record Reply : Type 0 where
  pub answer : Answer
  pub settled : Bool
  pub samples : List Float

abbrev pub reply_of : Framed × List Float → Reply
reply_of r = record { answer = r.0.answer; settled = r.0.settled; samples = r.1 }

-- What a call was: a start, refused or not, or a loss mark (no fit state refuses one); an accepted inactive frame, with its samples; an
-- accepted active frame; a refused frame.
pub data Event : Type 0 where
  restart : Event
  quiet : List Float → Event
  active : Event
  refusal : Event

-- a decoder that is given such frames: the state after a call, what it replies, and what it was
module _ {Frame : Type 0} (k : Frames Frame) where
  abbrev pub after_with : Decoder → CallWith Frame → Decoder
  after_with d (start rate duration) = (started rate duration).decoder
  after_with d (frame f) = (k.framed_by d f).0.decoder
  after_with d loss = (lost_from d).decoder

  abbrev pub reply_with : Decoder → CallWith Frame → Reply
  reply_with d (start rate duration) =
      record { answer = (started rate duration).answer; settled = (started rate duration).decoder.registers.marks.settled; samples = [] }
  reply_with d (frame f) = reply_of (k.framed_by d f)
  reply_with d loss = reply_of (lost_from d, [])

  abbrev pub event_with : Decoder → CallWith Frame → Event
  event_with d (start rate duration) = restart
  event_with d (frame f) =
      cond (eqb (number_of (k.framed_by d f).0.answer) 0) (cond (is_active (k.pitch_of f)) active (quiet (k.samples_of f))) refusal
  event_with d loss = restart

  abbrev pub decoder_with : Engine Decoder (CallWith Frame) Reply
  decoder_with = record { after = after_with; reply = reply_with }

-- a decoder by itself
abbrev pub framed_by : Decoder → Given → Framed × List Float
framed_by d f = framed d f.numerators f.denominators f.side f.samples

abbrev pub frames : Frames Given
frames = record { framed_by = framed_by; pitch_of = λ f. f.side.pitch; samples_of = λ f. f.samples }

abbrev pub Call : Type 0
Call = CallWith Given

abbrev pub after : Decoder → Call → Decoder
after = after_with frames

abbrev pub reply : Decoder → Call → Reply
reply = reply_with frames

abbrev pub event : Decoder → Call → Event
event = event_with frames

-- the state after all of the calls, what each of them replied, and what each was
abbrev pub after_all : Decoder → List Call → Decoder
after_all = engine.after_all (decoder_with frames)

abbrev pub replies : Decoder → List Call → List Reply
replies = engine.replies (decoder_with frames)

abbrev pub events : Decoder → List Call → List Event
events = engine.each (decoder_with frames) event

-- the state, and what the calls were, from a start
abbrev pub from_start : ℕ → ℕ → List Call → Decoder
from_start rate duration calls = after_all (started rate duration).decoder calls

abbrev pub events_from : ℕ → ℕ → List Call → List Event
events_from rate duration calls = events (started rate duration).decoder calls

-- the events since the last restart
abbrev pub since : List Event → List Event
since [] = []
since (restart ∷ es) = []
since (quiet s ∷ es) = quiet s ∷ since es
since (active ∷ es) = active ∷ since es
since (refusal ∷ es) = refusal ∷ since es

-- the inactive frames in a row up to the latest event: an active frame or a restart ends them, and a refused frame doesn't
abbrev pub row : List Event → ℕ
row [] = 0
row (restart ∷ es) = 0
row (quiet s ∷ es) = row es + 1
row (active ∷ es) = 0
row (refusal ∷ es) = row es

-- the most inactive frames in a row, up to any of the events
abbrev pub longest : List Event → ℕ
longest [] = 0
longest (e ∷ es) = max (row (e ∷ es)) (longest es)

-- the settled rule: since the last restart, the limit's number of inactive frames in a row has been reached
abbrev pub settled_by : List Event → Bool
settled_by es = leb settled_limit (longest (since es))

-- nothing but accepted inactive frames and refused frames
abbrev pub still : List Event → Bool
still [] = true
still (restart ∷ es) = false
still (quiet s ∷ es) = still es
still (active ∷ es) = false
still (refusal ∷ es) = still es

-- the samples of the accepted inactive frames
abbrev pub heard : List Event → List (List Float)
heard [] = []
heard (restart ∷ es) = heard es
heard (quiet s ∷ es) = s ∷ heard es
heard (active ∷ es) = heard es
heard (refusal ∷ es) = heard es

-- a fit state of a configuration; its rings are arrays of 1,080 samples
pub record FitState (c : Lc3Config) (d : Decoder) : Type 0 where
  pub found : fit_decoder d ≡ Ok c
  pub inputs : length d.x_hat_mem ≡ 1080
  pub outputs : length d.x_hat_ltpf_mem ≡ 1080

abbrev pub Fit : Decoder → Type 0
Fit d = (c : Lc3Config) × FitState c d

-- what calls were to each of two: nothing but accepted inactive frames and refused ones, the limit's number of inactive frames, and those with the same samples
pub record QuietAlike (left-events right-events : List Event) : Type 0 where
  pub left : still left-events ≡ true
  pub right : still right-events ≡ true
  pub same : heard left-events ≡ heard right-events
  pub many : length (heard left-events) ≡ settled_limit

-- Two decoders have accepted the limit's number of inactive frames in a row, with no start and no loss mark, each with refused frames of its own
-- in between, and the samples of those inactive frames were the same.
abbrev pub SettleAlike : Decoder → Decoder → List Call → List Call → Type 0
SettleAlike a b calls-a calls-b = QuietAlike (events a calls-a) (events b calls-b)
