-- Calls of an encoder one after the other, and what each gives back. Lists of them have the latest first.
use Rattle.std.specs.Prelude.{ℕ, Bool, true, false, List, ℤ, Float}
use Rattle.call_laws.specs.Engine as engine
use Rattle.call_laws.specs.Engine.{Engine}
use Rattle.rates.specs.Answers.{Answer}
use Rattle.lag.specs.declared.pitch.PitchRecord.{PitchRecord}
use Rattle.encoder.specs.State.{started}
use Rattle.encoder.specs.Frame.{framed}
use Rattle.encoder.specs.declared.frame.Framed.{Framed}
use Rattle.encoder.specs.declared.state.Encoder.{Encoder}

-- what a frame call is given, beside the state
pub record Given : Type 0 where
  pub resampling : List Float
  pub correlation : List Float
  pub signal : List Float
  pub samples : List ℤ
  pub nbits : ℕ
  pub near : Bool

-- a call: a start with a rate and a duration, or a frame
pub data Call : Type 0 where
  start : ℕ → ℕ → Call
  frame : Given → Call

abbrev pub framed_with : Encoder → Given → Framed
framed_with e f = framed e f.resampling f.correlation f.signal f.samples f.nbits f.near

-- what the caller sees: the answer, and of a frame its record and bits
pub data Reply : Type 0 where
  to_start : Answer → Reply
  to_frame : Answer → PitchRecord → ℕ → Reply

-- the state after a call, and what it replies
abbrev pub after : Encoder → Call → Encoder
after e (start rate duration) = (started rate duration).encoder
after e (frame f) = (framed_with e f).encoder

abbrev pub reply : Encoder → Call → Reply
reply e (start rate duration) = to_start (started rate duration).answer
reply e (frame f) = to_frame (framed_with e f).answer (framed_with e f).pitch (framed_with e f).nbits_ltpf

abbrev pub encoder : Engine Encoder Call Reply
encoder = record { after = after; reply = reply }

abbrev pub after_all : Encoder → List Call → Encoder
after_all = engine.after_all encoder

abbrev pub replies : Encoder → List Call → List Reply
replies = engine.replies encoder

-- frames alone
abbrev pub is_frame : Call → Bool
is_frame (start rate duration) = false
is_frame (frame f) = true

abbrev pub no_start : List Call → Bool
no_start = engine.all_of encoder is_frame
