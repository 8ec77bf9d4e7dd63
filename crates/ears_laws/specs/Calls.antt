-- Calls of both ears one after the other, what they are to one ear, and what they give it. Lists of them have the latest first.
use Rattle.std.specs.Prelude.{ℕ, ◌≡◌, List, [], ◌∷◌, Float, length}
use Rattle.call_laws.specs.Engine as engine
use Rattle.call_laws.specs.Engine.{Engine}
use Rattle.lag.specs.declared.pitch.PitchRecord.{PitchRecord}
use Rattle.decoder.specs.declared.state.Decoder.{Decoder}
use Rattle.decoder.specs.declared.frame.Framed.{Framed}
use Rattle.interleave.specs.Turns.{lefts, rights}
use Rattle.ears_judging.specs.Judge.{Shared, shared_by}
use Rattle.ears.specs.Both.{ear_framed, both_framed}
use Rattle.settling_laws.specs.Calls as one

-- the states of the two ears
pub record Headset : Type 0 where
  pub left : Decoder
  pub right : Decoder

pub data WhichEar : Type 0 where
  left_ear : WhichEar
  right_ear : WhichEar

-- an ear's state
abbrev pub own : WhichEar → Headset → Decoder
own left_ear h = h.left
own right_ear h = h.right

-- the rings of a state are arrays of 1,080 samples
pub record Rings (d : Decoder) : Type 0 where
  pub inputs : length d.x_hat_mem ≡ 1080
  pub outputs : length d.x_hat_ltpf_mem ≡ 1080

abbrev pub Arrays : Headset → Type 0
Arrays h = Rings h.left × Rings h.right

-- what a frame of both ears is given, beside the states; the samples are the whole buffer
pub record Given : Type 0 where
  pub numerators : List Float
  pub denominators : List Float
  pub left_pitch : PitchRecord
  pub right_pitch : PitchRecord
  pub nbits : ℕ
  pub samples : List Float

-- a call: a start of one ear with a rate and a duration, a loss mark of one ear, or a frame of both
pub data Call : Type 0 where
  start : WhichEar → ℕ → ℕ → Call
  loss : WhichEar → Call
  frame : Given → Call

-- what a frame gives both ears, and the buffer at exit
abbrev pub framed_both : Headset → Given → Framed × Framed × List Float
framed_both h f = both_framed h.left h.right f.numerators f.denominators f.left_pitch f.right_pitch f.nbits f.samples

-- the states with another one for one ear
abbrev pub with_own : WhichEar → Headset → Decoder → Headset
with_own left_ear h d = record { left = d; right = h.right }
with_own right_ear h d = record { left = h.left; right = d }

-- the states after a call: a start and a loss mark are those of one decoder
abbrev pub after : Headset → Call → Headset
after h (start e rate duration) = with_own e h (one.after (own e h) (one.start rate duration))
after h (loss e) = with_own e h (one.after (own e h) one.loss)
after h (frame f) = record { left = (framed_both h f).0.decoder; right = (framed_both h f).1.decoder }

-- an ear's part of a buffer, of a frame, and of what a frame gives
abbrev pub samples_of : WhichEar → List Float → List Float
samples_of left_ear buffer = lefts buffer
samples_of right_ear buffer = rights buffer

abbrev pub pitch_of : WhichEar → Given → PitchRecord
pitch_of left_ear f = f.left_pitch
pitch_of right_ear f = f.right_pitch

abbrev pub part_of : WhichEar → Framed × Framed × List Float → Framed × List Float
part_of left_ear r = (r.0, lefts r.2)
part_of right_ear r = (r.1, rights r.2)

-- what a call of an ear gives one ear: nothing, if it is the other
abbrev pub if_own : {A : Type 0} → WhichEar → WhichEar → A → List A
if_own left_ear left_ear x = x ∷ []
if_own left_ear right_ear x = []
if_own right_ear left_ear x = []
if_own right_ear right_ear x = x ∷ []

-- the reply that an ear gets from a call, if any: the answer, the settled report, and its samples in the buffer at exit
abbrev pub reply_to : WhichEar → Headset → Call → List one.Reply
reply_to e h (start which rate duration) = if_own e which (one.reply (own e h) (one.start rate duration))
reply_to e h (loss which) = if_own e which (one.reply (own e h) one.loss)
reply_to e h (frame f) = one.reply_of (part_of e (framed_both h f)) ∷ []

abbrev pub headset : Engine Headset Call (WhichEar → List one.Reply)
headset = record { after = after; reply = λ h c e. reply_to e h c }

-- the states after all of the calls, and the replies that an ear got
abbrev pub after_all : Headset → List Call → Headset
after_all = engine.after_all headset

abbrev pub replies_to : WhichEar → Headset → List Call → List one.Reply
replies_to e = engine.some headset (reply_to e)

-- what a frame is to one ear: what the ears share, and the ear's own record and samples
pub record EarGiven : Type 0 where
  pub shared : Shared
  pub pitch : PitchRecord
  pub samples : List Float

-- what a call is to one ear
abbrev pub EarCall : Type 0
EarCall = one.CallWith EarGiven

abbrev pub given_to : WhichEar → Headset → Given → EarGiven
given_to e h f = record {
  shared = shared_by h.left.registers h.right.registers f.numerators f.denominators f.nbits f.samples;
  pitch = pitch_of e f;
  samples = samples_of e f.samples;
}

-- the other ear's start or loss mark is no call of this ear; what its state names then, later frames share
abbrev pub to_ear : WhichEar → Headset → Call → List EarCall
to_ear e h (start which rate duration) = if_own e which (one.start rate duration)
to_ear e h (loss which) = if_own e which one.loss
to_ear e h (frame f) = one.frame (given_to e h f) ∷ []

abbrev pub calls_of : WhichEar → Headset → List Call → List EarCall
calls_of e = engine.some headset (to_ear e)

-- an ear is a decoder that is given its part of the frames
abbrev pub ear_framed_by : Decoder → EarGiven → Framed × List Float
ear_framed_by d g = ear_framed g.shared d g.pitch g.samples

abbrev pub ear_frames : one.Frames EarGiven
ear_frames = record { framed_by = ear_framed_by; pitch_of = λ g. g.pitch; samples_of = λ g. g.samples }

abbrev pub ear : Engine Decoder EarCall one.Reply
ear = one.decoder_with ear_frames

abbrev pub ear_after_all : Decoder → List EarCall → Decoder
ear_after_all = engine.after_all ear

abbrev pub ear_replies : Decoder → List EarCall → List one.Reply
ear_replies = engine.replies ear

abbrev pub ear_events : Decoder → List EarCall → List one.Event
ear_events = engine.each ear (one.event_with ear_frames)

-- what calls of both ears were to one ear
abbrev pub events_to : WhichEar → Headset → List Call → List one.Event
events_to e h calls = ear_events (own e h) (calls_of e h calls)

-- The same ear of two headsets has accepted the limit's number of inactive frames in a row, with no start and no loss mark of its own, each with
-- refused frames of its own in between, and the ear's samples of those inactive frames were the same.
abbrev pub EarsSettleAlike : WhichEar → Headset → Headset → List Call → List Call → Type 0
EarsSettleAlike e a b calls-a calls-b = one.QuietAlike (events_to e a calls-a) (events_to e b calls-b)
