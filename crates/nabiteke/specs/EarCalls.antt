-- Both ears from C: what a frame of both answers and leaves in the arrays of each, by the definition of the frame; and calls one after the other.
use Rattle.std.specs.Prelude.{ℕ, ◌+◌, List, [], ◌∷◌, Float, get_or}
use Rattle.call_laws.specs.Engine as engine
use Rattle.call_laws.specs.Engine.{Engine}
use Rattle.rates.specs.Answers.{number_of}
use Rattle.lag.specs.declared.pitch.PitchRecord.{PitchRecord}
use Rattle.decoder.specs.declared.frame.Framed.{Framed}
use Rattle.settling_laws.specs.Calls as one
use Rattle.ears_laws.specs.Calls.{Headset, WhichEar, left_ear, right_ear, Given, Call, start, loss, frame, framed_both, samples_of, if_own}
use Rattle.ears_judging.specs.declared.ear.Ear.{Ear}
use Rattle.c_arrays.specs.Words.{where_done}
use Rattle.c_arrays.specs.Registers.{read_registers}
use Rattle.c_arrays.specs.Pitch.{pitch_from}
use Rattle.nabiteke.specs.DecoderArrays.{DecoderArrays, read_decoder, written_decoder}
use Rattle.nabiteke.specs.DecoderCalls.{settled_call, Seen, arrays_after, seen}

-- the arrays of both ears, and the states that they hold
pub record HeadsetArrays : Type 0 where
  pub left : DecoderArrays
  pub right : DecoderArrays

abbrev pub headset_arrays : DecoderArrays → DecoderArrays → HeadsetArrays
headset_arrays left right = record { left = left; right = right }

abbrev pub read_headset : HeadsetArrays → Headset
read_headset a = record { left = read_decoder a.left; right = read_decoder a.right }

-- what a frame call is given beside the arrays: its seven numbers are the left pitch's three, the right pitch's three, and nbits
abbrev pub pitch_at : List ℕ → ℕ → PitchRecord
pitch_at sides i = pitch_from (get_or sides i 0) (get_or sides (i + 1) 0) (get_or sides (i + 2) 0)

-- an ear, as a call reads it
abbrev pub ear_of : List ℕ → PitchRecord → Ear
ear_of numbers pitch = record { registers = read_registers numbers; pitch = pitch }

abbrev pub given_both : List Float → List Float → List ℕ → List Float → Given
given_both numerators denominators sides buffer = record {
  numerators = numerators;
  denominators = denominators;
  left_pitch = pitch_at sides 0;
  right_pitch = pitch_at sides 3;
  nbits = get_or sides 6 0;
  samples = buffer;
}

-- what C gets of a frame: both answers, the arrays of each ear, where its next state is written if it is done, and the buffer at exit
abbrev pub handed_both : HeadsetArrays → Framed × Framed × List Float → List ℕ × HeadsetArrays × List Float
handed_both a r = (
  number_of r.0.answer ∷ number_of r.1.answer ∷ [],
  headset_arrays (where_done r.0.answer (written_decoder r.0.decoder) a.left) (where_done r.1.answer (written_decoder r.1.decoder) a.right),
  r.2,
)

unfoldable pub both_call : HeadsetArrays → Given → List ℕ × HeadsetArrays × List Float
both_call a f = handed_both a (framed_both (read_headset a) f)

-- an ear's arrays, the arrays with others for one ear, and an ear's answer
abbrev pub arrays_of : WhichEar → HeadsetArrays → DecoderArrays
arrays_of left_ear a = a.left
arrays_of right_ear a = a.right

abbrev pub with_arrays : WhichEar → HeadsetArrays → DecoderArrays → HeadsetArrays
with_arrays left_ear a own = headset_arrays own a.right
with_arrays right_ear a own = headset_arrays a.left own

abbrev pub answer_to : WhichEar → List ℕ → ℕ
answer_to left_ear answers = get_or answers 0 0
answer_to right_ear answers = get_or answers 1 0

-- the arrays after a call: a start and a loss mark are those of one decoder, on the arrays of the ear
abbrev pub both_after : HeadsetArrays → Call → HeadsetArrays
both_after a (start e rate duration) = with_arrays e a (arrays_after (arrays_of e a) (one.start rate duration))
both_after a (loss e) = with_arrays e a (arrays_after (arrays_of e a) one.loss)
both_after a (frame f) = (both_call a f).1

-- what C sees of a call for one ear, if it is a call of that ear
abbrev pub seen_for : WhichEar → HeadsetArrays → Call → List Seen
seen_for e a (start which rate duration) = if_own e which (seen (arrays_of e a) (one.start rate duration))
seen_for e a (loss which) = if_own e which (seen (arrays_of e a) one.loss)
seen_for e a (frame f) = record {
  answer = answer_to e (both_call a f).0;
  settled = settled_call (arrays_of e (both_call a f).1);
  samples = samples_of e (both_call a f).2;
} ∷ []

-- Calls one after the other.
abbrev pub in_both : Engine HeadsetArrays Call (WhichEar → List Seen)
in_both = record { after = both_after; reply = λ a c e. seen_for e a c }

-- the arrays after all of the calls, and what C saw of each for one ear
abbrev pub both_after_all : HeadsetArrays → List Call → HeadsetArrays
both_after_all = engine.after_all in_both

abbrev pub all_seen_for : WhichEar → HeadsetArrays → List Call → List Seen
all_seen_for e = engine.some in_both (seen_for e)
