-- The decoder's calls from C: what each answers and leaves in the arrays, by the decoder's own definitions.
use Rattle.std.specs.Prelude.{ℕ, List, [], Float}
use Rattle.call_laws.specs.Engine as engine
use Rattle.call_laws.specs.Engine.{Engine}
use Rattle.rates.specs.Answers.{number_of}
use Rattle.decoder.specs.State.{started}
use Rattle.decoder.specs.Frame.{lost_from}
use Rattle.decoder.specs.declared.frame.Framed.{Framed}
use Rattle.settling_laws.specs.Calls.{Given, Call, start, frame, loss, framed_by, Reply}
use Rattle.c_arrays.specs.Words.{as_flag, where_done}
use Rattle.c_arrays.specs.Pitch.{side_from}
use Rattle.c_arrays.specs.Registers.{numbers_of}
use Rattle.nabiteke.specs.DecoderArrays.{DecoderArrays, arrays, read_decoder, written_decoder}

-- what a frame call is given beside the arrays
abbrev pub given : List Float → List Float → ℕ → ℕ → ℕ → ℕ → List Float → Given
given numerators denominators present index active nbits samples = record {
  numerators = numerators;
  denominators = denominators;
  side = side_from present index active nbits;
  samples = samples;
}

-- a start writes the state that it gives, refused or not
unfoldable pub start_call : ℕ → ℕ → ℕ × DecoderArrays
start_call rate duration = (number_of (started rate duration).answer, written_decoder (started rate duration).decoder)

-- what C gets of a frame's result: the answer, the arrays, where the next state is written if it is done, and the samples at exit
abbrev pub handed : DecoderArrays → Framed × List Float → ℕ × DecoderArrays × List Float
handed a r = (number_of r.0.answer, where_done r.0.answer (written_decoder r.0.decoder) a, r.1)

unfoldable pub frame_call : DecoderArrays → Given → ℕ × DecoderArrays × List Float
frame_call a f = handed a (framed_by (read_decoder a) f)

-- a loss mark writes numbers only
abbrev pub handed_numbers : DecoderArrays → Framed → ℕ × DecoderArrays
handed_numbers a r = (
  number_of r.answer,
  arrays (where_done r.answer (numbers_of r.decoder.registers) a.numbers) a.kept a.inputs a.outputs,
)

unfoldable pub lost_call : DecoderArrays → ℕ × DecoderArrays
lost_call a = handed_numbers a (lost_from (read_decoder a))

-- the settled report
unfoldable pub settled_call : DecoderArrays → ℕ
settled_call a = as_flag (read_decoder a).registers.marks.settled

-- What C sees of a call: its answer, the settled report after it, and the samples at exit.
pub record Seen : Type 0 where
  pub answer : ℕ
  pub settled : ℕ
  pub samples : List Float

-- the arrays after a call
abbrev pub arrays_after : DecoderArrays → Call → DecoderArrays
arrays_after a (start rate duration) = (start_call rate duration).1
arrays_after a (frame f) = (frame_call a f).1
arrays_after a loss = (lost_call a).1

-- the numbers that C gets
abbrev pub answered : DecoderArrays → Call → ℕ × List Float
answered a (start rate duration) = ((start_call rate duration).0, [])
answered a (frame f) = ((frame_call a f).0, (frame_call a f).2)
answered a loss = ((lost_call a).0, [])

abbrev pub seen : DecoderArrays → Call → Seen
seen a c = record { answer = (answered a c).0; settled = settled_call (arrays_after a c); samples = (answered a c).1 }

-- a reply of the decoder, as C sees it
abbrev pub shown : Reply → Seen
shown r = record { answer = number_of r.answer; settled = as_flag r.settled; samples = r.samples }

-- Calls one after the other.
abbrev pub in_arrays : Engine DecoderArrays Call Seen
in_arrays = record { after = arrays_after; reply = seen }

-- the arrays after all of the calls, and what C saw of each
abbrev pub arrays_after_all : DecoderArrays → List Call → DecoderArrays
arrays_after_all = engine.after_all in_arrays

abbrev pub seen_all : DecoderArrays → List Call → List Seen
seen_all = engine.replies in_arrays
