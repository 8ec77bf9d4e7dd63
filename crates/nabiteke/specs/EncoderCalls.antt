-- The encoder's calls from C: what each answers and leaves in the arrays, by the encoder's own definitions.
use Rattle.std.specs.Prelude.{ℕ, ◌≤◌, ◌≡◌, Bool, List, [], ◌∷◌, ℤ, Float}
use Rattle.call_laws.specs.Engine as engine
use Rattle.call_laws.specs.Engine.{Engine}
use Rattle.rates.specs.Answers.{number_of}
use Rattle.encoder.specs.State.{started}
use Rattle.encoder.specs.Calls.{Given, Call, start, frame, framed_with, Reply, to_start, to_frame}
use Rattle.encoder.specs.declared.frame.Framed.{Framed}
use Rattle.c_arrays.specs.Words.{is_yes, as_flag, where_done}
use Rattle.c_arrays.specs.Pitch.{record_of}
use Rattle.c_encoder.specs.State.{EncoderArrays, read_encoder, written_encoder}

-- what a frame call is given beside the arrays
abbrev pub given : List Float → List Float → List Float → List ℤ → ℕ → ℕ → Given
given resampling correlation signal samples nbits near = record {
  resampling = resampling;
  correlation = correlation;
  signal = signal;
  samples = samples;
  nbits = nbits;
  near = is_yes near;
}

-- a start writes the state that it gives, refused or not
unfoldable pub start_call : ℕ → ℕ → ℕ × EncoderArrays
start_call rate duration = (number_of (started rate duration).answer, written_encoder (started rate duration).encoder)

-- what C gets of a frame's result: the answer, the arrays, where the next state is written if it is done, and the record
abbrev pub handed : EncoderArrays → Framed → ℕ × EncoderArrays × List ℕ
handed a r = (number_of r.answer, where_done r.answer (written_encoder r.encoder) a, record_of r.pitch r.nbits_ltpf)

unfoldable pub frame_call : EncoderArrays → Given → ℕ × EncoderArrays × List ℕ
frame_call a f = handed a (framed_with (read_encoder a) f)

-- a reply of the encoder, as C gets it: the number of the answer, and a frame's record
abbrev pub shown : Reply → ℕ × List ℕ
shown (to_start a) = (number_of a, [])
shown (to_frame a pitch bits) = (number_of a, record_of pitch bits)

-- Calls one after the other.
-- the arrays after a call, and the numbers that C gets
abbrev pub arrays_after : EncoderArrays → Call → EncoderArrays
arrays_after a (start rate duration) = (start_call rate duration).1
arrays_after a (frame f) = (frame_call a f).1

abbrev pub answered : EncoderArrays → Call → ℕ × List ℕ
answered a (start rate duration) = ((start_call rate duration).0, [])
answered a (frame f) = ((frame_call a f).0, (frame_call a f).2)

abbrev pub in_arrays : Engine EncoderArrays Call (ℕ × List ℕ)
in_arrays = record { after = arrays_after; reply = answered }

-- after all of the calls, and what each of them gave
abbrev pub arrays_after_all : EncoderArrays → List Call → EncoderArrays
arrays_after_all = engine.after_all in_arrays

abbrev pub answered_all : EncoderArrays → List Call → List (ℕ × List ℕ)
answered_all = engine.replies in_arrays

-- what a frame call can answer and write into its record: refused, no pitch, or a pitch that a decoder takes
pub data Recorded : ℕ → List ℕ → Type 0 where
  refused : (answer : ℕ) → (answer ≡ 0 → ⊥) → Recorded answer (0 ∷ 0 ∷ 0 ∷ 0 ∷ [])
  absent : Recorded 0 (0 ∷ 0 ∷ 0 ∷ 1 ∷ [])
  present : (index : ℕ) (active : Bool) → index ≤ 511 → Recorded 0 (1 ∷ index ∷ as_flag active ∷ 11 ∷ [])
