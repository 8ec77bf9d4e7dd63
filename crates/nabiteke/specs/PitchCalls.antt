-- A pitch packed into bytes and read back, from C.
use Rattle.std.specs.Prelude.{ℕ, List}
use Rattle.rates.specs.Answers.{number_of}
use Rattle.packing.specs.Writings.{writing}
use Rattle.packing.specs.Readings.{reading}
use Rattle.packing.specs.declared.read.Reading.{Reading}
use Rattle.packing.specs.declared.write.Writing.{Writing}
use Rattle.c_arrays.specs.Pitch.{pitch_from, record_of}

-- the number of the answer, the bytes, and how many of them were written
abbrev pub written_from : Writing × List ℕ → ℕ × List ℕ × ℕ
written_from (w, bytes) = (number_of w.answer, bytes, w.written)

abbrev pub write_call : ℕ → ℕ → ℕ → List ℕ → ℕ × List ℕ × ℕ
write_call present index active bytes = written_from (writing (pitch_from present index active) bytes)

-- the number of the answer, and the record with the bytes that it used
abbrev pub read_from : Reading → ℕ × List ℕ
read_from r = (number_of r.answer, record_of r.pitch r.used)

abbrev pub read_call : List ℕ → ℕ × List ℕ
read_call bytes = read_from (reading bytes)
