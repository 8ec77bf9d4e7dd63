-- `nabiteke_pitch_read_`: the reading, as numbers.
use native.Mathlib.Omega.{arith}
use Rattle.packing.proofs.ByBytes.{at_most_two}
use Rattle.nabiteke.proofs.pitch_calls.nabiteke_pitch_read_.Goals as goal

pub overflow_cast-reading : goal.overflow_cast-reading
overflow_cast-reading c = rw c.read_pitch-reading.ensures (omega (arith, at_most_two c.args.bytes.now))

pub returns : goal.returns
returns c = rw (c.answer_word.ensures, c.write_record.ensures, c.read_pitch-reading.ensures)
