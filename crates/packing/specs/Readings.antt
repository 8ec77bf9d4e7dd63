-- A record read from the first of some bytes.
use Rattle.std.specs.Prelude.{ℕ, ◌+◌, ◌/◌, Bool, true, false, cond, List, [], ◌∷◌, ltb, length, take, drop, get_or, Ok, Err}
use Rattle.rates.specs.declared.answer.Refusal.{Refusal}
use Rattle.rates.specs.declared.answer.Refusal.TheVariants.{PaddingSet, TooFewBytes}
use Rattle.lag.specs.declared.pitch.PitchRecord.{PitchRecord}
use Rattle.lag.specs.declared.pitch.PitchRecord.TheVariants.{Absent, Present}
use Rattle.packing.specs.Bits.{bits_in, value_of, clear}
use Rattle.packing.specs.Form.{padding}
use Rattle.packing.specs.declared.read.Reading.{Reading}

-- a refused reading gives absent, with 0 bytes used
abbrev pub refused_reading : Refusal → Reading
refused_reading refusal = record { answer = Err refusal; pitch = Absent; used = 0 }

-- a record of the first n bits; 12 where one of those after them is set, up to the end of the byte
abbrev pub read_as : PitchRecord → ℕ → List Bool → Reading
read_as pitch n bits =
    cond (clear (take (padding n) (drop n bits))) (record { answer = Ok tt; pitch = pitch; used = (n + padding n) / 8 })
    (refused_reading PaddingSet)

-- after the bit of presence: one for active and nine for the index
abbrev pub present_from : List Bool → PitchRecord
present_from bits = Present (record { index = value_of (take 9 (drop 1 bits)); active = get_or bits 0 false })

-- 15 where the bits end early
unfoldable pub read_bits : List Bool → Reading
read_bits [] = refused_reading TooFewBytes
read_bits (false ∷ bits) = read_as Absent 1 (false ∷ bits)
read_bits (true ∷ bits) = cond (ltb (length bits) 10) (refused_reading TooFewBytes) (read_as (present_from bits) 11 (true ∷ bits))

unfoldable pub reading : List ℕ → Reading
reading bytes = read_bits (bits_in bytes)
