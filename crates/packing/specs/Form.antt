-- The one form in bytes of what is sent of a pitch record.
use Rattle.lag.specs.declared.pitch.Present.{Present}
use Rattle.std.specs.Prelude.{ℕ, ◌-◌, ◌/◌, ◌%◌, Bool, true, false, List, [], ◌∷◌, ◌++◌, length, replicate, Option, Some, None}
use Rattle.packing.specs.Bits.{bits_of, bytes_of}

-- one bit for presence; if present, one for active and nine for the index
abbrev pub record_bits : Option Present → List Bool
record_bits None = false ∷ []
record_bits (Some p) = true ∷ p.active ∷ bits_of 9 p.index

-- how many bits are left, after n, to the end of the byte
abbrev pub padding : ℕ → ℕ
padding n = (8 - n % 8) % 8

-- then zero bits to the end of the byte
abbrev pub padded : List Bool → List Bool
padded bits = bits ++ replicate (padding (length bits)) false

unfoldable pub form : Option Present → List ℕ
form sent = bytes_of (length (padded (record_bits sent)) / 8) (padded (record_bits sent))
