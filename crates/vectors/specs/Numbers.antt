-- The numbers that bytes stand for, lowest byte first.
use Rattle.std.specs.Prelude.{ℕ, ◌+◌, ◌*◌, ◌-◌, cond, List, ltb, Float, ℤ, pos, negsuc, get_or}
use Rattle.std.specs.Float.{binary32}
use Rattle.std.specs.Float.Ieee.{of_bits}

-- two bytes
abbrev pub two : ℕ → ℕ → ℕ
two a b = a + 256 * b

-- four bytes
abbrev pub four : ℕ → ℕ → ℕ → ℕ → ℕ
four a b c d = two a b + 65536 * two c d

-- 16 bits as a signed number: from 32768 on they count up to -1. (negsuc n is -1 - n.)
unfoldable pub signed : ℕ → ℤ
signed n = cond (ltb n 32768) (pos n) (negsuc (65535 - n))

-- the float at place k of a part of floats
abbrev pub float_at : List ℕ → ℕ → Float
float_at bytes k = of_bits binary32 (four (get_or bytes (4 * k) 0) (get_or bytes (4 * k + 1) 0) (get_or bytes (4 * k + 2) 0) (get_or bytes (4 * k + 3) 0))

-- the sample at place k of a part of signed samples
abbrev pub signed_at : List ℕ → ℕ → ℤ
signed_at bytes k = signed (two (get_or bytes (2 * k) 0) (get_or bytes (2 * k + 1) 0))
