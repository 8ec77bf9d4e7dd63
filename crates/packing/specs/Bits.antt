-- Bits, highest first: of a number, of bytes, and back.
use Rattle.std.specs.Prelude.{ℕ, zero, suc, ◌+◌, ◌/◌, ◌%◌, ◌^◌, Bool, true, false, cond, List, [], ◌∷◌, ◌++◌, eqb, length, take, drop}

-- the lowest `width` bits of n
unfoldable pub bits_of : ℕ → ℕ → List Bool
bits_of zero n = []
bits_of (suc width) n = eqb (n / 2 ^ width % 2) 1 ∷ bits_of width n

-- the number that bits are
unfoldable pub value_of : List Bool → ℕ
value_of [] = 0
value_of (b ∷ bits) = cond b (2 ^ length bits) 0 + value_of bits

-- the bits of bytes, one byte after the other
unfoldable pub bits_in : List ℕ → List Bool
unfolding bits_of
bits_in [] = []
bits_in (byte ∷ bytes) = bits_of 8 byte ++ bits_in bytes

-- so many bytes of bits, eight to a byte
unfoldable pub bytes_of : ℕ → List Bool → List ℕ
unfolding value_of
bytes_of zero bits = []
bytes_of (suc n) bits = value_of (take 8 bits) ∷ bytes_of n (drop 8 bits)

-- none of them is set
unfoldable pub clear : List Bool → Bool
clear [] = true
clear (b ∷ bits) = cond b false (clear bits)
