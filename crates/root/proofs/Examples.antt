-- Some roots, computed by the definition: of 2, 0.25, the smallest subnormal and normal float, the largest float, -0.0 and -1. Assumes nothing.
use mathlib.Core.Path.{◌≡◌, refl}
use Prim.Native.Nat.{ℕ}
use lib.Ieee.{binary32, of_bits, to_bits}
use Rattle.root.specs.SquareRoot.{field_units, units, mid_square, root_square, past, last_passed, root_bits, root_of}
use Rattle.std.proofs.Common.{Some, None}

-- the float with the pattern b has the root with the pattern r
abbrev Gives : ℕ → ℕ → Type 0
Gives b r = root_of (of_bits binary32 b) ≡ Some (of_bits binary32 r)

some_roots :
    Gives 0x4000_0000 0x3fb5_04f3
    × Gives 0x3e80_0000 0x3f00_0000
    × Gives 0x0000_0001 0x1a35_04f3
    × Gives 0x0080_0000 0x2000_0000
    × Gives 0x7f7f_ffff 0x5f7f_ffff
    × Gives 0x8000_0000 0x8000_0000
    × (root_of (of_bits binary32 0xbf80_0000) ≡ None)
unfolding field_units units mid_square root_square past last_passed root_bits root_of of_bits to_bits
some_roots = (refl, refl, refl, refl, refl, refl, refl)
