-- The high-pass at 50 Hz, with the constants and the order of the Rust's encoder file.
use Rattle.std.specs.Prelude.{ℕ, zero, suc, List, Float}
use Rattle.std.specs.Float.Ieee.{neg}
use Rattle.floats.specs.Single.{◌⊕◌, ◌⊖◌, ◌⊗◌, decimal}
use Rattle.lanes.specs.Sums.{window}
use Rattle.slices.specs.Written.{written}
use Rattle.signals.specs.declared.highpass.HighPass.{HighPass}

-- what the filter remembers of a sample x
abbrev pub h50 : HighPass → Float → Float
h50 h x = x ⊖ neg (decimal 19652933726226904 16) ⊗ h.h50_minus1 ⊖ decimal 9658854605688177 16 ⊗ h.h50_minus2

-- the two memories once x has passed
abbrev pub remembered : HighPass → Float → HighPass
remembered h x = record { h50_minus1 = h50 h x; h50_minus2 = h.h50_minus1 }

-- what the filter gives for x
abbrev pub filtered : HighPass → Float → Float
filtered h x =
    decimal 9827947082978771 16 ⊗ h50 h x ⊕ neg (decimal 1965589416595754 15) ⊗ h.h50_minus1
    ⊕ decimal 9827947082978771 16 ⊗ h.h50_minus2

-- the memories after the samples x 0, x 1, .., n of them
unfoldable pub memories : HighPass → (ℕ → Float) → ℕ → HighPass
memories h x zero = h
memories h x (suc n) = remembered (memories h x n) (x n)

-- output n for the samples x 0, x 1, ..
abbrev pub passed : HighPass → (ℕ → Float) → ℕ → Float
passed h x n = filtered (memories h x n) (x n)

-- the straight signal x at 12.8 kHz with its len new samples, from 276 on, filtered
unfoldable pub high_passed : HighPass → List Float → ℕ → List Float
high_passed h x len = written x 276 (passed h (window x 276)) len
