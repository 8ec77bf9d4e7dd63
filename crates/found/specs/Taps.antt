-- The taps of an interpolation: a table with four entries to a sample, read at a signed offset. Definitions only.
use Rattle.std.specs.Prelude.{ℕ, ◌+◌, ◌-◌, suc, Bool, true, false, ◌&&◌, ℤ, pos, negsuc, neg_ℤ, ◌-ℤ◌, ◌*ℤ◌, Float}
use Rattle.std.specs.Int.Signed.{lt_z}
use Rattle.floats.specs.Single.{◌⊕◌}

-- turn j of a loop that runs from -a
abbrev pub turn : ℕ → ℕ → ℤ
turn a j = pos j -ℤ pos a

-- the table's offset of tap m, for a fraction of d quarters
abbrev pub offset : ℤ → ℤ → ℤ
offset m d = pos 4 *ℤ m -ℤ d

-- strictly inside ± half
abbrev pub inside : ℤ → ℤ → Bool
inside half n = lt_z (neg_ℤ half) n && lt_z n half

-- the entry that lies z past i, or before it where z is negative
abbrev pub moved : ℕ → ℤ → ℕ
moved i (pos k) = i + k
moved i (negsuc k) = i - suc k

-- one more product, only where the table has an entry for it
abbrev pub plus : Bool → Float → Float → Float
plus true sum p = sum ⊕ p
plus false sum p = sum
