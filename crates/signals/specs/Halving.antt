-- The five-tap halving: the signal at 6.4 kHz, with the constants and the order of the Rust's encoder file.
use Rattle.std.specs.Prelude.{ℕ, ◌+◌, ◌-◌, ◌*◌, List, Float}
use Rattle.floats.specs.Single.{◌⊕◌, ◌⊗◌, decimal, at}

-- the five taps over the entries of x from first on
unfoldable pub five_taps : List Float → ℕ → Float
five_taps x first =
    decimal 1236796411180537 16 ⊗ at x first
    ⊕ decimal 2353512128364889 16 ⊗ at x (first + 1)
    ⊕ decimal 2819382920909148 16 ⊗ at x (first + 2)
    ⊕ decimal 2353512128364889 16 ⊗ at x (first + 3)
    ⊕ decimal 1236796411180537 16 ⊗ at x (first + 4)

-- sample m of the frame that starts at start: centred one entry before the frame's sample 2m
abbrev pub halved : List Float → ℕ → ℕ → Float
halved x start m = five_taps x (start - 3 + 2 * m)
