-- How many of the pairs of bytes pass a test.
use Rattle.lag.specs.declared.pitch.Present.{Present}
use Rattle.std.specs.Prelude.{ℕ, zero, suc, ◌+◌, Bool, true, false, cond, not, ◌&&◌, List, [], ◌∷◌, eqb, Option, Some, None}
use Rattle.rates.specs.Answers.{number_of}
use Rattle.lag.specs.Sent.{sent_of}
use Rattle.packing.specs.declared.read.Reading.{Reading}

-- f 0 + f 1 + .. + f (n − 1)
unfoldable pub sum_below : ℕ → (ℕ → ℕ) → ℕ
sum_below zero f = 0
sum_below (suc n) f = f n + sum_below n f

-- how many of the 65,536 pairs of bytes pass
abbrev pub pairs_with : (List ℕ → Bool) → ℕ
pairs_with test = sum_below 256 (λ (a : ℕ). sum_below 256 (λ (b : ℕ). cond (test (a ∷ b ∷ [])) 1 0))

abbrev pub is_present : Option Present → Bool
is_present None = false
is_present (Some p) = true

-- read as a present record, and as an absent one
abbrev pub as_present : Reading → Bool
as_present r = eqb (number_of r.answer) 0 && is_present (sent_of r.pitch)

abbrev pub as_absent : Reading → Bool
as_absent r = eqb (number_of r.answer) 0 && not (is_present (sent_of r.pitch))
