-- The lengths that a caller asks for: of a frame, and of the coefficient arrays that a decoder is lent.
use Rattle.rates.specs.declared.answer.Refusal.{Refusal}
use Rattle.rates.specs.declared.config.Lc3Config.{Lc3Config}
use Rattle.rates.specs.declared.table.Rate.{Rate}
use Rattle.std.specs.Prelude.{ℕ, ◌+◌, ◌-◌, ◌*◌, Option, Some, None, Result, Ok, Err}
use Rattle.rates.specs.Table.{row_of}
use Rattle.rates.specs.Configs.{config_of}

-- the samples of a frame; 0 where the rate or the duration is refused
abbrev pub length_in : Result Lc3Config Refusal → ℕ
length_in (Ok found) = found.nf
length_in (Err answer) = 0

abbrev pub frame_length : ℕ → ℕ → ℕ
frame_length rate duration = length_in (config_of rate duration)

-- the entries of four rows, of l_den − 1 and of l_den + 1; 0 where there is no such rate
abbrev pub numerators_in : Option Rate → ℕ
numerators_in (Some found) = 4 * (found.l_den - 1)
numerators_in None = 0

abbrev pub numerator_count : ℕ → ℕ
numerator_count rate = numerators_in (row_of rate)

abbrev pub denominators_in : Option Rate → ℕ
denominators_in (Some found) = 4 * (found.l_den + 1)
denominators_in None = 0

abbrev pub denominator_count : ℕ → ℕ
denominator_count rate = denominators_in (row_of rate)
