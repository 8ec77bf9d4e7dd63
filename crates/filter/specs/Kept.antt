-- A kept filter as the definitions have it, and what of a filter is used.
use Rattle.std.specs.Prelude.{ℕ, ◌+◌, ◌-◌, ◌/◌, List, Float, take}
use Rattle.coefficients.specs.Coefficients.{Filter, read_out}
use Rattle.filter.specs.declared.kept.KeptFilter.{KeptFilter}

-- the filter of that order and lag whose coefficients stand in the array
abbrev pub kept_as : KeptFilter → Filter
kept_as kept = read_out kept.l_den kept.lag kept.coefficients.now

-- the coefficients that a filter uses, and how far before an output the newest one lies that it is made of
abbrev pub used_num : Filter → List Float
used_num t = take (t.l_den - 1) t.c_num

abbrev pub used_den : Filter → List Float
used_den t = take (t.l_den + 1) t.c_den

abbrev pub nearest : Filter → ℕ
nearest t = t.lag - t.l_den / 2
