-- `row_of` gives the first row of the rate: the rows passed so far have other rates.
use mathlib.Core.Path.{◌≡◌}
use lib.ListN.{drop}
use Rattle.rates.specs.Table.{rates, find, row_of}
use Rattle.rates.proofs.table.row_of.Given as goal

abbrev pub invariant-loop-row : goal.invariant-loop-row
invariant-loop-row l = row_of l.hz ≡ find l.hz (drop l.row-index rates)
