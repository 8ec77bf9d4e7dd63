-- `row_of` gives the first row of the rate: the rows passed so far have other rates.
use Prim.Native.Nat.{ℕ, ◌<◌, ◌+◌}
use mathlib.Core.Path.{◌≡◌, sym, ◌∙◌}
use native.Mathlib.Numerals.{add-one}
use native.Mathlib.Omega.{arith}
use borrow.Author.Tests.{eq-eqb, ne_eqb}
use lib.ListN.{drop, get_or}
use lib.Seq.{drop-cons}
use Rattle.rates.specs.Table.{rates, row, find}
use Rattle.rates.specs.declared.table.Rate.{Rate}
use Rattle.std.proofs.Common.{Some}
use Rattle.rates.proofs.table.row_of.Goals as goal

-- what a lookup past the rows would read; no lookup does
abbrev none : Rate
none = row 0 0 0 0 0 0 0 0

-- a row of the rate is found, and a row of another is passed over
found : (hz i : ℕ) → i < 6 → (get_or rates i none).hz ≡ hz → find hz (drop i rates) ≡ Some (get_or rates i none)
unfolding find
found hz i h e = rw (drop-cons rates i none, eq-eqb _ _ e)

passed : (hz i : ℕ) → i < 6 → ((get_or rates i none).hz ≡ hz → ⊥) → find hz (drop i rates) ≡ find hz (drop (i + 1) rates)
unfolding find
passed hz i h n = rw (drop-cons rates i none, ne_eqb _ _ n, add-one)

pub returns-then-row-hz : goal.returns-then-row-hz
returns-then-row-hz c = sym (c.loop-row.invariant ∙ found _ _ c.loop-row-test.true c.if-row-hz.true)

pub loop-row-preserved : goal.loop-row-preserved
loop-row-preserved c = c.loop-row.invariant ∙ passed _ _ c.loop-row-test.true c.if-row-hz.false

pub returns : goal.returns
unfolding find
returns c = let e : c.loop-row.row-index ≡ 6 = omega arith in sym (c.loop-row.invariant ∙ rw e)
