-- `put_shown` writes three cells, one after the other.
use native.Mathlib.Omega.{arith}
use mir.Syntax.{w32}
use mir.ValLaws.{to_z-of_z}
use Rattle.cells.proofs.Stores.{written, written_then}
use borrow.Author.Rules.{rules}
use Rattle.lag_rows.proofs.row.put_shown.Goals as goal

pub returns-in-Some-clause-cells_written : goal.returns-in-Some-clause-cells_written
returns-in-Some-clause-cells_written c =
    let rounding = rw (to_z-of_z w32 c.in-Some.rounded.rounding (search rules)) at c.put_signed.ensures.cell_put in
    rw c.in-Some.is
    (written_then
    (written_then (written c.put_cell-after_whole.ensures.cell_put (omega arith)) (written c.put_cell-after_quarter.ensures.cell_put (omega arith)))
    (written rounding (omega arith)))
