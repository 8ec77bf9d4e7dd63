-- `put_row` writes the cells of a row, one after the other.
use native.Mathlib.Omega.{arith}
use Rattle.cells.proofs.Stores.{written, written_then, put_written}
use Rattle.replay_rows.proofs.row.put_row.Goals as goal

pub returns-clause-row_put : goal.returns-clause-row_put
returns-clause-row_put c =
    put_written (omega arith) (rw (← c.number.ensures)
    (written_then (written_then (written c.put_cell-after_line.ensures.cell_put (omega arith)) c.put_shown-after_shown.ensures.cells_written)
    (written c.put_cell.ensures.cell_put (omega arith))))
