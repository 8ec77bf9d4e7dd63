-- `put_lag` writes two cells, one after the other.
use native.Mathlib.Omega.{arith}
use Rattle.cells.proofs.Stores.{written, written_then}
use Rattle.replay_rows.proofs.row.put_lag.Goals as goal

pub returns-then-active-clause-cells_written : goal.returns-then-active-clause-cells_written
returns-then-active-clause-cells_written c =
    rw c.if-active.true
    (written_then (written c.put_cell-next.ensures.cell_put (omega arith)) (written c.put_cell.ensures.cell_put (omega arith)))
