-- `put_columns` writes the cells of a frame, one after the other.
use native.Mathlib.Omega.{arith}
use mir.Val.{bool_byte}
use mathlib.Core.Path.{◌≡◌, refl, ◌∙◌}
use mathlib.Core.Bool.{Bool, true, false}
use Rattle.cells.proofs.Stores.{written_then}
use Rattle.replay_rows.proofs.Cells.{cell_written}
use Rattle.replay_rows.specs.Rows.{flag_number}
use Rattle.replay_rows.proofs.row.put_columns.Goals as goal

flag : (b : Bool) → bool_byte b ≡ flag_number b
flag false = refl
flag true = refl

pub returns-clause-cells_written : goal.returns-clause-cells_written
returns-clause-cells_written c =
    let settled : c.from.result ≡ flag_number c.args.columns.settled = c.from.ensures ∙ flag c.args.columns.settled in
    written_then
    (written_then
    (written_then
    (written_then (cell_written 9 c.case_number.ensures c.put_cell-after_case.ensures.cell_put (omega arith)) c.put_lag-after_lag.ensures.cells_written)
    c.put_gain-after_gain.ensures.cell_written)
    (cell_written 9 settled c.put_cell-after_settled.ensures.cell_put (omega arith)))
    c.put_rounding.ensures.cell_written
