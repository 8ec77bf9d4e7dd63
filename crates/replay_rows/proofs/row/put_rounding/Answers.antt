-- `put_rounding` writes one cell: a dash, or the difference.
use native.Mathlib.Omega.{arith}
use mir.Syntax.{w32}
use mir.ValLaws.{to_z-of_z}
use Rattle.cells.proofs.Stores.{written}
use borrow.Author.Rules.{rules}
use Rattle.replay_rows.proofs.row.put_rounding.Goals as goal

pub returns-in-Some-clause-cell_written : goal.returns-in-Some-clause-cell_written
returns-in-Some-clause-cell_written c =
    let difference = rw (to_z-of_z w32 c.in-Some.difference (search rules)) at c.put_signed.ensures.cell_put in
    rw c.in-Some.is (written difference (omega arith))
