-- `finish` writes the row of a line that is held, if there is one.
use Rattle.std.proofs.Common.{◌≡◌, ℕ, ◌+◌, Bool, true, false, List, [], refl, sym, append-nil, arith}
use Rattle.std.specs.Prelude.{cond, length, leb}
use Rattle.cells.specs.Texts.{Put}
use Rattle.cells.proofs.Stores.{put_written, put_nothing}
use Rattle.lines.specs.Listings.{rules_of}
use Rattle.lines.proofs.Feeding.{last_none, last_some}
use Rattle.lines.proofs.machine.Listing.finish.Goals as goal
use Rattle.lines.proofs.machine.Listing.finish.Goals.{then-is_empty-via-then-is_empty, then-is_empty-via-else-is_empty+then-out-ROW}

-- to write nothing
same : {A : Type 0} (t : Bool) (x : A) → x ≡ cond t x x
same true x = refl
same false x = refl

put_empty : (space : ℕ) (l : List ℕ) → Put space l 0 [] l 0
put_empty space l = record { stored = same (leb (0 + space) (length l)) l; ends = same (leb (0 + space) (length l)) 0 }

pub returns-then-is_empty-clause-last_row_written : goal.returns-then-is_empty-clause-last_row_written
returns-then-is_empty-clause-last_row_written g c =
    let m = c.args.self in
    elim c.then-is_empty.branch [
      | then-is_empty-via-then-is_empty w ↦ rw (last_none (rules_of g.S.State.rows) m.known m.held (sym w.if-is_empty.ensures)) (put_empty _ _)
      | then-is_empty-via-else-is_empty+then-out-ROW w ↦ put_nothing _ _ _ _ (omega (arith, w.if-out-ROW.true, w.ROW.ensures))
    ]

pub returns-clause-last_row_written : goal.returns-clause-last_row_written
returns-clause-last_row_written g c =
    let m = c.args.self in
    rw (last_some (rules_of g.S.State.rows) m.known m.held (sym c.if-is_empty.ensures), append-nil, ← c.line.ensures)
    (put_written (omega (arith, c.if-out-ROW.false, c.ROW.ensures)) c.put_line.ensures.row_written)
