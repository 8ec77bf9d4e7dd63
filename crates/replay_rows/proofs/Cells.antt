-- A cell of a row.
use Prim.Native.Nat.{ℕ, ◌+◌, ◌≤◌}
use mathlib.Core.Path.{◌≡◌}
use mathlib.Core.List.{List}
use lib.ListN.{length}
use Rattle.cells.specs.Texts.{Put, Written, cell}
use Rattle.cells.proofs.Stores.{written}

-- a number's cell that fits, where the number is what a definition says
pub cell_written : (end : ℕ) {l m : List ℕ} {i j n k : ℕ} → n ≡ k → Put 21 l i (cell n end) m j → i + 21 ≤ length l → Written l i (cell k end) m j
cell_written end e p h = rw (← e) (written p h)
