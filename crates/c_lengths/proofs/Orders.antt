-- The order of a rate's filters is 2 to 12.
use Prim.Native.Nat.{ℕ, ◌≤◌}
use mathlib.Core.Path.{◌≡◌}
use Rattle.std.proofs.Common.{Some}
use Rattle.rates.specs.Table.{row_of}
use Rattle.rates.specs.declared.table.Rate.{Rate}
use Rattle.rates.proofs.Rows.{bound_at}

pub order : (hz : ℕ) (row : Rate) → row_of hz ≡ Some row → (2 ≤ row.l_den) × (row.l_den ≤ 12)
order hz row found = (bound_at (λ _. 2) (λ r. r.l_den) tt hz row found, bound_at (λ r. r.l_den) (λ _. 12) tt hz row found)
