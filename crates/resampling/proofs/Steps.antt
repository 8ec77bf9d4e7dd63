-- The resampler's step divides 120 at every rate, so that a tap j of the definitions is docs/SCOPE.md's k = j - 120/p, and every rate's step is usable.
use Rattle.std.proofs.Common.{Some}
use Prim.Native.Nat.{ℕ, ◌*◌, ◌/◌, ◌≤◌}
use mathlib.Core.Path.{◌≡◌}
use mathlib.Core.Bool.{Bool, true, false, ◌&&◌}
use mathlib.Core.List.{List}
use borrow.Author.Tests.{eq-eqb, ne_eqb, le-leb}
use lib.Dec.{eqb, leb, eqb→eq}
use lib.Ieee.{Float}
use lib.ListN.{length}
use Rattle.rates.specs.Table.{row_of}
use Rattle.rates.specs.declared.table.Rate.{Rate}
use Rattle.rates.proofs.Rows.{at_row, bound_at}
use Rattle.resampling.specs.Resample.{usable}

-- p·(j - 120/p) is p·j - 120, and the taps from -120/p to 120/p are 240/p + 1
pub step_divides : (hz : ℕ) (row : Rate) → row_of hz ≡ Some row → (row.p * (120 / row.p) ≡ 120) × (240 / row.p ≡ 2 * (120 / row.p))
step_divides hz row h = (
  eqb→eq _ _ (at_row (λ row. eqb (row.p * (120 / row.p)) 120) tt hz row h),
  eqb→eq _ _ (at_row (λ row. eqb (240 / row.p) (2 * (120 / row.p))) tt hz row h),
)

pub step_bounds : (hz : ℕ) (row : Rate) → row_of hz ≡ Some row → (4 ≤ row.p) × (row.p ≤ 24)
step_bounds hz row h = (bound_at (λ _. 4) (λ row. row.p) tt hz row h, bound_at (λ row. row.p) (λ _. 24) tt hz row h)

pub step_usable : (hz : ℕ) (row : Rate) (filter : List Float) → row_of hz ≡ Some row → length filter ≡ 239 → usable filter row.p ≡ true
unfolding usable
step_usable hz row filter h l =
    let b = step_bounds hz row h in
    rw (eq-eqb _ _ l, le-leb 4 _ b.0, le-leb _ 24 b.1, eq-eqb _ _ (step_divides hz row h).0)

-- a set that has not its length
pub unusable : (filter : List Float) (p : ℕ) → (length filter ≡ 239 → ⊥) → usable filter p ≡ false
unfolding usable
unusable filter p h = rw (ne_eqb (length filter) 239 h)

-- one that has it is usable where the step is
pub usable_by : (filter : List Float) (p : ℕ) (b : Bool) → length filter ≡ 239 → b ≡ (leb 4 p && leb p 24 && eqb (p * (120 / p)) 120) → usable filter p ≡ b
unfolding usable
usable_by filter p b l e = rw (eq-eqb (length filter) 239 l, e)
