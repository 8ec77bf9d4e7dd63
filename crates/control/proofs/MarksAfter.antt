-- ONE CALL AND ITS MARKS. What a start, a frame and a loss mark do to the run of inactive frames and to the settled mark, said without the
-- definitions that the program computes them by.
use Prim.Native.Nat.{ℕ, ◌+◌, ◌≤◌, ◌<◌, min}
use mathlib.Core.Path.{◌≡◌, refl, ap}
use mathlib.Core.Bool.{Bool, true, false, not, ◌&&◌, ◌||◌}
use native.Mathlib.Omega.{arith}
use borrow.Author.Tests.{leb-true, leb-false, eq-eqb, ne_eqb}
use lib.Dec.{leb, eqb}
use Rattle.lag.specs.declared.rescale.Lag.{Lag}
use Rattle.control.specs.State.{cleared_marks, settled_limit, run_after}
use Rattle.control.specs.Next.{next_marks, unsettled}
use Rattle.control.specs.declared.marks.Marks.{Marks}

-- a start has no run and is not settled
pub start_unmarked : (rate duration : ℕ) → ((cleared_marks rate duration).run ≡ 0) × ((cleared_marks rate duration).settled ≡ false)
unfolding cleared_marks
start_unmarked rate duration = (refl, refl)

-- nor has what a loss mark leaves
pub loss_unmarks : (m : Marks) → ((unsettled m).run ≡ 0) × ((unsettled m).settled ≡ false)
loss_unmarks m = (refl, refl)

-- one more inactive frame reaches the limit, or leaves the run below it
reaches : (active : Bool) (run : ℕ) → eqb (run_after active run) settled_limit ≡ (not active && leb settled_limit (run + 1))
reaches true run = refl
reaches false run = go (leb settled_limit (run + 1)) refl
  where
    go : (b : Bool) → leb settled_limit (run + 1) ≡ b → eqb (min (run + 1) settled_limit) settled_limit ≡ b
    go true e = eq-eqb (min (run + 1) settled_limit) settled_limit (omega (arith, leb-true settled_limit (run + 1) e))
    go false e = ne_eqb (min (run + 1) settled_limit) settled_limit (λ h. omega (arith, leb-false settled_limit (run + 1) e))

module _ (m : Marks) (active : Bool) (lag : Lag) where
  -- a frame counts as one at most
  pub counts_once : (next_marks m active lag).run ≤ m.run + 1
  unfolding next_marks
  counts_once = go active
    where
      go : (b : Bool) → run_after b m.run ≤ m.run + 1
      go true = omega arith
      go false = omega arith

  -- an active frame ends the run
  pub active_ends_run : active ≡ true → (next_marks m active lag).run ≡ 0
  unfolding next_marks
  active_ends_run p = rw p

  -- an inactive frame below the limit counts as one
  pub inactive_counts : active ≡ false → m.run < settled_limit → (next_marks m active lag).run ≡ m.run + 1
  unfolding next_marks
  inactive_counts p h = rw p (omega arith)

  -- settled: it was so, or this is an inactive frame that makes the run as long as the limit
  pub settles_exactly : (next_marks m active lag).settled ≡ (m.settled || (not active && leb settled_limit (m.run + 1)))
  unfolding next_marks
  settles_exactly = ap (λ (b : Bool). m.settled || b) (reaches active m.run)
