-- A frame taken up into the ring of inputs, and then filtered from there: what it gives is what the accepted frame gives.
use Prim.Native.Nat.{ℕ}
use mathlib.Core.Path.{◌≡◌, ◌∙◌}
use mathlib.Core.List.{List}
use native.Mathlib.Omega.{arith}
use lib.Ieee.{Float}
use lib.ListN.{length}
use Rattle.slices.specs.Slices.{stored, placed}
use Rattle.slices.proofs.Stored.{placed_stored, stored_last}
use Rattle.coefficients.specs.Coefficients.{laid_out}
use Rattle.rings.specs.Samples.{block_at, filtered_block}
use Rattle.rings.proofs.StraightLines.{filtered_long}
use Rattle.rings.proofs.OwnBlock.{stands, stored_before}
use Rattle.judging.specs.Filters.{kept_filter, filter_for}
use Rattle.judging.specs.declared.plan.Plan.{Plan}
use Rattle.on_ring.specs.Registers.{moved_on}
use Rattle.on_ring.specs.Required.{Judged}
use Rattle.on_ring.specs.declared.registers.Registers.{Registers}
use Rattle.on_ring.proofs.Checks.{checks, block_fits_lem, filtering}
use Rattle.decoder.specs.Frame.{outputs_of, accepted}
use Rattle.decoder.specs.InPlace.{joined, accepted_apart}

module _ {r : Registers} {nums dens frame : List Float} {plan : Plan} (j : Judged r nums dens frame plan)
    (kept xs ys : List Float) (x : length xs ≡ 1080) (y : length ys ≡ 1080) where
  abbrev start : ℕ
  start = r.block_start_index

  -- the outputs of the frame
  abbrev pub outs : List Float
  outs = outputs_of (joined r kept xs ys) plan (filter_for plan nums dens) frame

  -- the ring of outputs, where the frame stands among the inputs already
  abbrev pub filled : List Float
  filled = filtered_block plan.transition (kept_filter plan.config.fs r.marks kept) (filter_for plan nums dens) plan.config start (stored xs start frame) ys

  pub outs_long : length outs ≡ plan.config.nf
  outs_long = filtered_long (filtering j kept xs ys x y).filterable frame (checks j).count

  in_place : block_at plan.config start (stored xs start frame) ≡ frame
  in_place = stands plan.config start xs frame (checks j).count (omega (arith, (block_fits_lem j).1))

  filled_with : filled ≡ stored ys start outs
  filled_with = rw (in_place, stored_before (filtering j kept xs ys x y).filterable frame (checks j).count)

  -- part by part, what a frame that was taken up gives is the accepted frame
  pub taken_up_lem : (next : Registers) (kept' ys' out : List Float) →
      next ≡ moved_on r plan → kept' ≡ laid_out (filter_for plan nums dens) → ys' ≡ filled → out ≡ outs →
      ◌≡◌ {A = Registers × List Float × List Float × List Float × List Float} (next, kept', stored xs start frame, ys', out)
      (accepted_apart (accepted (joined r kept xs ys) plan nums dens frame))
  unfolding accepted
  taken_up_lem next kept' ys' out n k f o = rw (n, k, f, filled_with, o)

  -- the outputs stand in their ring
  pub outs_in_place : block_at plan.config start filled ≡ outs
  outs_in_place = rw filled_with (stands plan.config start ys outs outs_long (omega (arith, (block_fits_lem j).1)))

  -- and take the place of the samples
  pub put_back : placed frame 0 outs ≡ outs
  put_back =
      placed_stored frame outs 0 (omega (arith, outs_long, (checks j).count)) ∙ stored_last frame outs 0 (omega (arith, outs_long, (checks j).count))
