-- What a plan that judging gave has on a ring: a block inside the history, and a frame that can be filtered between the rings.
use Rattle.std.proofs.Common.{Ok}
use Prim.Native.Nat.{◌+◌, ◌≤◌}
use mathlib.Core.Path.{◌≡◌}
use mathlib.Core.Bool.{true}
use mathlib.Core.List.{List}
use native.Mathlib.Omega.{arith}
use lib.Ieee.{Float}
use lib.ListN.{length}
use Rattle.control.proofs.Sizes.{FromTable, Sized}
use Rattle.control.proofs.Fit.{Fits}
use Rattle.judging.specs.Judge.{plan_of}
use Rattle.judging.specs.declared.plan.Plan.{Plan}
use Rattle.judging.proofs.Judging.{Passed, accepted_plan}
use Rattle.judging.proofs.Planned as planned
use Rattle.on_ring.specs.Registers.{block_fits, fit_ring}
use Rattle.on_ring.specs.Required.{Filtering, Judged}
use Rattle.on_ring.specs.declared.registers.Registers.{Registers}
use Rattle.on_ring.proofs.RingFits.{ring_fits_lem, block_inside, newest_fits}

module _ {r : Registers} {nums dens frame : List Float} {plan : Plan} (j : Judged r nums dens frame plan) where
  fitted : fit_ring r ≡ Ok plan.config
  fitted = (accepted_plan r.marks (fit_ring r) nums dens j.side frame plan j.verdict).0

  pub as_planned : plan ≡ plan_of r.marks plan.config j.side plan.lag
  as_planned = (accepted_plan r.marks (fit_ring r) nums dens j.side frame plan j.verdict).1

  pub checks : Passed plan.config nums dens j.side frame plan.lag
  checks = (accepted_plan r.marks (fit_ring r) nums dens j.side frame plan j.verdict).2

  pub fitting : Fits plan.config r.marks
  fitting = (ring_fits_lem r plan.config fitted).0

  pub block_fitting : block_fits plan.config r.block_start_index ≡ true
  block_fitting = (ring_fits_lem r plan.config fitted).1

  pub found : FromTable plan.config
  found = planned.found fitting as_planned checks

  pub sizes : Sized plan.config
  sizes = planned.sizes fitting as_planned checks

  -- the frame's block lies inside the used history
  pub block_fits_lem : (r.block_start_index + plan.config.nf ≤ plan.config.history) × (r.block_start_index + plan.config.nf ≤ 1080)
  block_fits_lem = omega (arith, block_inside plan.config r.block_start_index found block_fitting, sizes.past_fits)

  -- the frame can be filtered after the pasts of the rings
  pub filtering : (kept xs ys : List Float) → length xs ≡ 1080 → length ys ≡ 1080 →
      Filtering r.marks.lag.whole r.block_start_index plan kept xs ys nums dens
  filtering kept xs ys x y =
      let lent = planned.lent_rows fitting as_planned checks in
      record {
        rows = lent.0;
        gain = lent.1;
        quarter = lent.2;
        idle = planned.idle fitting as_planned checks;
        lagless = planned.lagless fitting as_planned checks;
        filterable = record {
          readable = planned.filters_readable fitting as_planned checks kept;
          block = block_fits_lem.0;
          newest = newest_fits plan.config r.block_start_index found block_fitting;
          past = sizes.past_fits;
          inputs = x;
          outputs = y;
          fade_least = sizes.fade_least;
          fade_most = sizes.fade_most;
          rest = sizes.rest;
          twice = sizes.twice;
          line = sizes.line_fits;
        };
      }
