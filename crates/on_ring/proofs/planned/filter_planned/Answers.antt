-- `filter_planned`: the first case copies the block and keeps no filter.
use Prim.Native.Nat.{◌+◌, ◌-◌}
use mathlib.Core.Path.{◌≡◌, ◌∙◌}
use native.Mathlib.Omega.{arith}
use lib.Ieee.{of_bits}
use Rattle.slices.proofs.Stored.{placed_stored}
use Rattle.rings.specs.Samples.{block_at}
use Rattle.rings.proofs.StraightLines.{frame_long, untouched}
use Rattle.on_ring.proofs.NewFilter.{no_filter_lem}
use Rattle.on_ring.proofs.planned.filter_planned.Goals as goal

pub returns-in-Inactive : goal.returns-in-Inactive
unfolding of_bits
returns-in-Inactive c =
    let told = c.in-Inactive.is in
    let f = c.requires.filterable in
    let config = c.args.plan.config in
    let e : c.args.start + config.nf - c.args.start ≡ config.nf = omega arith in
    let frame = block_at config c.args.start c.args.x_hat_mem.now in (
      no_filter_lem c.args.plan c.args.set.numerators.now c.args.set.denominators.now (c.requires.idle told),
      rw e at c.put.ensures
          ∙ placed_stored c.args.x_hat_ltpf_mem.now frame c.args.start (omega (arith, f, frame_long f))
          ∙ rw (told, ← untouched (rw told at f) frame),
    )
