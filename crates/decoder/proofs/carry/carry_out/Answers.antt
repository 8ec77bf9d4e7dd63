-- `carry_out` takes the samples up into the ring of inputs, filters them there, and hands the outputs back.
use Prim.Native.Nat.{◌+◌, ◌-◌}
use mathlib.Core.Path.{◌≡◌, ◌∙◌}
use native.Mathlib.Omega.{arith}
use lib.ListN.{length}
use Rattle.slices.proofs.Stored.{placed_stored}
use Rattle.rings.proofs.StraightLines.{untouched}
use Rattle.on_ring.proofs.Checks.{checks, block_fits_lem, filtering}
use Rattle.decoder.proofs.TakenUp.{taken_up_lem, outs_in_place, put_back}
use borrow.Author.Rules.{rules}
use Rattle.decoder.proofs.carry.carry_out.Goals as goal

pub filter_planned-requires : goal.filter_planned-requires
filter_planned-requires c =
    filtering c.requires.0 c.args.kept.now _ _ (search rules) (search rules)

pub move_on-next-requires : goal.move_on-next-requires
move_on-next-requires c = omega (arith, block_fits_lem c.requires.0)

pub returns-in-Inactive : goal.returns-in-Inactive
returns-in-Inactive c =
    let told = c.in-Inactive.is in
    let stands = c.put.ensures ∙ placed_stored _ _ _ (omega (arith, c.requires.1, (checks c.requires.0).count, block_fits_lem c.requires.0)) in
    rw stands
    (taken_up_lem c.requires.0 c.args.kept.now c.args.x_hat_mem.now c.args.x_hat_ltpf_mem.now c.requires.1 c.requires.2 _ _ _ _
    c.move_on-next.ensures
    c.filter_planned.ensures.0
    (rw stands at c.filter_planned.ensures.1)
    (rw told
    (untouched (rw told at (filtering c.requires.0 c.args.kept.now c.args.x_hat_mem.now c.args.x_hat_ltpf_mem.now c.requires.1 c.requires.2).filterable) c.args.samples.now)))

pub overflow_add-start : goal.overflow_add-start
overflow_add-start c = omega (arith, (checks c.requires.0).count, block_fits_lem c.requires.0)

pub offset_bounds-x_hat_ltpf_mem-start : goal.offset_bounds-x_hat_ltpf_mem-start
offset_bounds-x_hat_ltpf_mem-start c = omega (arith, block_fits_lem c.requires.0)

pub slice_bounds-put-end : goal.slice_bounds-put-end
slice_bounds-put-end c =
    omega (arith, (checks c.requires.0).count, block_fits_lem c.requires.0, c.requires.2, c.filter_planned.auto)

pub returns : goal.returns
returns c =
    let stands = c.put.ensures ∙ placed_stored _ _ _ (omega (arith, c.requires.1, (checks c.requires.0).count, block_fits_lem c.requires.0)) in
    let filled = rw stands at c.filter_planned.ensures.1 in
    let start = c.args.registers.block_start_index in
    let e : start + length c.args.samples.now - start ≡ c.args.plan.config.nf = omega (arith, (checks c.requires.0).count) in
    rw stands
    (taken_up_lem c.requires.0 c.args.kept.now c.args.x_hat_mem.now c.args.x_hat_ltpf_mem.now c.requires.1 c.requires.2 _ _ _ _
    c.move_on-next.ensures
    c.filter_planned.ensures.0
    filled
    (rw (e, filled, outs_in_place c.requires.0 c.args.kept.now c.args.x_hat_mem.now c.args.x_hat_ltpf_mem.now c.requires.1 c.requires.2) at c.put-2.ensures
    ∙ put_back c.requires.0 c.args.kept.now c.args.x_hat_mem.now c.args.x_hat_ltpf_mem.now c.requires.1 c.requires.2))
