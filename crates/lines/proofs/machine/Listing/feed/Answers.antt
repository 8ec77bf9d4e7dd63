-- `feed` goes line by line, as `Going` says.
use Rattle.std.proofs.Common.{◌≡◌, ◌-◌, false, length, refl, arith}
use Rattle.lines.specs.Machine.{full}
use Rattle.lines.specs.Listings.{rules_of}
use Rattle.lines.proofs.Cuts.{short, roomy}
use Rattle.lines.proofs.Feeding.{going_first, going_held, going_row, going_full, going_done}
use Rattle.lines.proofs.machine.Listing.feed.Goals as goal
use Rattle.lines.proofs.machine.Listing.feed.Goals.{then-loop-used-test+else-out-at, else-loop-used-test}

pub loop-used-init : goal.loop-used-init
loop-used-init g c = going_first _ _ _ _ _

pub loop-used-preserved-then-used-input : goal.loop-used-preserved-then-used-input
loop-used-preserved-then-used-input g c =
    let L = rules_of g.S.State.rows in
    let free : full L c.loop-used.known (length c.loop-used.out - c.loop-used.at) ≡ false = roomy L c.loop-used.known _ (omega (arith, g.met.S.State.sizes.0)) in
    rw (c.put_line-at.ensures.known_after, c.line.ensures)
    (going_row _ _ _ _ _ _ _ _ _ _ c.loop-used.invariant _ _ _ free c.take_line-taken.ensures
    c.if-used-input.true (rw c.line.ensures at c.put_line-at.ensures.row_written) (omega (arith, c.put_line-at.ensures.next_within)))

pub loop-used-preserved : goal.loop-used-preserved
loop-used-preserved g c =
    let L = rules_of g.S.State.rows in
    let free : full L c.loop-used.known (length c.loop-used.out - c.loop-used.at) ≡ false = roomy L c.loop-used.known _ (omega (arith, g.met.S.State.sizes.0)) in
    going_held _ _ _ _ _ _ _ _ _ _ c.loop-used.invariant _ free c.take_line-taken.ensures

pub returns-clause-bytes_taken : goal.returns-clause-bytes_taken
returns-clause-bytes_taken g c =
    let L = rules_of g.S.State.rows in
    let going = c.loop-used.invariant in
    elim c.loop-used-test.branch [
      | then-loop-used-test+else-out-at w ↦ going_full _ _ _ _ _ _ _ _ _ _ going (short L c.loop-used.known (length c.loop-used.out - c.loop-used.at) refl (omega (arith, g.met.S.State.sizes.0, w.if-out-at.false, w.ROW.ensures)))
      | else-loop-used-test w ↦ going_done _ _ _ _ _ _ _ _ _ _ going w.loop-used-test.false
    ]
