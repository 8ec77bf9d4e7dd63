-- `sum_taps` adds one tap a turn to sixteen sums, where it is used.
use Rattle.std.proofs.Common.{◌∙◌}
use native.Mathlib.Nat.{add-zero}
use lib.Ieee.{of_bits}
use Rattle.resampling.specs.Rows.{tap_lanes}
use Rattle.resampling.proofs.Rows.{tap_used, tap_after, tap_before}
use Rattle.resampling.proofs.sum_taps.Goals as goal
use Rattle.resampling.proofs.sum_taps.Goals.{then-m-h+then-h-m, else-m-h, else-m-h-via-then-m-h+else-h-m, else-m-h-via-else-m-h}

pub loop-j-init : goal.loop-j-init
unfolding tap_lanes of_bits
loop-j-init c = (c.starting_at-low.ensures, c.starting_at-high.ensures)

pub loop-j-preserved : goal.loop-j-preserved
loop-j-preserved c =
    let l = c.loop-j in
    elim c.if-m-h.branch [
      | then-m-h+then-h-m w ↦ (
        tap_used _ _ _ _ 0 _ _ _ l.invariant.0 w.if-m-h.true w.if-h-m.true (w.low-is ∙ rw add-zero w.add_row-low.ensures),
        tap_used _ _ _ _ 8 _ _ _ l.invariant.1 w.if-m-h.true w.if-h-m.true (w.high-is ∙ w.add_row-high.ensures),
      )
      | else-m-h w ↦ elim w.else-m-h.branch [
        | else-m-h-via-then-m-h+else-h-m v ↦ (
          tap_after _ _ _ _ 0 _ _ _ l.invariant.0 v.if-m-h.true v.if-h-m.false w.low-is,
          tap_after _ _ _ _ 8 _ _ _ l.invariant.1 v.if-m-h.true v.if-h-m.false w.high-is,
        )
        | else-m-h-via-else-m-h v ↦ (
          tap_before _ _ _ _ 0 _ _ _ l.invariant.0 v.if-m-h.false w.low-is,
          tap_before _ _ _ _ 8 _ _ _ l.invariant.1 v.if-m-h.false w.high-is,
        )
      ]
    ]
