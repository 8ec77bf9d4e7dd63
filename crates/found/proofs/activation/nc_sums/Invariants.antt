-- `nc_sums` adds one product to each sum a turn.
use Prim.Native.Nat.{◌≤◌}
use mathlib.Core.Path.{◌≡◌}
use Rattle.lanes.specs.Sums.{product_sum}
use Rattle.found.specs.Activation.{no_delay, shifted}
use Rattle.found.proofs.activation.nc_sums.Given as goal

abbrev pub invariant-loop-n : goal.invariant-loop-n
invariant-loop-n l =
    (l.n ≤ l.len12p8)
    × (l.nc_numerator ≡ product_sum (no_delay l.x l.start l.signal) (shifted l.x l.start l.pitch_int l.pitch_fr l.signal) l.n)
    × (l.no_delay_total ≡ product_sum (no_delay l.x l.start l.signal) (no_delay l.x l.start l.signal) l.n)
    × (l.shifted_total ≡ product_sum (shifted l.x l.start l.pitch_int l.pitch_fr l.signal) (shifted l.x l.start l.pitch_int l.pitch_fr l.signal) l.n)
