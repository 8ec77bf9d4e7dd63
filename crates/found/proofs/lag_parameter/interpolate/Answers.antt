-- `interpolate` adds one tap a turn.
use Prim.Native.Nat.{◌≤◌}
use mathlib.Core.Path.{refl, ◌∙◌}
use native.Mathlib.Omega.{arith}
use borrow.Author.Rules.{rules}
use lib.Signed.{mag}
use lib.Ieee.{of_bits}
use mir.Syntax.{w32}
use mir.Val.{to_z, of_z}
use Rattle.found.specs.LagParameter.{interpolated as interpolated_at}
use Rattle.found.proofs.Signs.{read_back, offset_read}
use Rattle.found.proofs.Turns.{in_turn}
use Rattle.found.proofs.lag_parameter.interpolate.Goals as goal

pub loop-m-init : goal.loop-m-init
unfolding interpolated_at of_bits
loop-m-init c = (refl, search rules, refl)

pub loop-m-preserved : goal.loop-m-preserved
unfolding interpolated_at
loop-m-preserved c =
    let x = c.loop-m in
    let t = in_turn 3 (to_z w32 x.m-bits) (omega arith) x.invariant.0 x.invariant.1 c.loop-m-test.true in
    let d : mag (to_z w32 (of_z w32 c.args.d)) ≤ 3 = rw (read_back c.args.d (omega (arith, c.requires))) c.requires.3 in
    let o = offset_read c.table_offset-n.result (to_z w32 x.m-bits) (to_z w32 (of_z w32 c.args.d)) c.table_offset-n.ensures t.size d in
    (t.again, omega (arith, t.next, t.over), c.with_tap-interpolated.ensures ∙ rw (t.next, ← t.number, ← o.0, ← c.moved.ensures, ← x.invariant.2))
