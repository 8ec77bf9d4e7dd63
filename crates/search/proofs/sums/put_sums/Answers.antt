-- `put_sums` writes three times eight sums.
use Prim.Native.Nat.{◌+◌, ◌-◌}
use mathlib.Core.Path.{◌≡◌}
use native.Mathlib.Omega.{arith}
use Rattle.search.proofs.Blocks.{put_three}
use Rattle.search.proofs.sums.put_sums.Goals as goal

pub returns : goal.returns
returns c =
    let e : c.args.a + c.args.len - c.args.a ≡ c.args.len = omega arith in
    put_three c.args.x.now c.args.a c.args.b c.args.len (omega (arith, c.requires)) c.args.i c.args.j c.args.k _ _ _ _ _
    (omega (arith, c.requires)) (omega (arith, c.requires)) (omega (arith, c.requires)) (omega (arith, c.requires)) (omega (arith, c.requires)) (omega (arith, c.requires))
    c.requires.i_in_bounds.0 c.requires.i_in_bounds.1 c.requires.i_in_bounds.2
    (rw e at c.correlate_three-s.ensures) c.store.ensures c.store-2.ensures c.store-3.ensures
