-- `filter_run` makes outputs in blocks of eight, the last of which may begin inside the one before it.
use Prim.Native.Nat.{◌+◌, ◌*◌, min}
use mathlib.Core.Path.{◌≡◌, ◌∙◌}
use native.Mathlib.Omega.{arith}
use Rattle.filter.specs.Kept.{kept_as}
use Rattle.filter.proofs.Growing.{grown_none}
use Rattle.filter.proofs.EightLanes.{Usable, turn_made}
use borrow.Author.Rules.{rules}
use Rattle.filter.proofs.fade.filter_run.Goals as goal

pub loop-b-init : goal.loop-b-init
loop-b-init c =
    let none : min (8 * 0) c.args.len ≡ 0 = omega arith in
    (search rules, rw none (grown_none _ _ _))

pub loop-b-preserved : goal.loop-b-preserved
loop-b-preserved c =
    let i = c.loop-b in
    let m = c.block_start.result in
    let s = c.args.spans in
    let usable : Usable (kept_as c.args.filter) s.history = record {
      inside = c.requires.0;
      nums = rw c.num-num.ensures.0 at c.num-num.ensures.1;
      dens = rw c.den-den.ensures.0 at c.den-den.ensures.1;
    } in
    let e : min (8 * (i.b + 1)) c.args.len ≡ m + 8 = omega (arith, c.block_start.ensures) in (
      search rules,
      turn_made (kept_as c.args.filter) s.history usable c.args.x.now (c.args.from + m) (omega arith) c.args.fading s.fade c.args.y.now
          (s.history + c.args.from) m (min (8 * i.b) c.args.len) _ (omega arith) (omega arith) (omega arith) (omega arith) _ _ _ _ _ _ _ _
          c.num-num.ensures.0 c.den-den.ensures.0 c.nearest-back.ensures e i.invariant.1
          c.filter_8-filt_out.ensures c.weigh_in.ensures c.less_8-out.ensures c.store.ensures,
    )

pub returns : goal.returns
returns c =
    let e : min (8 * c.loop-b.b) c.args.len ≡ c.args.len = omega arith in
    c.loop-b.invariant.1 ∙ rw e
