-- `sums_of` writes sixteen sums a turn.
use Rattle.resampling.proofs.Rows.{phases_more}
use Rattle.resampling.proofs.sums_of.Goals as goal

pub loop-n-preserved : goal.loop-n-preserved
loop-n-preserved c =
    let l = c.loop-n in
    phases_more _ _ _ l.n l.sums _ _ _ _ c.loop-n-test.true l.invariant c.sum_taps-s.ensures.0 c.sum_taps-s.ensures.1 c.store.ensures c.store-in-loop-n.ensures
