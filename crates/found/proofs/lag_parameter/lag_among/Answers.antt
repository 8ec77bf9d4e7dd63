-- `lag_among` finds the whole lag, then its fraction, and carries it.
use native.Mathlib.Omega.{arith}
use Rattle.found.specs.LagParameter.{lag_among}
use Rattle.found.proofs.Signs.{read_back}
use Rattle.found.proofs.lag_parameter.lag_among.Goals as goal

pub returns : goal.returns
unfolding lag_among
returns c =
    let read = read_back c.fraction-pitch_fr.result (omega arith) in
    rw (← c.whole_entry-entry.ensures.entry, ← c.fraction-pitch_fr.ensures.fraction) (rw read at c.carried.ensures)
