-- `next` keeps the last entries of each signal.
use Rattle.encoder.specs.Frame.{next_state}
use Rattle.encoder.proofs.frame.next.Goals as goal

pub returns : goal.returns
unfolding next_state
returns c = rw (c.last-3.ensures, c.last-2.ensures, c.last.ensures, c.lengths_of-l.ensures)
