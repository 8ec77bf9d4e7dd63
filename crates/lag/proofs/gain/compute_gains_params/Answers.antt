-- `compute_gains_params` goes by the same four thresholds as the definition.
use borrow.Author.Tests.{lt-ltb, le-ltb}
use lib.Ieee.{round, of_bits}
use Rattle.lag.specs.Gain.{gain_of}
use Rattle.lag.proofs.gain.compute_gains_params.Goals as goal

pub returns-then-t-b : goal.returns-then-t-b
unfolding gain_of round of_bits
returns-then-t-b c = rw (← c.t_nbits-t.ensures, lt-ltb _ _ c.if-t-b.true)

pub returns-then-t-b-2 : goal.returns-then-t-b-2
unfolding gain_of round of_bits
returns-then-t-b-2 c = rw (← c.t_nbits-t.ensures, le-ltb _ _ c.if-t-b.false, lt-ltb _ _ c.if-t-b-2.true)

pub returns-then-t-b-3 : goal.returns-then-t-b-3
unfolding gain_of round of_bits
returns-then-t-b-3 c = rw (← c.t_nbits-t.ensures, le-ltb _ _ c.if-t-b.false, le-ltb _ _ c.if-t-b-2.false, lt-ltb _ _ c.if-t-b-3.true)

pub returns-then-t-b-4 : goal.returns-then-t-b-4
unfolding gain_of round of_bits
returns-then-t-b-4 c = rw (← c.t_nbits-t.ensures, le-ltb _ _ c.if-t-b.false, le-ltb _ _ c.if-t-b-2.false, le-ltb _ _ c.if-t-b-3.false, lt-ltb _ _ c.if-t-b-4.true)

pub returns : goal.returns
unfolding gain_of round of_bits
returns c = rw (← c.t_nbits-t.ensures, le-ltb _ _ c.if-t-b.false, le-ltb _ _ c.if-t-b-2.false, le-ltb _ _ c.if-t-b-3.false, le-ltb _ _ c.if-t-b-4.false)
