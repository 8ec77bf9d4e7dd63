-- `fade_factor` is a difference from 1.0 for the way out.
use lib.Ieee.{of_bits, of_int}
use Rattle.filter.specs.Fade.{factor}
use Rattle.filter.proofs.fade.fade_factor.Goals as goal

pub returns-in-Out : goal.returns-in-Out
unfolding factor of_bits of_int
returns-in-Out c = rw c.in-Out.is
