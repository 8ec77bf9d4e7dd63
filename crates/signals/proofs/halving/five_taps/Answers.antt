-- `five_taps` computes the definition, in its order.
use lib.Ieee.{round, of_bits}
use mathlib.Core.Path.{refl}
use Rattle.signals.specs.Halving.{five_taps}
use Rattle.signals.proofs.halving.five_taps.Goals as goal

pub returns : goal.returns
unfolding five_taps round of_bits
returns c = refl
