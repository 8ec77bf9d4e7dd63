-- `with_presence` compares with the definition's constant.
use mathlib.Core.Path.{refl}
use lib.Ieee.{of_bits, round}
use Rattle.search.proofs.pitch.with_presence.Goals as goal

pub returns : goal.returns
unfolding of_bits round
returns c = refl
