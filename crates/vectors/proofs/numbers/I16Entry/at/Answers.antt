-- `at` of samples: 16 bits taken for a signed number.
use Rattle.std.proofs.Common.{arith}
use Rattle.vectors.specs.Numbers.{signed}
use Rattle.std.proofs.lemmas.Grind.{common_steps}
use Rattle.vectors.proofs.numbers.I16Entry.at.Goals as goal

pub returns : goal.returns
unfolding signed
returns c = grind (arith, common_steps)
