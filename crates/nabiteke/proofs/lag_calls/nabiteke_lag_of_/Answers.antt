-- `nabiteke_lag_of_`: the lookup, as numbers.
use mir.Syntax.{w32}
use mir.ValLaws.{to_z-of_z}
use borrow.Author.Rules.{rules}
use Rattle.nabiteke.proofs.lag_calls.nabiteke_lag_of_.Goals as goal

pub returns : goal.returns
returns c =
    rw (c.answer_word.ensures, to_z-of_z w32 c.look_up-found.result.rounding (search rules), c.look_up-found.ensures)
