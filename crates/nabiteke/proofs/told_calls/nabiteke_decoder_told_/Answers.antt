-- `nabiteke_decoder_told_`: what is told of the registers and the pitch that the numbers are, as numbers.
use mir.Syntax.{w32}
use mir.ValLaws.{to_z-of_z}
use borrow.Author.Rules.{rules}
use Rattle.nabiteke.proofs.told_calls.nabiteke_decoder_told_.Goals as goal

pub returns : goal.returns
returns c =
    rw (
      c.answer_word.ensures,
      c.as_flag.ensures,
      c.as_flag-2.ensures,
      to_z-of_z w32 c.tell-frame.result.rounding (search (rules, c.struct_told-1.given.1.1.1.1.1)),
      c.tell-frame.ensures,
      c.side_from-side.ensures,
      c.read_registers-registers.ensures.0,
    )
