-- What a frame is going to do, from C.
use Rattle.std.specs.Prelude.{ℕ, List, [], ◌∷◌, ℤ}
use Rattle.rates.specs.Answers.{number_of}
use Rattle.judging.specs.declared.plan.SideInfo.{SideInfo}
use Rattle.c_arrays.specs.Words.{as_flag}
use Rattle.c_arrays.specs.Registers.{read_registers}
use Rattle.c_telling.specs.Tellings.{told_for}
use Rattle.c_telling.specs.declared.told.ToldForC.{ToldForC}

-- the number of the answer; case, active, whole, quarter, gain on, row; and the rounding
abbrev pub told_numbers : ToldForC → ℕ × List ℕ × ℤ
told_numbers t = (
  number_of t.answer,
  t.transition ∷ as_flag t.active ∷ t.whole ∷ t.quarter ∷ as_flag t.gain.on ∷ t.gain.row ∷ [],
  t.rounding,
)

-- of the state that the numbers are, which are all that is read
abbrev pub told_call : List ℕ → SideInfo → ℕ × List ℕ × ℤ
told_call numbers side = told_numbers (told_for (read_registers numbers) side)
