-- `nabiteke_pitch_write_`: the writing of the pitch that the numbers are.
use mathlib.Core.Path.{ap, ◌∙◌}
use Rattle.lag.specs.declared.pitch.PitchRecord.{PitchRecord}
use Rattle.packing.specs.Writings.{writing}
use Rattle.nabiteke.specs.PitchCalls.{written_from}
use Rattle.nabiteke.proofs.pitch_calls.nabiteke_pitch_write_.Goals as goal

pub returns : goal.returns
returns c =
    rw c.answer_word.ensures
    (ap written_from
    (c.write_pitch-writing.ensures
    ∙ ap (λ (pitch : PitchRecord). writing pitch c.args.bytes.now) c.pitch_from-pitch.ensures))
