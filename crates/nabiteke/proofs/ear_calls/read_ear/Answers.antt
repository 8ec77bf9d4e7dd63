-- `read_ear` reads registers and pitch.
use Rattle.nabiteke.proofs.ear_calls.read_ear.Goals as goal

pub returns : goal.returns
returns c = rw (c.read_registers-registers.ensures.0, c.pitch_from-pitch.ensures)
