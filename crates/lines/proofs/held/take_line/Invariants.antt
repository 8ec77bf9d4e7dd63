-- `take_line` holds byte after byte; what it is to give follows at each turn from what is held and what is left.
use Rattle.std.proofs.Common.{◌≡◌, ◌≤◌, ℕ, max, List, length, drop}
use Rattle.lines.specs.Machine.{line_taken}
use Rattle.lines.specs.declared.held.Held.{Held}
use Rattle.lines.proofs.held.take_line.Given as goal

abbrev holding : List ℕ → ℕ → Held
holding bytes len = record { bytes = bytes; len = len }

abbrev pub invariant-loop-at : goal.invariant-loop-at
invariant-loop-at l =
    record {
      size : length l.bytes ≡ 32;
      within : l.at ≤ max l.from (length l.input);
      left : line_taken (holding l.initial.bytes l.initial.len) (drop l.from l.input) l.from ≡ line_taken (holding l.bytes l.len) (drop l.at l.input) l.at;
    }
