-- `spread` writes a row a turn.
use Rattle.std.proofs.Common.{ℕ, ◌≡◌, ◌+◌, ◌-◌, ◌*◌, ◌/◌, ◌<◌, length}
use Rattle.floats.specs.Single.{at}
use Rattle.resampling.proofs.spread.Given as goal

abbrev pub invariant-loop-s : goal.invariant-loop-s
invariant-loop-s l =
    (length l.rows ≡ 1392) × ((t b : ℕ) → t < l.s → b < 16 → at l.rows (16 * t + b) ≡ at l.x (60 - 240 / l.p + t + 120 / l.p * b))
