-- The two frame durations of docs/SCOPE.md, in microseconds.
use Rattle.std.specs.Prelude.{ℕ, cond, eqb, Option, Some, None}
use Rattle.rates.specs.declared.duration.FrameDuration.TheVariants.{TenMs, SevenPointFiveMs}
use Rattle.rates.specs.declared.duration.FrameDuration.{FrameDuration}

-- 10 or 7.5 ms
abbrev pub duration_of : ℕ → Option FrameDuration
duration_of us = cond (eqb us 10000) (Some TenMs) (cond (eqb us 7500) (Some SevenPointFiveMs) None)
