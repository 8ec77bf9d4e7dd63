-- The signals of a frame at its rate, at 12.8 kHz and at 6.4 kHz, each after its history.
use Rattle.std.specs.Prelude.{ℕ, cond, List, ℤ, length, Float}
use Rattle.lanes.specs.Sums.{window}
use Rattle.slices.specs.Written.{written}
use Rattle.signals.specs.Straight.{laid, sampled}
use Rattle.resampling.specs.Resample.{resampled, usable}
use Rattle.signals.specs.HighPass.{memories, high_passed}
use Rattle.signals.specs.Halving.{halved}
use Rattle.rates.specs.declared.lengths.Lengths.{Lengths}
use Rattle.signals.specs.declared.highpass.HighPass.{HighPass}

-- 60 samples of history and the frame's
unfoldable pub at_rate : List Float → List ℤ → List Float
at_rate past frame = written (laid 540 past 0 60) 60 (sampled frame) (length frame)

-- 276 samples of history and the frame's, resampled
unfoldable pub at12p8 : List Float → List Float → List Float → ℕ → ℕ → List Float
at12p8 past x filter p len = written (laid 404 past 0 276) 276 (resampled x filter p) len

-- 114 samples of history and the frame's, halved
unfoldable pub at6p4 : List Float → List Float → ℕ → ℕ → List Float
at6p4 past x start len = written (laid 178 past 0 114) 114 (halved x start) len

-- the three signals of a frame, and the high-pass's memories after it
pub record Signals : Type 0 where
  pub x_s : List Float
  pub x_12p8 : List Float
  pub x_6p4 : List Float
  pub h50 : HighPass

-- what `at_12p8` makes of an array y that holds the past: the frame's samples after it, high-passed; only the past where the set or the step is not usable
unfoldable pub made12p8 : HighPass → List Float → List Float → List Float → ℕ → ℕ → List Float
made12p8 h y x filter p len = cond (usable filter p) (high_passed h (written y 276 (resampled x filter p) len) len) y

-- and the memories that it leaves
unfoldable pub left12p8 : HighPass → List Float → List Float → List Float → ℕ → ℕ → HighPass
left12p8 h y x filter p len = cond (usable filter p) (memories h (window (written y 276 (resampled x filter p) len) 276) len) h

-- the signals after a past at the rate, at 12.8 and at 6.4 kHz
abbrev pub signals_of : List Float → List Float → List Float → HighPass → ℕ → Lengths → List Float → List ℤ → Signals
signals_of past past12p8 past6p4 h p l filter frame =
    let x = at_rate past frame in
    let r = at12p8 past12p8 x filter p l.len12p8 in
    let y = high_passed h r l.len12p8 in
    record {
      x_s = x;
      x_12p8 = y;
      x_6p4 = at6p4 past6p4 y l.start l.len6p4;
      h50 = memories h (window r 276) l.len12p8;
    }
