-- The lengths of a duration lie within the arrays of the encoder's signals.
use Prim.Native.Nat.{◌+◌, ◌*◌, ◌≤◌}
use native.Mathlib.Omega.{arith}
use Rattle.rates.specs.Lengths.{lengths_of}
use Rattle.rates.specs.declared.lengths.Lengths.{Lengths}
use Rattle.rates.specs.declared.duration.FrameDuration.{FrameDuration}
use Rattle.rates.specs.declared.duration.FrameDuration.TheVariants.{TenMs, SevenPointFiveMs}

pub record Sized (l : Lengths) : Type 0 where
  pub new : (l.len12p8 ≤ 128) × (l.len6p4 ≤ 64)
  pub delayed : (232 ≤ l.start) × (l.start + l.len12p8 + 2 ≤ 404) × (l.start + 2 * l.len6p4 ≤ 404)

pub sized : (n : FrameDuration) → Sized (lengths_of n)
sized TenMs = record { new = omega arith; delayed = omega arith }
sized SevenPointFiveMs = record { new = omega arith; delayed = omega arith }
