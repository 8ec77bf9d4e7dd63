-- A state whose lag is no wider than C's numbers is written as it is.
use Prim.Native.Nat.{◌<◌, ◌^◌}
use mathlib.Core.Path.{◌≡◌}
use native.Mathlib.Nat.{mod-eq_of_lt}
use Rattle.encoder.specs.declared.state.Encoder.{Encoder}
use Rattle.c_arrays.specs.Words.{narrowed}
use Rattle.c_encoder.specs.State.{numbers_by, numbers_of}

pub written_whole : (e : Encoder) → e.t_prev < 2 ^ 32 → numbers_by narrowed e ≡ numbers_of e
written_whole e h = rw (mod-eq_of_lt h)
