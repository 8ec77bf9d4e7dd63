-- A state taken apart and put together again.
use Rattle.rates.specs.declared.answer.Refusal.{Refusal}
use Rattle.rates.specs.declared.config.Lc3Config.{Lc3Config}
use Rattle.std.proofs.Common.{Result, Ok, Err}
use mathlib.Core.Path.{◌≡◌, refl}
use mathlib.Core.List.{List, []}
use lib.Ieee.{Float}
use Rattle.on_ring.specs.Registers.{fit_ring}
use Rattle.on_ring.specs.declared.registers.Registers.{Registers}
use Rattle.decoder.specs.Frame.{framed_as, lost_with, lost_from}
use Rattle.decoder.specs.InPlace.{joined, apart, lost_in_place}
use Rattle.decoder.specs.declared.frame.Framed.{Framed}
use Rattle.decoder.specs.declared.frame.FramedInPlace.{FramedInPlace}

-- what comes back from a call on the parts
abbrev pub together : FramedInPlace → List Float → List Float → List Float → Framed
together f kept xs ys = framed_as f.answer (joined f.registers kept xs ys)

-- a loss mark does not look at the arrays
pub lost_without_arrays : (r : Registers) (kept xs ys : List Float) → together (lost_in_place r) kept xs ys ≡ lost_from (joined r kept xs ys)
unfolding lost_from
lost_without_arrays r kept xs ys = go (fit_ring r)
  where
    go : (k : Result Lc3Config Refusal) → together (apart (lost_with (joined r [] [] []) k)) kept xs ys ≡ lost_with (joined r kept xs ys) k
    go (Err a) = refl
    go (Ok c) = refl
