-- The states of both ears taken apart into registers, coefficients and rings: a call on the parts does what the call on the states does.
use Rattle.std.specs.Prelude.{ℕ, List, Float}
use Rattle.decoder.specs.InPlace.{joined, apart}
use Rattle.decoder.specs.declared.state.Decoder.{Decoder}
use Rattle.decoder.specs.declared.frame.Framed.{Framed}
use Rattle.ears_judging.specs.declared.ear.Ear.{Ear}
use Rattle.ears.specs.Both.{both_framed}
use Rattle.ears.specs.declared.frame.BothFramed.{BothFramed}

-- an ear's state
abbrev pub state_of : Ear → List Float → List Float → List Float → Decoder
state_of ear kept xs ys = joined ear.registers kept xs ys

-- what a call gives back: answers and registers of both; coefficients and rings, the left ear's first; and the buffer at exit
abbrev pub both_apart : Framed × Framed × List Float → BothFramed × List Float × List Float × List Float × List Float × List Float × List Float × List Float
both_apart f = (
  record { left = apart f.0; right = apart f.1 },
  f.0.decoder.kept,
  f.0.decoder.x_hat_mem,
  f.0.decoder.x_hat_ltpf_mem,
  f.1.decoder.kept,
  f.1.decoder.x_hat_mem,
  f.1.decoder.x_hat_ltpf_mem,
  f.2,
)

-- a frame of both ears on lent arrays
abbrev pub both_in_place : Ear → List Float → List Float → List Float → Ear → List Float → List Float → List Float → List Float → List Float → ℕ → List Float →
    BothFramed × List Float × List Float × List Float × List Float × List Float × List Float × List Float
both_in_place l lk lx ly r rk rx ry numerators denominators nbits buffer =
    both_apart (both_framed (state_of l lk lx ly) (state_of r rk rx ry) numerators denominators l.pitch r.pitch nbits buffer)
