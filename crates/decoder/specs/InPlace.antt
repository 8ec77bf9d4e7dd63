-- A state taken apart into registers, coefficients and two rings: a call on the parts does what the call on the state does.
use Rattle.std.specs.Prelude.{List, [], Float}
use Rattle.judging.specs.declared.plan.SideInfo.{SideInfo}
use Rattle.on_ring.specs.declared.registers.Registers.{Registers}
use Rattle.decoder.specs.Frame.{framed, lost_from}
use Rattle.decoder.specs.declared.state.Decoder.{Decoder}
use Rattle.decoder.specs.declared.frame.Framed.{Framed}
use Rattle.decoder.specs.declared.frame.FramedInPlace.{FramedInPlace}

-- the state of these parts
abbrev pub joined : Registers → List Float → List Float → List Float → Decoder
joined r kept xs ys = record { registers = r; kept = kept; x_hat_mem = xs; x_hat_ltpf_mem = ys }

-- what a call gives back, without the arrays
abbrev pub apart : Framed → FramedInPlace
apart f = record { answer = f.answer; registers = f.decoder.registers }

-- and with them: the arrays and samples at exit
abbrev pub all_apart : Framed × List Float → FramedInPlace × List Float × List Float × List Float × List Float
all_apart f = (apart f.0, f.0.decoder.kept, f.0.decoder.x_hat_mem, f.0.decoder.x_hat_ltpf_mem, f.1)

-- an accepted frame in the same way
abbrev pub accepted_apart : Decoder × List Float → Registers × List Float × List Float × List Float × List Float
accepted_apart r = (r.0.registers, r.0.kept, r.0.x_hat_mem, r.0.x_hat_ltpf_mem, r.1)

-- a frame call on lent arrays
abbrev pub framed_in_place : Registers → List Float → List Float → List Float → List Float → List Float → SideInfo → List Float →
    FramedInPlace × List Float × List Float × List Float × List Float
framed_in_place r kept xs ys numerators denominators side samples =
    all_apart (framed (joined r kept xs ys) numerators denominators side samples)

-- a loss mark, which asks for no array
abbrev pub lost_in_place : Registers → FramedInPlace
lost_in_place r = apart (lost_from (joined r [] [] []))
