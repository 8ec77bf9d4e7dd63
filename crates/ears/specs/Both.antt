-- A frame of both ears: to each of them it is the frame of one decoder, of its own samples, pitch record and state, with what the ears share.
use Rattle.std.specs.Prelude.{ℕ, List, Float}
use Rattle.lag.specs.declared.pitch.PitchRecord.{PitchRecord}
use Rattle.decoder.specs.Frame.{framed_with}
use Rattle.decoder.specs.declared.state.Decoder.{Decoder}
use Rattle.decoder.specs.declared.frame.Framed.{Framed}
use Rattle.interleave.specs.Turns.{lefts, rights, in_turn}
use Rattle.ears_judging.specs.Judge.{Shared, judged_ear, shared_by}

-- an ear's frame is a single decoder's by its verdict: what it gives back, and the ear's samples at exit
unfoldable pub ear_framed : Shared → Decoder → PitchRecord → List Float → Framed × List Float
ear_framed s d pitch own = framed_with d s.numerators s.denominators own (judged_ear s.alike s d.registers pitch own)

-- what both ears give, and one buffer with the samples of both
abbrev pub both_of : Framed × List Float → Framed × List Float → Framed × Framed × List Float
both_of left right = (left.0, right.0, in_turn left.1 right.1)

-- a frame of both ears: what each gives back, and the buffer at exit
abbrev pub both_framed : Decoder → Decoder → List Float → List Float → PitchRecord → PitchRecord → ℕ → List Float → Framed × Framed × List Float
both_framed l r numerators denominators left_pitch right_pitch nbits buffer =
    let s = shared_by l.registers r.registers numerators denominators nbits buffer in
    both_of (ear_framed s l left_pitch (lefts buffer)) (ear_framed s r right_pitch (rights buffer))
