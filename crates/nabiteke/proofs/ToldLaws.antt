-- WHAT IS TOLD IS DONE. `told_done_lem`, `ear_told`: where a frame, or an ear's part of one, is answered 0, it was told with 0, and all that the call gives
-- back is what an accepted frame gives whose plan is the told one. `told_refused_lem`, `ear_told_refused`: where it is told with another answer, its call is
-- not answered 0.
use Rattle.rates.proofs.Refusals.{never_done}
use Rattle.rates.specs.declared.answer.Refusal.{Refusal}
use Rattle.std.proofs.Common.{Result}
use Prim.Native.Nat.{ℕ}
use mathlib.Core.Path.{◌≡◌, refl, ap}
use mathlib.Core.Bool.{Bool, true, false}
use mathlib.Core.List.{List}
use native.Mathlib.Omega.{arith}
use lib.Dec.{eqb}
use lib.IntN.{ℤ}
use lib.Ieee.{Float}
use lib.ListN.{length}
use Rattle.rates.specs.Answers.{number_of}
use Rattle.rates.specs.declared.answer.Refusal.TheVariants.{EarsDiffer}
use Rattle.judging.specs.Judge.{judged}
use Rattle.judging.specs.declared.plan.SideInfo.{SideInfo}
use Rattle.judging.specs.declared.plan.Plan.{Plan}
use Rattle.telling.specs.Told.{judged_fitted, told_of}
use Rattle.telling.proofs.Agreement.{Agree, refused, accepted, frame_agrees}
use Rattle.decoder.specs.State.{fit_decoder}
use Rattle.decoder.specs.Frame as frames
use Rattle.decoder.specs.Frame.{done, framed_with, framed}
use Rattle.decoder.specs.declared.state.Decoder.{Decoder}
use Rattle.decoder.specs.declared.frame.Framed.{Framed}
use Rattle.settling_laws.specs.Calls.{Given, framed_by}
use Rattle.ears_judging.specs.Judge.{Shared, two_frames, judged_ear}
use Rattle.ears.specs.Both.{ear_framed}
use Rattle.ears_laws.specs.Calls as ears
use Rattle.ears_laws.specs.Calls.{WhichEar, left_ear, right_ear, EarGiven, ear_framed_by, given_to, pitch_of, samples_of}
use Rattle.c_telling.specs.Tellings.{told_done, told_by, told_for}
use Rattle.nabiteke.specs.DecoderArrays.{DecoderArrays, read_decoder}
use Rattle.nabiteke.specs.DecoderCalls.{frame_call}
use Rattle.nabiteke.specs.EarCalls.{HeadsetArrays, read_headset, both_call, arrays_of, answer_to}
use Rattle.nabiteke.specs.ToldCalls.{told_numbers, told_call}

-- A frame of a decoder with these numbers and side information that gave this is done as it is told: there is a plan by which it was made, and what is
-- told is that plan.
pub record AsTold (numbers : List ℕ) (d : Decoder) (numerators denominators : List Float) (side : SideInfo) (samples : List Float)
    (given : Framed × List Float) : Type 0 where
  pub plan : Plan
  pub made : given ≡ done (frames.accepted d plan numerators denominators samples)
  pub told : told_call numbers side ≡ told_numbers (told_done (told_of plan side.pitch))

-- by the verdict
by_verdict : (numbers : List ℕ) (d : Decoder) (numerators denominators : List Float) (side : SideInfo) (samples : List Float) {v w : Result Plan Refusal} →
    Agree v w → told_call numbers side ≡ told_numbers (told_by side.pitch w) →
    number_of (framed_with d numerators denominators samples v).0.answer ≡ 0 →
    AsTold numbers d numerators denominators side samples (framed_with d numerators denominators samples v)
by_verdict numbers d numerators denominators side samples (refused answer h) t e = absurd (h e)
by_verdict numbers d numerators denominators side samples (accepted plan) t e = record { plan = plan; made = refl; told = t }

-- one decoder
pub told_done_lem : (a : DecoderArrays) (f : Given) → (frame_call a f).0 ≡ 0 →
    AsTold a.numbers (read_decoder a) f.numerators f.denominators f.side f.samples (framed_by (read_decoder a) f)
unfolding frame_call framed judged told_for
told_done_lem a f e =
    by_verdict a.numbers (read_decoder a) f.numerators f.denominators f.side f.samples
    (frame_agrees (read_decoder a).registers.marks f.numerators f.denominators f.side (λ c. eqb (length f.samples) c.nf) f.samples
    (fit_decoder (read_decoder a))) refl e

pub told_refused_lem : (a : DecoderArrays) (f : Given) → ((told_call a.numbers f.side).0 ≡ 0 → ⊥) → (frame_call a f).0 ≡ 0 → ⊥
told_refused_lem a f h e = h (ap (λ (t : ℕ × List ℕ × ℤ). t.0) (told_done_lem a f e).told)

-- an ear
ear_agrees : (b : Bool) (s : Shared) (d : Decoder) (side : SideInfo) (own : List Float) → side.nbits ≡ s.nbits →
    Agree (judged_ear b s d.registers side.pitch own) (judged_fitted d.registers.marks side (fit_decoder d))
ear_agrees false s d side own n = refused EarsDiffer (never_done EarsDiffer)
ear_agrees true s d side own n = rw (← n) (frame_agrees d.registers.marks s.numerators s.denominators side (two_frames s.count) own (fit_decoder d))

-- its side information
abbrev pub side_of : WhichEar → ears.Given → SideInfo
side_of e f = record { pitch = pitch_of e f; nbits = f.nbits }

pub ear_told : (e : WhichEar) (a : HeadsetArrays) (f : ears.Given) → answer_to e (both_call a f).0 ≡ 0 →
    AsTold (arrays_of e a).numbers (read_decoder (arrays_of e a)) f.numerators f.denominators (side_of e f) (samples_of e f.samples)
    (ear_framed_by (read_decoder (arrays_of e a)) (given_to e (read_headset a) f))
unfolding both_call ear_framed told_for
ear_told left_ear a f z =
    let g = given_to left_ear (read_headset a) f in
    by_verdict a.left.numbers (read_decoder a.left) f.numerators f.denominators (side_of left_ear f) g.samples
    (ear_agrees g.shared.alike g.shared (read_decoder a.left) (side_of left_ear f) g.samples refl) refl z
ear_told right_ear a f z =
    let g = given_to right_ear (read_headset a) f in
    by_verdict a.right.numbers (read_decoder a.right) f.numerators f.denominators (side_of right_ear f) g.samples
    (ear_agrees g.shared.alike g.shared (read_decoder a.right) (side_of right_ear f) g.samples refl) refl z

pub ear_told_refused : (e : WhichEar) (a : HeadsetArrays) (f : ears.Given) → ((told_call (arrays_of e a).numbers (side_of e f)).0 ≡ 0 → ⊥) →
    answer_to e (both_call a f).0 ≡ 0 → ⊥
ear_told_refused e a f h z = h (ap (λ (t : ℕ × List ℕ × ℤ). t.0) (ear_told e a f z).told)
