-- A frame of both ears from C: what the functions put together is what its definition says.
use Rattle.rates.specs.declared.answer.Refusal.{Refusal}
use Rattle.rates.specs.declared.config.Lc3Config.{Lc3Config}
use Rattle.std.proofs.Common.{Result, Ok, Err}
use Prim.Native.Nat.{ℕ}
use mathlib.Core.Path.{◌≡◌, refl, ap}
use mathlib.Core.Bool.{Bool, true, false}
use mathlib.Core.List.{List, [], ◌∷◌}
use native.Mathlib.Omega.{arith}
use borrow.Author.Tests.{eqb-false}
use lib.Ieee.{Float}
use Rattle.rates.specs.Answers.{number_of}
use Rattle.decoder.specs.State.{fit_decoder}
use Rattle.decoder.specs.declared.state.Decoder.{Decoder}
use Rattle.ears.specs.InPlace.{both_apart, both_in_place}
use Rattle.ears_judging.specs.declared.ear.Ear.{Ear}
use Rattle.ears.specs.declared.frame.BothFramed.{BothFramed}
use Rattle.ears_laws.specs.Calls.{Headset, WhichEar, left_ear, right_ear, own, Given, framed_both, samples_of, EarGiven, given_to, ear_framed_by}
use Rattle.ears_laws.proofs.AsOne.{Halved, whole, as_one, refusal_of, whole_framed, other_framed}
use Rattle.ears_laws.proofs.Interference.{given_halved}
use Rattle.c_arrays.specs.Words.{narrowed, where_done}
use Rattle.c_arrays.specs.Registers.{numbers_by}
use Rattle.nabiteke.specs.DecoderArrays.{arrays}
use Rattle.nabiteke.specs.EarCalls.{HeadsetArrays, headset_arrays, ear_of, read_headset, both_call}
use Rattle.nabiteke.proofs.DecoderFrames.{Outcome, refusal, outcome}
use Rattle.nabiteke.proofs.DecoderCalls.{outcome_left}

-- an ear's frame is refused with the state as it was, or done with a state that can be written
given_outcome : (d : Decoder) (g : EarGiven) → Halved g → Outcome d g.samples (ear_framed_by d g)
given_outcome d g h = go (whole g) refl
  where
    go : (b : Bool) → whole g ≡ b → Outcome d g.samples (ear_framed_by d g)
    go true w = rw (whole_framed g d w) (outcome d (as_one g))
    go false w = rw (other_framed g d h w) (refusal (refusal_of g.shared.alike g.shared (fit_decoder d)))

pub ear_outcome : (e : WhichEar) (h : Headset) (f : Given) → Outcome (own e h) (samples_of e f.samples) (ear_framed_by (own e h) (given_to e h f))
ear_outcome e h f = given_outcome (own e h) (given_to e h f) (given_halved e h f)

-- what a frame of both in place leaves
abbrev Parts : Type 0
Parts = BothFramed × List Float × List Float × List Float × List Float × List Float × List Float × List Float

module _ (a : HeadsetArrays) (f : Given) (left right : Ear) (st : BothFramed) (lk lx ly rk rx ry out : List Float)
    (from-l : left ≡ ear_of a.left.numbers f.left_pitch) (from-r : right ≡ ear_of a.right.numbers f.right_pitch)
    (made : ◌≡◌ {A = Parts} (st, lk, lx, ly, rk, rx, ry, out)
    (both_in_place left a.left.kept a.left.inputs a.left.outputs right a.right.kept a.right.inputs a.right.outputs
    f.numerators f.denominators f.nbits f.samples)) where
  e : ◌≡◌ {A = Parts} (st, lk, lx, ly, rk, rx, ry, out) (both_apart (framed_both (read_headset a) f))
  e = rw (from-l, from-r) at made

  -- each ear's numbers are written, each by itself
  pub both_left : (lw rw' : ℕ) (ln rn : List ℕ) →
      lw ≡ number_of st.left.answer → ln ≡ where_done st.left.answer (numbers_by narrowed st.left.registers) a.left.numbers →
      rw' ≡ number_of st.right.answer → rn ≡ where_done st.right.answer (numbers_by narrowed st.right.registers) a.right.numbers →
      (lw ∷ rw' ∷ [], headset_arrays (arrays ln lk lx ly) (arrays rn rk rx ry), out) ≡ both_call a f
  unfolding both_call
  both_left lw rw' ln rn p q u v =
      let x = outcome_left a.left st.left lk lx ly lw ln p q (ear_outcome left_ear (read_headset a) f)
      (ap (λ (p : Parts). p.0.left) e) (ap (λ (p : Parts). p.1) e) (ap (λ (p : Parts). p.2) e) (ap (λ (p : Parts). p.3) e) in
      let y = outcome_left a.right st.right rk rx ry rw' rn u v (ear_outcome right_ear (read_headset a) f)
      (ap (λ (p : Parts). p.0.right) e) (ap (λ (p : Parts). p.4) e) (ap (λ (p : Parts). p.5) e) (ap (λ (p : Parts). p.6) e) in
      rw (x.0, x.1, y.0, y.1, ap (λ (p : Parts). p.7) e)
