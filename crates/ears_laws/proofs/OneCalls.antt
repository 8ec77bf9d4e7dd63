-- The calls of an ear as calls of one decoder: a frame that is not the frame of one decoder is refused, so a frame that every fit state refuses
-- stands in its place. Fit states stay fit, and the states and the events are the same.
use mathlib.Core.Path.{◌≡◌, refl, sym, ◌∙◌, ap}
use mathlib.Core.Bool.{Bool, true, false, cond, and-false}
use mathlib.Core.List.{List, [], ◌∷◌, ◌++◌, map}
use native.Mathlib.Omega.{arith}
use borrow.Author.Tests.{ne_eqb}
use Prim.Native.Nat.{◌+◌, ◌*◌}
use lib.Ieee.{Float}
use Rattle.std.proofs.Common.{Ok, Err}
use Rattle.rates.specs.Answers.{refusal_number}
use Rattle.rates.proofs.Refusals.{never_done}
use Rattle.rates.specs.declared.answer.Refusal.TheVariants.{CoefficientCount}
use Rattle.rates.specs.declared.config.Lc3Config.{Lc3Config}
use Rattle.lag.specs.declared.pitch.PitchRecord.TheVariants.{Absent}
use Rattle.judging.specs.Judge.{judged}
use Rattle.decoder.specs.Frame.{framed_as, framed}
use Rattle.decoder.specs.declared.state.Decoder.{Decoder}
use Rattle.decoder.specs.declared.frame.Framed.{Framed}
use Rattle.settling_laws.specs.Calls as one
use Rattle.settling_laws.proofs.FitStates.{started_fit, after_lost, unsettled_fit, framed_fit}
use Rattle.ears_laws.specs.Calls.{Headset, WhichEar, left_ear, right_ear, Call, start, loss, frame, after_all, if_own, EarGiven, EarCall, to_ear, calls_of, ear_after_all, ear_events, ear, ear_frames}
use Rattle.ears_laws.proofs.AsOne.{Halved, whole, as_one, refusal_of, whole_framed, other_framed}
use Rattle.ears_laws.proofs.Interference.{given_halved}

-- no set has no entries
abbrev unheard : one.Given
unheard = record { numerators = []; denominators = []; side = record { pitch = Absent; nbits = 0 }; samples = [] }

unheard_refused : (c : Lc3Config) (d : Decoder) → one.FitState c d → one.framed_by d unheard ≡ (framed_as (Err CoefficientCount) d, [])
unfolding framed judged
unheard_refused c d s = rw (s.found, ne_eqb 0 (4 * (c.fs.l_den + 1)) (λ e. omega arith), and-false)

abbrev pub one_given : EarGiven → one.Given
one_given g = cond (whole g) (as_one g) unheard

abbrev pub one_call : EarCall → one.Call
one_call (one.start rate duration) = one.start rate duration
one_call one.loss = one.loss
one_call (one.frame g) = one.frame (one_given g)

-- the samples of a frame are half of an even buffer
abbrev Sound : EarCall → Type 0
Sound (one.start rate duration) = Unit
Sound one.loss = Unit
Sound (one.frame g) = Halved g

abbrev pub AllSound : List EarCall → Type 0
AllSound [] = Unit
AllSound (c ∷ earlier) = Sound c × AllSound earlier

-- one call, given to a fit state
module _ (c : Lc3Config) (d : Decoder) (s : one.FitState c d) where
  pub same_call : (call : EarCall) → Sound call → (ear.after d call ≡ one.after d (one_call call)) × (one.event_with ear_frames d call ≡ one.event d (one_call call))
  same_call (one.start rate duration) h = (refl, refl)
  same_call one.loss h = (refl, refl)
  same_call (one.frame g) h = go (whole g) refl
    where
      state : Framed × List Float → Decoder
      state r = r.0.decoder

      go : (b : Bool) → whole g ≡ b → (ear.after d (one.frame g) ≡ one.after d (one.frame (cond b (as_one g) unheard))) ×
          (one.event_with ear_frames d (one.frame g) ≡ one.event d (one.frame (cond b (as_one g) unheard)))
      go true w = (ap state (whole_framed g d w), rw (whole_framed g d w))
      go false w = (
        ap state (other_framed g d h w) ∙ sym (ap state (unheard_refused c d s)),
        rw (other_framed g d h w, unheard_refused c d s, s.found, ne_eqb (refusal_number (refusal_of g.shared.alike g.shared (Ok c))) 0 (never_done (refusal_of g.shared.alike g.shared (Ok c)))),
      )

  call_fit : (call : EarCall) → Sound call → one.Fit (ear.after d call)
  call_fit (one.start rate duration) h = started_fit rate duration
  call_fit one.loss h = rw (after_lost c d s) (c, unsettled_fit c d s)
  call_fit (one.frame g) h = rw (same_call (one.frame g) h).0 (c, framed_fit c (one_given g) d s)

-- and a list of them
pub record Stand (d : Decoder) (calls : List EarCall) : Type 0 where
  pub fit : one.Fit (ear_after_all d calls)
  pub state : ear_after_all d calls ≡ one.after_all d (map one_call calls)
  pub events : ear_events d calls ≡ one.events d (map one_call calls)

pub stand : (d : Decoder) → one.Fit d → (calls : List EarCall) → AllSound calls → Stand d calls
stand d f [] h = record { fit = f; state = refl; events = refl }
stand d f (c ∷ earlier) h =
    let k = stand d f earlier h.1 in
    let same = same_call k.fit.0 (ear_after_all d earlier) k.fit.1 c h.0 in
    record {
      fit = call_fit k.fit.0 (ear_after_all d earlier) k.fit.1 c h.0;
      state = same.0 ∙ ap (λ (e : Decoder). one.after e (one_call c)) k.state;
      events = rw (same.1, k.state, k.events);
    }

-- what calls of both ears are to an ear is such a list
if_sound : (e which : WhichEar) (c : EarCall) → Sound c → AllSound (if_own e which c)
if_sound left_ear left_ear c h = (h, tt)
if_sound left_ear right_ear c h = tt
if_sound right_ear left_ear c h = tt
if_sound right_ear right_ear c h = (h, tt)

sound_both : (late early : List EarCall) → AllSound late → AllSound early → AllSound (late ++ early)
sound_both [] early l k = k
sound_both (c ∷ late) early l k = (l.0, sound_both late early l.1 k)

module _ (e : WhichEar) where
  to_sound : (h : Headset) (c : Call) → AllSound (to_ear e h c)
  to_sound h (start which rate duration) = if_sound e which (one.start rate duration) tt
  to_sound h (loss which) = if_sound e which one.loss tt
  to_sound h (frame f) = (given_halved e h f, tt)

  pub all_sound : (h : Headset) (calls : List Call) → AllSound (calls_of e h calls)
  all_sound h [] = tt
  all_sound h (c ∷ earlier) = sound_both (to_ear e (after_all h earlier) c) (calls_of e h earlier) (to_sound (after_all h earlier) c) (all_sound h earlier)
