-- ANY TWO LISTENERS, each a decoder by itself, a left ear or a right ear.
-- `any_two_agree`: Take any two, fit, of the same rate and duration. Give each calls until it has accepted the limit's number of inactive frames in a
-- row, with no start and no loss mark of its own; refused frames may be in between. If their samples of those inactive frames were the same, then all
-- later calls that are the same frames to both give both the same answers, settled reports and sample bits.
-- `any_two_together`: Take any two from a start of each, with any calls after it, of one rate and duration; the second has just been started or has just
-- had a loss mark. From here on both are given what is the same frames to both. As soon as the second is settled, the first is settled too, and from
-- then on the same frames give both the same answers, settled reports and sample bits.
-- A frame is the same to two ears where all that the ears share, the record and the samples are equal; for a decoder by itself the states name the
-- same, and the buffer has twice its samples.
use Prim.Native.Nat.{ℕ}
use mathlib.Core.Path.{◌≡◌, refl, sym, ◌∙◌, ap, subst}
use mathlib.Core.Bool.{Bool, true, false}
use mathlib.Core.List.{List, [], ◌∷◌, map}
use Rattle.rates.specs.declared.config.Lc3Config.{Lc3Config}
use Rattle.decoder.specs.State.{started}
use Rattle.decoder.specs.declared.state.Decoder.{Decoder}
use Rattle.settling_laws.specs.Calls as one
use Rattle.settling_laws.proofs.FitStates.{started_fit}
use Rattle.settling_laws.proofs.Agreeing.{Agree, agree_frames, same_replies}
use Rattle.settling_laws.proofs.Agreement.{same_config, settled_alike}
use Rattle.settling_laws.proofs.SettledExactly.{always_fit}
use Rattle.settling_laws.proofs.Together as single
use Rattle.ears_laws.specs.Calls.{EarGiven, EarCall, ear, ear_after_all, ear_replies, ear_events}
use Rattle.ears_laws.specs.Listeners.{Listener, state, WithArrays, Calls, called, replies_in, events_in, calls_in}
use Rattle.ears_laws.proofs.AsOne.{Halved, whole, as_one, whole_framed, other_framed}
use Rattle.ears_laws.proofs.OneCalls.{one_given, one_call, AllSound, same_call, stand}
use Rattle.ears_laws.proofs.Listening.{state_in, replies_in_lem, events_in_lem, sound_in, arrays_in}

-- frames that are the same to an ear, given to states that agree
module _ (c : Lc3Config) where
  same_frame : (a b : Decoder) → Agree c a b → (g : EarGiven) → Halved g → ear.reply a (one.frame g) ≡ ear.reply b (one.frame g)
  same_frame a b k g h = go (whole g) refl
    where
      go : (w : Bool) → whole g ≡ w → ear.reply a (one.frame g) ≡ ear.reply b (one.frame g)
      go true w =
          let same = same_replies c a b k (as_one g ∷ []) in
          let head : one.reply a (one.frame (as_one g)) ≡ one.reply b (one.frame (as_one g)) = cc in
          rw (whole_framed g a w, whole_framed g b w) head
      go false w = rw (other_framed g a h w, other_framed g b h w, k.left.found, k.right.found, k.settled)

  same_frames : (a b : Decoder) → Agree c a b → (later : List EarGiven) → AllSound (map one.frame later) →
      Agree c (ear_after_all a (map one.frame later)) (ear_after_all b (map one.frame later)) ×
      (ear_replies a (map one.frame later) ≡ ear_replies b (map one.frame later))
  same_frames a b k [] h = (k, refl)
  same_frames a b k (g ∷ earlier) h =
      let rest = same_frames a b k earlier h.1 in
      let x = ear_after_all a (map one.frame earlier) in
      let y = ear_after_all b (map one.frame earlier) in (
        rw ((same_call c x rest.0.left (one.frame g) h.0).0, (same_call c y rest.0.right (one.frame g) h.0).0)
            (agree_frames c x y rest.0 (one_given g ∷ [])),
        rw (same_frame x y rest.0 g h.0, rest.1),
      )

-- what listeners whose states agree are given as the same frames
module _ (c : Lc3Config) (l m : Listener) (al : WithArrays l) (am : WithArrays m) (agree : Agree c (state l) (state m)) where
  same_later : (later-l : Calls l) (later-m : Calls m) (later : List EarGiven) →
      calls_in l later-l ≡ map one.frame later → calls_in m later-m ≡ map one.frame later → replies_in l later-l ≡ replies_in m later-m
  same_later later-l later-m later hl hm =
      replies_in_lem l al later-l ∙ ap (ear_replies (state l)) hl ∙ (same_frames c (state l) (state m) agree later (subst AllSound hl (sound_in l later-l))).1
      ∙ sym (replies_in_lem m am later-m ∙ ap (ear_replies (state m)) hm)

-- an ear's calls that settle two states
quiet_agree : (a b : Decoder) (fa : one.Fit a) → one.Fit b →
    a.registers.marks.rate ≡ b.registers.marks.rate → a.registers.marks.duration ≡ b.registers.marks.duration →
    (calls-a calls-b : List EarCall) → AllSound calls-a → AllSound calls-b → one.QuietAlike (ear_events a calls-a) (ear_events b calls-b) →
    Agree fa.0 (ear_after_all a calls-a) (ear_after_all b calls-b)
quiet_agree a b fa fb hz us calls-a calls-b ha hb q =
    let ka = stand a fa calls-a ha in
    let kb = stand b fb calls-b hb in
    rw (ka.state, kb.state)
    (settled_alike fa.0 a b fa.1 (same_config a b fa fb hz us) (map one_call calls-a) (map one_call calls-b) (rw (← ka.events, ← kb.events) q))

pub any_two_agree : (l m : Listener) → WithArrays l → WithArrays m → one.Fit (state l) → one.Fit (state m) →
    (state l).registers.marks.rate ≡ (state m).registers.marks.rate → (state l).registers.marks.duration ≡ (state m).registers.marks.duration →
    (calls-l : Calls l) (calls-m : Calls m) → one.QuietAlike (events_in l calls-l) (events_in m calls-m) →
    (later-l : Calls (called l calls-l)) (later-m : Calls (called m calls-m)) (later : List EarGiven) →
    calls_in (called l calls-l) later-l ≡ map one.frame later → calls_in (called m calls-m) later-m ≡ map one.frame later →
    replies_in (called l calls-l) later-l ≡ replies_in (called m calls-m) later-m
any_two_agree l m al am fl fm hz us calls-l calls-m q =
    same_later fl.0 (called l calls-l) (called m calls-m) (arrays_in l al calls-l) (arrays_in m am calls-m)
    (rw (state_in l calls-l, state_in m calls-m)
    (quiet_agree (state l) (state m) fl fm hz us (calls_in l calls-l) (calls_in m calls-m) (sound_in l calls-l) (sound_in m calls-m)
    (rw (← events_in_lem l calls-l, ← events_in_lem m calls-m) q)))

-- the calls of a listener as those of a decoder by itself, from a start
module _ (l : Listener) (rate duration : ℕ) (from : state l ≡ (started rate duration).decoder) where
  abbrev one_calls : Calls l → List one.Call
  one_calls calls = map one_call (calls_in l calls)

  from_state : (calls : Calls l) → state (called l calls) ≡ one.from_start rate duration (one_calls calls)
  from_state calls =
      let k = stand (state l) (rw from (started_fit rate duration)) (calls_in l calls) (sound_in l calls) in
      state_in l calls ∙ k.state ∙ ap (λ (d : Decoder). one.after_all d (one_calls calls)) from

  from_events : (calls : Calls l) → events_in l calls ≡ one.events_from rate duration (one_calls calls)
  from_events calls =
      let k = stand (state l) (rw from (started_fit rate duration)) (calls_in l calls) (sound_in l calls) in
      events_in_lem l calls ∙ k.events ∙ ap (λ (d : Decoder). one.events d (one_calls calls)) from

frames_as_one : (shared : List EarGiven) → map one_call (map one.frame shared) ≡ map one.frame (map one_given shared)
frames_as_one [] = refl
frames_as_one (g ∷ earlier) = rw (frames_as_one earlier)

-- frames given to a fit listener, as those of a decoder by itself
shared_state : (l : Listener) → one.Fit (state l) → (calls : Calls l) (shared : List EarGiven) → calls_in l calls ≡ map one.frame shared →
    state (called l calls) ≡ one.after_all (state l) (map one.frame (map one_given shared))
shared_state l f calls shared e =
    let k = stand (state l) f (map one.frame shared) (subst AllSound e (sound_in l calls)) in
    state_in l calls ∙ ap (ear_after_all (state l)) e ∙ k.state ∙ ap (one.after_all (state l)) (frames_as_one shared)

module _ (l m : Listener) (al : WithArrays l) (am : WithArrays m) (rate-l duration-l rate-m duration-m : ℕ)
    (from-l : state l ≡ (started rate-l duration-l).decoder) (from-m : state m ≡ (started rate-m duration-m).decoder)
    (before-l : Calls l) (before-m : Calls m)
    (rates : (state (called l before-l)).registers.marks.rate ≡ (state (called m before-m)).registers.marks.rate)
    (durations : (state (called l before-l)).registers.marks.duration ≡ (state (called m before-m)).registers.marks.duration) where
  pub any_two_together : one.since (events_in m before-m) ≡ [] →
      (shared_l : Calls (called l before-l)) (shared-m : Calls (called m before-m)) (shared : List EarGiven) →
      calls_in (called l before-l) shared_l ≡ map one.frame shared → calls_in (called m before-m) shared-m ≡ map one.frame shared →
      (state (called (called m before-m) shared-m)).registers.marks.settled ≡ true →
      ((state (called (called l before-l) shared_l)).registers.marks.settled ≡ true) ×
      ((later-l : Calls (called (called l before-l) shared_l)) (later-m : Calls (called (called m before-m) shared-m)) (later : List EarGiven) →
      calls_in (called (called l before-l) shared_l) later-l ≡ map one.frame later →
      calls_in (called (called m before-m) shared-m) later-m ≡ map one.frame later →
      replies_in (called (called l before-l) shared_l) later-l ≡ replies_in (called (called m before-m) shared-m) later-m)
  any_two_together anew shared_l shared-m shared hl hm settled =
      let x = called l before-l in
      let y = called m before-m in
      let ex = from_state l rate-l duration-l from-l before-l in
      let ey = from_state m rate-m duration-m from-m before-m in
      let bl = one_calls l rate-l duration-l from-l before-l in
      let bm = one_calls m rate-m duration-m from-m before-m in
      let fx : one.Fit (state x) = rw ex (always_fit rate-l duration-l bl) in
      let fy : one.Fit (state y) = rw ey (always_fit rate-m duration-m bm) in
      let sx = shared_state x fx shared_l shared hl in
      let sy = shared_state y fy shared-m shared hm in
      let agree = single.agreed rate-l duration-l rate-m duration-m bl bm (rw (← ex, ← ey) rates) (rw (← ex, ← ey) durations)
      (rw (← from_events m rate-m duration-m from-m before-m) anew) (map one_given shared) (rw (← ey, ← sy) settled) in
      let c = (always_fit rate-l duration-l bl).0 in
      let both : Agree c (state (called x shared_l)) (state (called y shared-m)) = rw (sx, sy, ex, ey) agree in
      (both.settled ∙ settled, same_later c (called x shared_l) (called y shared-m) (arrays_in x (arrays_in l al before-l) shared_l) (arrays_in y (arrays_in m am before-m) shared-m) both)
