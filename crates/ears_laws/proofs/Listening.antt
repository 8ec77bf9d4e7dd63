-- A listener's calls are calls of an ear: they leave the same state, reply the same and were the same.
use mathlib.Core.Path.{◌≡◌, refl, sym, ◌∙◌, ap}
use mathlib.Core.List.{List, [], ◌∷◌, map}
use Prim.Native.Nat.{◌*◌}
use borrow.Author.Tests.{eq-eqb}
use native.Mathlib.Omega.{arith}
use lib.Ieee.{Float}
use lib.ListN.{length}
use Rattle.decoder.specs.declared.state.Decoder.{Decoder}
use Rattle.decoder.specs.declared.frame.Framed.{Framed}
use Rattle.settling_laws.specs.Calls as one
use Rattle.ears_laws.specs.Calls.{ear_framed_by, ear_frames, ear, ear_after_all, ear_replies, ear_events}
use Rattle.ears_laws.specs.Listeners.{Listener, alone, ear_of, state, WithArrays, Calls, called, replies_in, events_in, as_ear, as_ear_call, calls_in}
use Rattle.ears_laws.proofs.AsOne.{whole_framed}
use Rattle.ears_laws.proofs.EachEar.{state_by_itself, arrays_all, ear_by_itself}
use Rattle.ears_laws.proofs.OneCalls.{AllSound, all_sound}

-- one call of a decoder by itself
same_framed : (d : Decoder) (f : one.Given) → ear_framed_by d (as_ear f) ≡ one.framed_by d f
same_framed d f = whole_framed (as_ear f) d (eq-eqb (2 * length f.samples) (2 * length f.samples) refl)

same_after : (d : Decoder) (c : one.Call) → ear.after d (as_ear_call c) ≡ one.after d c
same_after d (one.start rate duration) = refl
same_after d (one.frame f) = ap (λ (r : Framed × List Float). r.0.decoder) (same_framed d f)
same_after d one.loss = refl

same_reply : (d : Decoder) (c : one.Call) → ear.reply d (as_ear_call c) ≡ one.reply d c
same_reply d (one.start rate duration) = refl
same_reply d (one.frame f) = ap one.reply_of (same_framed d f)
same_reply d one.loss = refl

same_event : (d : Decoder) (c : one.Call) → one.event_with ear_frames d (as_ear_call c) ≡ one.event d c
same_event d (one.start rate duration) = refl
same_event d (one.frame f) = rw (same_framed d f)
same_event d one.loss = refl

-- and all of them
alone_state : (d : Decoder) (calls : List one.Call) → one.after_all d calls ≡ ear_after_all d (map as_ear_call calls)
alone_state d [] = refl
alone_state d (c ∷ earlier) = sym (same_after (one.after_all d earlier) c) ∙ ap (λ (x : Decoder). ear.after x (as_ear_call c)) (alone_state d earlier)

alone_replies : (d : Decoder) (calls : List one.Call) → one.replies d calls ≡ ear_replies d (map as_ear_call calls)
alone_replies d [] = refl
alone_replies d (c ∷ earlier) = rw (← alone_state d earlier, same_reply (one.after_all d earlier) c, alone_replies d earlier)

alone_events : (d : Decoder) (calls : List one.Call) → one.events d calls ≡ ear_events d (map as_ear_call calls)
alone_events d [] = refl
alone_events d (c ∷ earlier) = rw (← alone_state d earlier, same_event (one.after_all d earlier) c, alone_events d earlier)

alone_sound : (calls : List one.Call) → AllSound (map as_ear_call calls)
alone_sound [] = tt
alone_sound (one.start rate duration ∷ earlier) = (tt, alone_sound earlier)
alone_sound (one.frame f ∷ earlier) = (λ n e. omega arith, alone_sound earlier)
alone_sound (one.loss ∷ earlier) = (tt, alone_sound earlier)

-- any listener
pub state_in : (l : Listener) (calls : Calls l) → state (called l calls) ≡ ear_after_all (state l) (calls_in l calls)
state_in (alone d) calls = alone_state d calls
state_in (ear_of e h) calls = state_by_itself e h calls

pub replies_in_lem : (l : Listener) → WithArrays l → (calls : Calls l) → replies_in l calls ≡ ear_replies (state l) (calls_in l calls)
replies_in_lem (alone d) a calls = alone_replies d calls
replies_in_lem (ear_of e h) a calls = (ear_by_itself e h a calls).1

pub events_in_lem : (l : Listener) (calls : Calls l) → events_in l calls ≡ ear_events (state l) (calls_in l calls)
events_in_lem (alone d) calls = alone_events d calls
events_in_lem (ear_of e h) calls = refl

pub sound_in : (l : Listener) (calls : Calls l) → AllSound (calls_in l calls)
sound_in (alone d) calls = alone_sound calls
sound_in (ear_of e h) calls = all_sound e h calls

pub arrays_in : (l : Listener) → WithArrays l → (calls : Calls l) → WithArrays (called l calls)
arrays_in (alone d) a calls = tt
arrays_in (ear_of e h) a calls = arrays_all h a calls
