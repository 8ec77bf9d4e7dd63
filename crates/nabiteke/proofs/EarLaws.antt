-- BOTH EARS FROM C. `both_calls_kept`, `both_calls_seen`: whatever bytes the arrays hold, calls of both ears from C, one after the other, leave in the
-- arrays of each ear the state that the same calls of the decoders give it, and C sees for each ear what those calls reply to it.
use mathlib.Core.Path.{◌≡◌, refl}
use mathlib.Core.List.{List, map}
use Rattle.call_laws.proofs.Kept.{all_kept, some_shown}
use Rattle.settling_laws.specs.Calls as one
use Rattle.ears_laws.specs.Calls.{WhichEar, left_ear, right_ear, own, Call, start, loss, frame, with_own, after, after_all, if_own, reply_to, headset, replies_to}
use Rattle.nabiteke.specs.DecoderCalls.{arrays_after, seen, shown}
use Rattle.nabiteke.specs.EarCalls.{HeadsetArrays, read_headset, both_call, arrays_of, with_arrays, both_after, seen_for, in_both, both_after_all, all_seen_for}
use Rattle.nabiteke.proofs.EarCalls.{ear_outcome}
use Rattle.nabiteke.proofs.DecoderLaws.{outcome_kept, outcome_settled, call_kept, call_seen}

-- the states after a call of one ear, and after a frame
own_kept : (e : WhichEar) (a : HeadsetArrays) (c : one.Call) →
    read_headset (with_arrays e a (arrays_after (arrays_of e a) c)) ≡ with_own e (read_headset a) (one.after (own e (read_headset a)) c)
own_kept left_ear a c = rw (call_kept a.left c)
own_kept right_ear a c = rw (call_kept a.right c)

both_call_kept : (a : HeadsetArrays) (c : Call) → read_headset (both_after a c) ≡ after (read_headset a) c
unfolding both_call
both_call_kept a (start e rate duration) = own_kept e a (one.start rate duration)
both_call_kept a (loss e) = own_kept e a one.loss
both_call_kept a (frame f) = rw (outcome_kept a.left (ear_outcome left_ear (read_headset a) f), outcome_kept a.right (ear_outcome right_ear (read_headset a) f))

-- and what C sees of it
own_seen : (e which : WhichEar) (a : HeadsetArrays) (c : one.Call) →
    if_own e which (seen (arrays_of e a) c) ≡ map shown (if_own e which (one.reply (own e (read_headset a)) c))
own_seen left_ear left_ear a c = rw (call_seen a.left c)
own_seen left_ear right_ear a c = refl
own_seen right_ear left_ear a c = refl
own_seen right_ear right_ear a c = rw (call_seen a.right c)

both_call_seen : (e : WhichEar) (a : HeadsetArrays) (c : Call) → seen_for e a c ≡ map shown (reply_to e (read_headset a) c)
unfolding both_call
both_call_seen e a (start which rate duration) = own_seen e which a (one.start rate duration)
both_call_seen e a (loss which) = own_seen e which a one.loss
both_call_seen left_ear a (frame f) = rw (outcome_settled a.left (ear_outcome left_ear (read_headset a) f))
both_call_seen right_ear a (frame f) = rw (outcome_settled a.right (ear_outcome right_ear (read_headset a) f))

-- calls one after the other
pub both_calls_kept : (a : HeadsetArrays) (calls : List Call) → read_headset (both_after_all a calls) ≡ after_all (read_headset a) calls
both_calls_kept = all_kept in_both headset read_headset both_call_kept

pub both_calls_seen : (e : WhichEar) (a : HeadsetArrays) (calls : List Call) → all_seen_for e a calls ≡ map shown (replies_to e (read_headset a) calls)
both_calls_seen e = some_shown in_both headset read_headset both_call_kept shown (seen_for e) (reply_to e) (both_call_seen e)
