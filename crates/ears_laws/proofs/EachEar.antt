-- EACH EAR BY ITSELF. `ear_by_itself`: after any calls of both ears, starts and loss marks of either among them, an ear's state is what the calls
-- that were its own leave of its own state, and the replies that it got are those that these calls give it. The rings are arrays of 1,080 samples.
use Prim.Native.Nat.{ℕ}
use mathlib.Core.Path.{◌≡◌, refl, sym, ◌∙◌, ap}
use mathlib.Core.List.{List, [], ◌∷◌}
use Rattle.std.proofs.Common.{Result, Ok, Err}
use Rattle.call_laws.proofs.Both as both
use Rattle.rates.specs.declared.answer.Refusal.{Refusal}
use Rattle.rates.specs.declared.config.Lc3Config.{Lc3Config}
use Rattle.decoder.specs.State.{started, fit_decoder}
use Rattle.decoder.specs.Frame.{lost_with, lost_from}
use Rattle.decoder.specs.declared.state.Decoder.{Decoder}
use Rattle.settling_laws.specs.Calls as one
use Rattle.settling_laws.proofs.FitStates.{started_fit}
use Rattle.ears_laws.specs.Calls.{Headset, WhichEar, left_ear, right_ear, own, Rings, Arrays, Call, start, loss, frame, with_own, after, after_all, if_own, reply_to, replies_to, EarCall, given_to, to_ear, calls_of, ear_after_all, ear_replies, ear}
use Rattle.ears_laws.proofs.AsOne.{keeps}
use Rattle.ears_laws.proofs.Interference.{given_halved, at_exit}

-- one call: of one ear, or a frame
own_after_one : (e which : WhichEar) (h : Headset) (c : EarCall) → own e (with_own which h (ear.after (own which h) c)) ≡ ear_after_all (own e h) (if_own e which c)
own_after_one left_ear left_ear h c = refl
own_after_one left_ear right_ear h c = refl
own_after_one right_ear left_ear h c = refl
own_after_one right_ear right_ear h c = refl

own_after : (e : WhichEar) (h : Headset) (c : Call) → own e (after h c) ≡ ear_after_all (own e h) (to_ear e h c)
own_after e h (start which rate duration) = own_after_one e which h (one.start rate duration)
own_after e h (loss which) = own_after_one e which h one.loss
own_after left_ear h (frame f) = refl
own_after right_ear h (frame f) = refl

reply_one : (e which : WhichEar) (d : Decoder) (c : EarCall) → if_own e which (ear.reply d c) ≡ ear_replies d (if_own e which c)
reply_one left_ear left_ear d c = refl
reply_one left_ear right_ear d c = refl
reply_one right_ear left_ear d c = refl
reply_one right_ear right_ear d c = refl

pub state_by_itself : (e : WhichEar) (h : Headset) (calls : List Call) → own e (after_all h calls) ≡ ear_after_all (own e h) (calls_of e h calls)
state_by_itself e h [] = refl
state_by_itself e h (c ∷ earlier) =
    let i = after_all h earlier in
    own_after e i c ∙ ap (λ (d : Decoder). ear_after_all d (to_ear e i c)) (state_by_itself e h earlier)
    ∙ sym (both.after_both ear (own e h) (to_ear e i c) (calls_of e h earlier))

-- the rings stay arrays of that length
started_rings : (rate duration : ℕ) → Rings (started rate duration).decoder
started_rings rate duration = let f = started_fit rate duration in record { inputs = f.1.inputs; outputs = f.1.outputs }

lost_rings : (d : Decoder) → Rings d → Rings (lost_from d).decoder
unfolding lost_from
lost_rings d r = go (fit_decoder d)
  where
    go : (k : Result Lc3Config Refusal) → Rings (lost_with d k).decoder
    go (Err refusal) = r
    go (Ok c) = record { inputs = r.inputs; outputs = r.outputs }

with_rings : (e : WhichEar) (h : Headset) (d : Decoder) → Arrays h → Rings d → Arrays (with_own e h d)
with_rings left_ear h d a r = (r, a.1)
with_rings right_ear h d a r = (a.0, r)

own_rings : (e : WhichEar) (h : Headset) → Arrays h → Rings (own e h)
own_rings left_ear h a = a.0
own_rings right_ear h a = a.1

arrays_after_lem : (h : Headset) → Arrays h → (c : Call) → Arrays (after h c)
arrays_after_lem h a (start e rate duration) = with_rings e h _ a (started_rings rate duration)
arrays_after_lem h a (loss e) = with_rings e h _ a (lost_rings (own e h) (own_rings e h a))
arrays_after_lem h a (frame f) = (
  (keeps h.left (given_to left_ear h f) a.0 (given_halved left_ear h f)).1,
  (keeps h.right (given_to right_ear h f) a.1 (given_halved right_ear h f)).1,
)

pub arrays_all : (h : Headset) → Arrays h → (calls : List Call) → Arrays (after_all h calls)
arrays_all h a [] = a
arrays_all h a (c ∷ earlier) = arrays_after_lem (after_all h earlier) (arrays_all h a earlier) c

reply_by_itself : (e : WhichEar) (h : Headset) → Arrays h → (c : Call) → reply_to e h c ≡ ear_replies (own e h) (to_ear e h c)
reply_by_itself e h a (start which rate duration) = reply_one e which (own e h) (one.start rate duration)
reply_by_itself e h a (loss which) = reply_one e which (own e h) one.loss
reply_by_itself e h a (frame f) = ap (λ r. one.reply_of r ∷ []) (at_exit e h a f)

replies_by_itself : (e : WhichEar) (h : Headset) → Arrays h → (calls : List Call) → replies_to e h calls ≡ ear_replies (own e h) (calls_of e h calls)
replies_by_itself e h a [] = refl
replies_by_itself e h a (c ∷ earlier) =
    let i = after_all h earlier in
    rw (reply_by_itself e i (arrays_all h a earlier) c, replies_by_itself e h a earlier, state_by_itself e h earlier)
    (sym (both.each_both ear ear.reply (own e h) (to_ear e i c) (calls_of e h earlier)))

pub ear_by_itself : (e : WhichEar) (h : Headset) → Arrays h → (calls : List Call) →
    (own e (after_all h calls) ≡ ear_after_all (own e h) (calls_of e h calls)) × (replies_to e h calls ≡ ear_replies (own e h) (calls_of e h calls))
ear_by_itself e h a calls = (state_by_itself e h calls, replies_by_itself e h a calls)
