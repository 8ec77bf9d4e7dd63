-- DEMAND 3, FOR EACH EAR BY ITSELF. An ear's events are what the calls of both ears were to it, by its own samples, record and answers.
-- `ear_always_fit`: an ear that was started stays fit, after every list of calls of both ears. So it is never answered 9: `ear_never_unfit_answer`.
-- `ear_run_within_limit`: its run never exceeds the limit.
-- `ear_marked_exactly` and `ear_settled_exactly`: its state is marked settled, and its reply to a call reports it settled, exactly where, since
-- its last start or loss mark, the limit's number of its accepted inactive frames in a row has been reached.
-- `ear_agreement`: Take the same ear of any two headsets, fit, of the same rate and duration. Give the headsets calls until that ear of each has
-- accepted the limit's number of inactive frames in a row, with no start and no loss mark of its own; refused frames may be in between. If the
-- ear's samples of those inactive frames were the same, then all later calls that are the same frames to that ear (what the ears share, and that
-- ear's record and samples) give it the same answers, settled reports and sample bits. What else the other ears are given is free.
use Prim.Native.Nat.{ℕ, ◌≤◌}
use mathlib.Core.Path.{◌≡◌, refl, sym, ◌∙◌, ap}
use mathlib.Core.Bool.{Bool, true, false}
use mathlib.Core.List.{List, [], ◌∷◌, map}
use native.Mathlib.Omega.{arith}
use Rattle.std.proofs.Common.{Result, Ok, Err}
use Rattle.rates.specs.Answers.{number_of}
use Rattle.rates.specs.declared.config.Lc3Config.{Lc3Config}
use Rattle.rates.specs.declared.answer.Refusal.{Refusal}
use Rattle.control.specs.State.{settled_limit}
use Rattle.judging.specs.declared.plan.Plan.{Plan}
use Rattle.decoder.specs.State.{started}
use Rattle.decoder.specs.declared.state.Decoder.{Decoder}
use Rattle.settling_laws.specs.Calls as one
use Rattle.settling_laws.proofs.FitStates.{started_fit}
use Rattle.settling_laws.proofs.Following.{reports_mark, answer_small}
use Rattle.settling_laws.proofs.SettledExactly.{run_within_limit, marked_exactly}
use Rattle.ears_laws.specs.Calls.{Headset, WhichEar, left_ear, right_ear, own, Arrays, Call, start, loss, frame, with_own, after, after_all, if_own, reply_to, replies_to, EarGiven, given_to, calls_of, ear_framed_by, events_to, EarsSettleAlike}
use Rattle.ears_laws.specs.Listeners.{ear_of}
use Rattle.ears_laws.proofs.AnyTwo.{any_two_agree}
use Rattle.ears_laws.proofs.AsOne.{Halved, refusal_fit, whole, as_one, on_verdict, verdict_on, by_verdict, whole_framed, other_framed}
use Rattle.ears_laws.proofs.Interference.{given_halved}
use Rattle.ears_laws.proofs.EachEar.{state_by_itself}
use Rattle.ears_laws.proofs.OneCalls.{one_call, Stand, stand, all_sound}

-- an ear's frame reports the mark of the state that it leaves
frame_reports : (d : Decoder) (g : EarGiven) → (ear_framed_by d g).0.settled ≡ (ear_framed_by d g).0.decoder.registers.marks.settled
frame_reports d g = go (verdict_on g g.shared.alike d.registers) (by_verdict d g)
  where
    go : (v : Result Plan Refusal) → ear_framed_by d g ≡ on_verdict d g v → (ear_framed_by d g).0.settled ≡ (ear_framed_by d g).0.decoder.registers.marks.settled
    go (Err refusal) e = rw e
    go (Ok plan) e = rw e

only : {x r : one.Reply} → x ∷ [] ≡ r ∷ [] → x ≡ r
only q = cc

if_own_lem : (e which : WhichEar) (x r : one.Reply) → if_own e which x ≡ r ∷ [] → x ≡ r
if_own_lem left_ear left_ear x r q = only q
if_own_lem left_ear right_ear x r q = cc
if_own_lem right_ear left_ear x r q = cc
if_own_lem right_ear right_ear x r q = only q

-- and so does each call of both ears, to an ear that it gives a reply
one_reports : (e which : WhichEar) (h : Headset) (next : Decoder → Decoder) (x r : one.Reply) → x.settled ≡ (next (own e h)).registers.marks.settled →
    if_own e which x ≡ r ∷ [] → r.settled ≡ (own e (with_own which h (next (own which h)))).registers.marks.settled
one_reports left_ear left_ear h next x r m q = rw (← only q) m
one_reports left_ear right_ear h next x r m q = cc
one_reports right_ear left_ear h next x r m q = cc
one_reports right_ear right_ear h next x r m q = rw (← only q) m

call_reports : (e : WhichEar) (h : Headset) → one.Fit (own e h) → (c : Call) (r : one.Reply) → reply_to e h c ≡ r ∷ [] →
    r.settled ≡ (own e (after h c)).registers.marks.settled
call_reports e h k (start which rate duration) r q =
    one_reports e which h (λ d. one.after d (one.start rate duration)) (one.reply (own e h) (one.start rate duration)) r refl q
call_reports e h k (loss which) r q =
    one_reports e which h (λ d. one.after d one.loss) (one.reply (own e h) one.loss) r (reports_mark k.0 (own e h) k.1 one.loss) q
call_reports left_ear h k (frame f) r q = ap (λ (x : one.Reply). x.settled) (sym (only q)) ∙ frame_reports h.left (given_to left_ear h f)
call_reports right_ear h k (frame f) r q = ap (λ (x : one.Reply). x.settled) (sym (only q)) ∙ frame_reports h.right (given_to right_ear h f)

-- no answer to an ear whose state is fit is 9
frame_answer : (k : Lc3Config) (d : Decoder) → one.FitState k d → (g : EarGiven) → Halved g → number_of (ear_framed_by d g).0.answer ≡ 9 → ⊥
frame_answer k d s g h n = go (whole g) refl
  where
    go : (b : Bool) → whole g ≡ b → ⊥
    go true w = omega (arith, answer_small k d s (one.frame (as_one g)), rw (whole_framed g d w) at n)
    go false w = refusal_fit g.shared.alike g.shared k (rw (other_framed g d h w, s.found) at n)

call_answer : (e : WhichEar) (h : Headset) → one.Fit (own e h) → (c : Call) (r : one.Reply) → reply_to e h c ≡ r ∷ [] → number_of r.answer ≡ 9 → ⊥
call_answer e h k (start which rate duration) r q n =
    omega (arith, answer_small k.0 (own e h) k.1 (one.start rate duration), rw (← if_own_lem e which _ r q) at n)
call_answer e h k (loss which) r q n = omega (arith, answer_small k.0 (own e h) k.1 one.loss, rw (← if_own_lem e which _ r q) at n)
call_answer left_ear h k (frame f) r q n =
    frame_answer k.0 h.left k.1 (given_to left_ear h f) (given_halved left_ear h f) (rw (← only q) at n)
call_answer right_ear h k (frame f) r q n =
    frame_answer k.0 h.right k.1 (given_to right_ear h f) (given_halved right_ear h f) (rw (← only q) at n)

-- an ear that was started, beside any other
module _ (e : WhichEar) (h : Headset) (rate duration : ℕ) (from : own e h ≡ (started rate duration).decoder) where
  fit_from : one.Fit (own e h)
  fit_from = rw from (started_fit rate duration)

  stands : (calls : List Call) → Stand (own e h) (calls_of e h calls)
  stands calls = stand (own e h) fit_from (calls_of e h calls) (all_sound e h calls)

  pub ear_always_fit : (calls : List Call) → one.Fit (own e (after_all h calls))
  ear_always_fit calls = rw (state_by_itself e h calls) (stands calls).fit

  pub ear_never_unfit_answer : (c : Call) (earlier : List Call) (r : one.Reply) → reply_to e (after_all h earlier) c ≡ r ∷ [] → number_of r.answer ≡ 9 → ⊥
  ear_never_unfit_answer c earlier = call_answer e (after_all h earlier) (ear_always_fit earlier) c

  pub ear_run_within_limit : (calls : List Call) → (own e (after_all h calls)).registers.marks.run ≤ settled_limit
  ear_run_within_limit calls =
      rw (state_by_itself e h calls, (stands calls).state, from) (run_within_limit rate duration (map one_call (calls_of e h calls)))

  pub ear_marked_exactly : (calls : List Call) →
      (own e (after_all h calls)).registers.marks.settled ≡ one.settled_by (events_to e h calls)
  ear_marked_exactly calls =
      let k = stands calls in
      rw (state_by_itself e h calls, k.state, k.events, from) (marked_exactly rate duration (map one_call (calls_of e h calls)))

  pub ear_settled_exactly : (c : Call) (earlier : List Call) (r : one.Reply) → reply_to e (after_all h earlier) c ≡ r ∷ [] →
      r.settled ≡ one.settled_by (events_to e h (c ∷ earlier))
  ear_settled_exactly c earlier r q = call_reports e (after_all h earlier) (ear_always_fit earlier) c r q ∙ ear_marked_exactly (c ∷ earlier)

pub ear_agreement : (e : WhichEar) (a b : Headset) → Arrays a → Arrays b → one.Fit (own e a) → one.Fit (own e b) →
    (own e a).registers.marks.rate ≡ (own e b).registers.marks.rate → (own e a).registers.marks.duration ≡ (own e b).registers.marks.duration →
    (calls-a calls-b : List Call) → EarsSettleAlike e a b calls-a calls-b →
    (later-a later-b : List Call) (later : List EarGiven) →
    calls_of e (after_all a calls-a) later-a ≡ map one.frame later → calls_of e (after_all b calls-b) later-b ≡ map one.frame later →
    replies_to e (after_all a calls-a) later-a ≡ replies_to e (after_all b calls-b) later-b
ear_agreement e a b = any_two_agree (ear_of e a) (ear_of e b)
