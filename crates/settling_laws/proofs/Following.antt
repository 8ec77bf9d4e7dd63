-- From a start, call by call: the state stays fit, and its count is that of its calls.
use Prim.Native.Nat.{ℕ, ◌≤◌}
use mathlib.Core.Path.{◌≡◌, refl, sym, ◌∙◌, ap}
use mathlib.Core.Bool.{false}
use mathlib.Core.List.{List, [], ◌∷◌}
use native.Mathlib.Omega.{arith}
use Rattle.std.proofs.Common.{Option, Some, None, Result, Ok, Err}
use Rattle.rates.specs.Table.{row_of}
use Rattle.rates.specs.Durations.{duration_of}
use Rattle.rates.specs.Configs.{configured, config_of}
use Rattle.rates.specs.Answers.{number_of}
use Rattle.rates.specs.declared.config.Lc3Config.{Lc3Config}
use Rattle.rates.specs.declared.answer.Refusal.{Refusal}
use Rattle.rates.specs.declared.duration.FrameDuration.{FrameDuration}
use Rattle.rates.specs.declared.table.Rate.{Rate}
use Rattle.control.specs.State.{cleared_marks}
use Rattle.judging.proofs.Judging.{declined, passed}
use Rattle.decoder.specs.State.{cleared, started_with, started}
use Rattle.decoder.specs.declared.state.Decoder.{Decoder}
use Rattle.decoder.specs.declared.frame.Framed.{Framed}
use Rattle.settling_laws.specs.Calls.{Call, start, frame, loss, after, reply, from_start, events_from, Event, restart, event, since, FitState}
use Rattle.settling_laws.proofs.Judging.{OutcomeOf, outcome_of, framed_on, event_judged, after_judged, reply_judged}
use Rattle.settling_laws.proofs.FitStates.{started_fit, unsettled_decoder, lost_done, after_lost, unsettled_fit, judged_fit}
use Rattle.settling_laws.proofs.Counting.{Counted, counted_anew, counted_judged}

-- a fit state whose count is that of its calls
pub record Followed (d : Decoder) (es : List Event) : Type 0 where
  pub config : Lc3Config
  pub fit : FitState config d
  pub counted : Counted d es

followed_start : (rate duration : ℕ) (es : List Event) → since es ≡ [] → Followed (started rate duration).decoder es
unfolding cleared cleared_marks
followed_start rate duration es e =
    let f = started_fit rate duration in
    let k = clear (config_of rate duration) in
    record { config = f.0; fit = f.1; counted = counted_anew (started rate duration).decoder es k.0 k.1 e }
  where
    clear : (k : Result Lc3Config Refusal) → ((started_with rate duration k).decoder.registers.marks.run ≡ 0) × ((started_with rate duration k).decoder.registers.marks.settled ≡ false)
    clear (Ok c) = (refl, refl)
    clear (Err refusal) = (refl, refl)

followed_after : (d : Decoder) (es : List Event) (c : Call) → Followed d es → Followed (after d c) (event d c ∷ es)
followed_after d es (start rate duration) k = followed_start rate duration (restart ∷ es) refl
followed_after d es (frame f) k =
    let c = k.config in
    rw (event_judged c f d k.fit, after_judged c f d k.fit)
    (record { config = c; fit = judged_fit c f d k.fit (outcome_of c f); counted = counted_judged c f d es k.counted (outcome_of c f) })
followed_after d es loss k =
    let c = k.config in
    rw (after_lost c d k.fit)
    (record { config = c; fit = unsettled_fit c d k.fit; counted = counted_anew (unsettled_decoder d) (restart ∷ es) refl refl refl })

-- a call reports the mark of the state that it leaves
pub reports_mark : (k : Lc3Config) (d : Decoder) → FitState k d → (c : Call) → (reply d c).settled ≡ (after d c).registers.marks.settled
reports_mark k d s (start rate duration) = refl
reports_mark k d s (frame f) = rw (reply_judged k f d s, after_judged k f d s) (go (outcome_of k f))
  where
    go : (o : OutcomeOf k f) → (framed_on k f d o).0.settled ≡ (framed_on k f d o).0.decoder.registers.marks.settled
    go (declined why l h) = refl
    go (passed lag p) = refl
reports_mark k d s loss = ap (λ (r : Framed). r.settled) (lost_done k d s) ∙ sym (ap (λ (e : Decoder). e.registers.marks.settled) (after_lost k d s))

-- no answer of a fit state is above 8
pub answer_small : (k : Lc3Config) (d : Decoder) → FitState k d → (c : Call) → number_of (reply d c).answer ≤ 8
answer_small k d s (start rate duration) = go (row_of rate) (duration_of duration)
  where
    go : (r : Option Rate) (t : Option FrameDuration) → number_of (started_with rate duration (configured r t)).answer ≤ 8
    go None t = omega arith
    go (Some row) None = omega arith
    go (Some row) (Some t) = omega arith
answer_small k d s (frame f) = rw (reply_judged k f d s) (go (outcome_of k f))
  where
    go : (o : OutcomeOf k f) → number_of (framed_on k f d o).0.answer ≤ 8
    go (declined why l h) = h
    go (passed lag p) = omega arith
answer_small k d s loss = rw (lost_done k d s) (omega arith)

pub followed : (rate duration : ℕ) (calls : List Call) → Followed (from_start rate duration calls) (events_from rate duration calls)
followed rate duration [] = followed_start rate duration [] refl
followed rate duration (c ∷ earlier) =
    followed_after (from_start rate duration earlier) (events_from rate duration earlier) c (followed rate duration earlier)
