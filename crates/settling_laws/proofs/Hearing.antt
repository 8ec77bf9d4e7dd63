-- Calls that were accepted inactive frames and refused ones: what they leave of a state is decided by the samples of those inactive frames.
use Prim.Native.Nat.{ℕ}
use mathlib.Core.Path.{◌≡◌, refl, ◌∙◌, ap, subst}
use mathlib.Core.Bool.{Bool, true, false, cond}
use mathlib.Core.List.{List, [], ◌∷◌}
use lib.Ieee.{Float}
use lib.ListN.{length}
use Rattle.std.proofs.Common.{None}
use Rattle.rates.specs.declared.table.Rate.{Rate}
use Rattle.rates.specs.declared.config.Lc3Config.{Lc3Config}
use Rattle.coefficients.specs.Coefficients.{new_filter}
use Rattle.judging.specs.Pitch.{is_active}
use Rattle.control.specs.State.{no_lag, lag_fits}
use Rattle.control.specs.Next.{next_marks}
use Rattle.judging.proofs.Judging.{declined, passed}
use Rattle.decoder.specs.Frame.{accepted}
use Rattle.decoder.specs.declared.state.Decoder.{Decoder}
use Rattle.settling_laws.specs.Calls.{Given, Call, start, frame, loss, after_all, Event, restart, quiet, active, refusal, event, events, still, heard, FitState}
use Rattle.settling_laws.proofs.Admitted.{Admitted, plan_with, admit, admit_fit}
use Rattle.settling_laws.proofs.Judging.{OutcomeOf, outcome_of, framed_on, admitted, happened, event_judged, after_judged}

-- an accepted inactive frame: neither its lent set nor its gain nor its lag matters, so none stand here
abbrev pub quieted : Lc3Config → Decoder → List Float → Decoder × List Float
quieted c d samples = accepted d (plan_with d.registers.marks c false None no_lag) [] [] samples

pub no_lag_fits : (fs : Rate) → lag_fits fs false no_lag ≡ true
unfolding lag_fits
no_lag_fits fs = refl

abbrev pub quiet_frame : (c : Lc3Config) (samples : List Float) → length samples ≡ c.nf → Admitted c
quiet_frame c samples count =
    record { active = false; gain = None; lag = no_lag; numerators = []; denominators = []; samples = samples; lag_fits_lem = no_lag_fits c.fs; lagless = λ e. refl; count = count }

pub same_quieted : (c : Lc3Config) (d : Decoder) (f : Admitted c) → f.active ≡ false → admit d f ≡ quieted c d f.samples
unfolding accepted next_marks new_filter
same_quieted c d f p = rw (p, f.lagless p)

-- the state after inactive frames with these samples, the latest first
abbrev pub quiet_all : Lc3Config → Decoder → List (List Float) → Decoder
quiet_all c d [] = d
quiet_all c d (s ∷ earlier) = (quieted c (quiet_all c d earlier) s).0

abbrev pub AllLong : ℕ → List (List Float) → Type 0
AllLong n [] = Unit
AllLong n (s ∷ earlier) = (length s ≡ n) × AllLong n earlier

-- calls that were nothing but inactive frames and refused ones leave no more than those inactive frames would
pub record Heard (c : Lc3Config) (d e : Decoder) (es : List Event) : Type 0 where
  pub fit : FitState c e
  pub state : e ≡ quiet_all c d (heard es)
  pub long : AllLong c.nf (heard es)

heard_judged : (c : Lc3Config) (f : Given) (d e : Decoder) (es : List Event) → Heard c d e es → (o : OutcomeOf c f) →
    still (happened c f o ∷ es) ≡ true → Heard c d (framed_on c f e o).0.decoder (happened c f o ∷ es)
heard_judged c f d e es r (declined why l h) q = record { fit = r.fit; state = r.state; long = r.long }
heard_judged c f d e es r (passed lag p) q = go (is_active f.side.pitch) refl q
  where
    taken : Admitted c
    taken = admitted c f lag p

    go : (b : Bool) → is_active f.side.pitch ≡ b → still (cond b active (quiet f.samples) ∷ es) ≡ true →
        Heard c d (admit e taken).0 (cond b active (quiet f.samples) ∷ es)
    go true i q = cc
    go false i q =
        record {
          fit = admit_fit r.fit taken;
          state = ap (λ (o : Decoder × List Float). o.0) (same_quieted c e taken i) ∙ ap (λ (x : Decoder). (quieted c x f.samples).0) r.state;
          long = (p.count, r.long);
        }

still_rest : (x : Event) (es : List Event) → still (x ∷ es) ≡ true → still es ≡ true
still_rest restart es q = cc
still_rest (quiet s) es q = q
still_rest active es q = cc
still_rest refusal es q = q

pub heard_calls : (c : Lc3Config) (d : Decoder) → FitState c d → (calls : List Call) → still (events d calls) ≡ true → Heard c d (after_all d calls) (events d calls)
heard_calls c d s [] q = record { fit = s; state = refl; long = tt }
heard_calls c d s (start rate duration ∷ earlier) q = cc
heard_calls c d s (loss ∷ earlier) q = cc
heard_calls c d s (frame f ∷ earlier) q =
    let e = after_all d earlier in
    let r = heard_calls c d s earlier (still_rest (event e (frame f)) (events d earlier) q) in
    let was = event_judged c f e r.fit in
    rw (was, after_judged c f e r.fit)
    (heard_judged c f d e (events d earlier) r (outcome_of c f) (subst (λ (x : Event). still (x ∷ events d earlier) ≡ true) was q))
