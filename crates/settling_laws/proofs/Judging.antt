-- What a frame given to a fit state comes to: a refusal that only the frame decides, or an accepted frame.
use mathlib.Core.Path.{◌≡◌, refl, ap}
use mathlib.Core.Bool.{cond}
use mathlib.Core.List.{List}
use native.Mathlib.Omega.{arith}
use borrow.Author.Tests.{ne_eqb}
use lib.Dec.{eqb}
use lib.Ieee.{Float}
use Rattle.rates.specs.Answers.{number_of, refusal_number}
use Rattle.rates.specs.declared.config.Lc3Config.{Lc3Config}
use Rattle.lag.specs.Sent.{sent_of}
use Rattle.lag.specs.Gain.{gain_of, bits_of}
use Rattle.lag.specs.declared.rescale.Lag.{Lag}
use Rattle.judging.specs.Pitch.{is_active}
use Rattle.judging.proofs.Lags.{lag_for_fits, lag_for_none}
use Rattle.judging.proofs.Judging.{Passed, Outcome, declined, passed, verdict, outcome}
use Rattle.decoder.specs.Frame.{framed_with, framed}
use Rattle.decoder.specs.declared.state.Decoder.{Decoder}
use Rattle.decoder.specs.declared.frame.Framed.{Framed}
use Rattle.settling_laws.specs.Calls.{Given, frame, framed_by, after, reply_of, reply, Event, quiet, active, refusal, event, FitState}
use Rattle.settling_laws.proofs.Admitted.{Admitted}

-- what judging comes to, the same for every fit state
abbrev pub OutcomeOf : Lc3Config → Given → Type 0
OutcomeOf c f = Outcome c f.numerators f.denominators f.side f.samples

unfoldable pub outcome_of : (c : Lc3Config) (f : Given) → OutcomeOf c f
outcome_of c f = (outcome c f.numerators f.denominators f.side f.samples).0

-- what the call gives back then
abbrev pub framed_on : (c : Lc3Config) (f : Given) → Decoder → OutcomeOf c f → Framed × List Float
framed_on c f d o =
    framed_with d f.numerators f.denominators f.samples (verdict c f.numerators f.denominators f.side f.samples d.registers.marks o)

pub framed_judged : (c : Lc3Config) (f : Given) (d : Decoder) → FitState c d → framed_by d f ≡ framed_on c f d (outcome_of c f)
unfolding framed outcome_of
framed_judged c f d s = rw (s.found, (outcome c f.numerators f.denominators f.side f.samples).1 d.registers.marks)

-- the frame that passed
abbrev pub admitted : (c : Lc3Config) (f : Given) (lag : Lag) → Passed c f.numerators f.denominators f.side f.samples lag → Admitted c
admitted c f lag p = record {
  active = is_active f.side.pitch;
  gain = gain_of c.fs.fs_ind (bits_of c.n_ms f.side.nbits);
  lag = lag;
  numerators = f.numerators;
  denominators = f.denominators;
  samples = f.samples;
  lag_fits_lem = lag_for_fits c.fs (sent_of f.side.pitch) lag p.found;
  lagless = lag_for_none c.fs (sent_of f.side.pitch) lag p.found;
  count = p.count;
}

-- what the frame was, by its outcome
abbrev pub happened : (c : Lc3Config) (f : Given) → OutcomeOf c f → Event
happened c f (declined why l h) = refusal
happened c f (passed lag p) = cond (is_active f.side.pitch) active (quiet f.samples)

pub event_judged : (c : Lc3Config) (f : Given) (d : Decoder) → FitState c d → event d (frame f) ≡ happened c f (outcome_of c f)
event_judged c f d s = rw (framed_judged c f d s) (go (outcome_of c f))
  where
    go : (o : OutcomeOf c f) →
        cond (eqb (number_of (framed_on c f d o).0.answer) 0) (cond (is_active f.side.pitch) active (quiet f.samples)) refusal ≡ happened c f o
    go (declined why l h) = rw (ne_eqb (refusal_number why) 0 (λ e. omega arith))
    go (passed lag p) = refl

pub after_judged : (c : Lc3Config) (f : Given) (d : Decoder) → FitState c d → after d (frame f) ≡ (framed_on c f d (outcome_of c f)).0.decoder
after_judged c f d s = ap (λ (r : Framed × List Float). r.0.decoder) (framed_judged c f d s)

pub reply_judged : (c : Lc3Config) (f : Given) (d : Decoder) → FitState c d → reply d (frame f) ≡ reply_of (framed_on c f d (outcome_of c f))
reply_judged c f d s = ap reply_of (framed_judged c f d s)
