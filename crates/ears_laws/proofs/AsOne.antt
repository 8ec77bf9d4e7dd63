-- An ear's frame: where the ears name one rate and duration and the buffer's length is even it is the frame of one decoder, and else a refusal.
-- Either way it gives as many samples as it was given, and rings of the same length.
use Prim.Native.Nat.{ℕ, ◌*◌}
use mathlib.Core.Path.{◌≡◌, refl, sym, ◌∙◌, ap}
use mathlib.Core.Bool.{Bool, true, false, cond, ◌&&◌}
use mathlib.Core.List.{List}
use native.Mathlib.Omega.{arith}
use borrow.Author.Tests.{eqb-true, eqb-false, ne_eqb}
use lib.Dec.{eqb}
use lib.Ieee.{Float}
use lib.ListN.{length}
use Rattle.std.proofs.Common.{Result, Ok, Err}
use Rattle.rates.specs.Answers.{refusal_number}
use Rattle.rates.specs.declared.answer.Refusal.TheVariants.{CoefficientCount, CoefficientNotFinite, SampleCount, EarsDiffer}
use Rattle.rates.specs.declared.config.Lc3Config.{Lc3Config}
use Rattle.rates.specs.declared.answer.Refusal.{Refusal}
use Rattle.judging.specs.Judge.{unless, set_counts, set_finite, judged_frame, judged}
use Rattle.on_ring.specs.declared.registers.Registers.{Registers}
use Rattle.judging.proofs.Judging.{declined, passed}
use Rattle.judging.specs.declared.plan.Plan.{Plan}
use Rattle.on_ring.specs.Registers.{fit_ring}
use Rattle.decoder.specs.State.{fit_decoder}
use Rattle.decoder.specs.Frame.{framed_as, framed_with, framed}
use Rattle.decoder.specs.declared.state.Decoder.{Decoder}
use Rattle.decoder.specs.declared.frame.Framed.{Framed}
use Rattle.ears_judging.specs.Judge.{Shared, two_frames, judged_ear}
use Rattle.ears.specs.Both.{ear_framed}
use Rattle.ears_judging.proofs.Verdicts.{as_single}
use Rattle.settling_laws.specs.Calls as one
use Rattle.settling_laws.proofs.Admitted.{admit_long}
use Rattle.settling_laws.proofs.Judging.{OutcomeOf, outcome_of, framed_on, framed_judged, admitted}
use Rattle.settling_laws.proofs.FitStates.{framed_fit}
use Rattle.ears_laws.specs.Calls.{Rings, EarGiven, ear_framed_by}

-- the ear's samples are half of an even buffer
abbrev pub Halved : EarGiven → Type 0
Halved g = (n : ℕ) → g.shared.count ≡ 2 * n → length g.samples ≡ n

-- whether the frame is that of one decoder, and that frame
abbrev pub whole : EarGiven → Bool
whole g = g.shared.alike && eqb g.shared.count (2 * length g.samples)

abbrev pub as_one : EarGiven → one.Given
as_one g = record {
  numerators = g.shared.numerators;
  denominators = g.shared.denominators;
  side = record { pitch = g.pitch; nbits = g.shared.nbits };
  samples = g.samples;
}

-- the refusal of any other frame, by the ear's configuration
abbrev early : Bool → Bool → Refusal
early counts finite = cond counts (cond finite SampleCount CoefficientNotFinite) CoefficientCount

abbrev pub refusal_of : Bool → Shared → Result Lc3Config Refusal → Refusal
refusal_of false s k = EarsDiffer
refusal_of true s (Err refusal) = refusal
refusal_of true s (Ok c) = early (set_counts c.fs.l_den s.numerators s.denominators) (set_finite s.numerators s.denominators)

early_refusal : (p q : Bool) → ◌≡◌ {A = Result Plan Refusal} (unless p CoefficientCount (unless q CoefficientNotFinite (Err SampleCount))) (Err (early p q))
early_refusal true true = refl
early_refusal true false = refl
early_refusal false q = refl

-- it is not 9
early_fit : (p q : Bool) → refusal_number (early p q) ≡ 9 → ⊥
early_fit true true e = omega arith
early_fit true false e = omega arith
early_fit false q e = omega arith

pub refusal_fit : (b : Bool) (s : Shared) (c : Lc3Config) → refusal_number (refusal_of b s (Ok c)) ≡ 9 → ⊥
refusal_fit false s c e = omega arith
refusal_fit true s c e = early_fit (set_counts c.fs.l_den s.numerators s.denominators) (set_finite s.numerators s.denominators) e

-- an ear's frame by its verdict
abbrev pub on_verdict : Decoder → EarGiven → Result Plan Refusal → Framed × List Float
on_verdict d g v = framed_with d g.shared.numerators g.shared.denominators g.samples v

abbrev pub verdict_on : EarGiven → Bool → Registers → Result Plan Refusal
verdict_on g b r = judged_ear b g.shared r g.pitch g.samples

pub by_verdict : (d : Decoder) (g : EarGiven) → ear_framed_by d g ≡ on_verdict d g (verdict_on g g.shared.alike d.registers)
unfolding ear_framed
by_verdict d g = refl

module _ (g : EarGiven) where
  whole_verdict : (b : Bool) (r : Registers) → (b && eqb g.shared.count (2 * length g.samples)) ≡ true →
      verdict_on g b r ≡ judged r.marks (fit_ring r) g.shared.numerators g.shared.denominators (as_one g).side g.samples
  whole_verdict false r w = cc
  whole_verdict true r w =
      as_single r.marks g.shared.numerators g.shared.denominators (as_one g).side g.samples g.shared.count (fit_ring r)
      (eqb-true g.shared.count (2 * length g.samples) w)

  other_verdict : Halved g → (b : Bool) (r : Registers) → (b && eqb g.shared.count (2 * length g.samples)) ≡ false →
      verdict_on g b r ≡ Err (refusal_of b g.shared (fit_ring r))
  other_verdict h false r w = refl
  other_verdict h true r w = go (fit_ring r)
    where
      go : (k : Result Lc3Config Refusal) → judged_frame r.marks g.shared.numerators g.shared.denominators (as_one g).side (two_frames g.shared.count) g.samples k ≡
          Err (refusal_of true g.shared k)
      go (Err refusal) = refl
      go (Ok c) =
          rw (ne_eqb g.shared.count (2 * c.nf) (λ e. eqb-false g.shared.count (2 * length g.samples) w (rw (h c.nf e) e)))
          (early_refusal (set_counts c.fs.l_den g.shared.numerators g.shared.denominators) (set_finite g.shared.numerators g.shared.denominators))

  pub whole_framed : (d : Decoder) → whole g ≡ true → ear_framed_by d g ≡ one.framed_by d (as_one g)
  unfolding framed
  whole_framed d w = by_verdict d g ∙ ap (on_verdict d g) (whole_verdict g.shared.alike d.registers w)

  pub other_framed : (d : Decoder) → Halved g → whole g ≡ false →
      ear_framed_by d g ≡ (framed_as (Err (refusal_of g.shared.alike g.shared (fit_decoder d))) d, g.samples)
  other_framed d h w = by_verdict d g ∙ ap (on_verdict d g) (other_verdict h g.shared.alike d.registers w)

-- as many samples, and rings as long
abbrev Kept : List Float → Framed × List Float → Type 0
Kept samples r = (length r.1 ≡ length samples) × Rings r.0.decoder

one_keeps : (d : Decoder) (f : one.Given) → Rings d → Kept f.samples (one.framed_by d f)
unfolding framed judged
one_keeps d f r = go (fit_decoder d) refl
  where
    go : (k : Result Lc3Config Refusal) → fit_decoder d ≡ k → Kept f.samples (one.framed_by d f)
    go (Err refusal) e = rw e (refl, r)
    go (Ok c) e =
        let s : one.FitState c d = record { found = e; inputs = r.inputs; outputs = r.outputs } in
        let next = framed_fit c f d s in
        (rw (framed_judged c f d s) (long s (outcome_of c f)), record { inputs = next.inputs; outputs = next.outputs })
      where
        long : one.FitState c d → (o : OutcomeOf c f) → length (framed_on c f d o).1 ≡ length f.samples
        long s (declined why l h) = refl
        long s (passed lag p) = admit_long s (admitted c f lag p) ∙ sym p.count

pub keeps : (d : Decoder) (g : EarGiven) → Rings d → Halved g → Kept g.samples (ear_framed_by d g)
keeps d g r h = go (whole g) refl
  where
    go : (b : Bool) → whole g ≡ b → Kept g.samples (ear_framed_by d g)
    go true w = rw (whole_framed g d w) (one_keeps d (as_one g) r)
    go false w = rw (other_framed g d h w) (refl, r)
