-- What a frame call of the encoder comes to: refused with the state as it was, or done with a state that can be written.
use Rattle.rates.specs.declared.answer.Refusal.{Refusal}
use Rattle.std.proofs.Common.{Result, Ok, Err}
use Prim.Native.Nat.{ℕ, ◌≤◌}
use mathlib.Core.Path.{◌≡◌, refl, ap}
use mathlib.Core.Bool.{Bool, true, false, cond, ◌&&◌}
use native.Mathlib.Omega.{arith}
use borrow.Author.Tests.{leb-true}
use lib.Dec.{leb, eqb}
use lib.ListN.{length}
use Rattle.rates.specs.Answers.{number_of}
use Rattle.rates.specs.Configs.{config_of}
use Rattle.rates.specs.Answers.{Answer}
use Rattle.rates.specs.declared.answer.Refusal.TheVariants.{UnfitState, CoefficientCount, CoefficientNotFinite, SampleCount, TooManyBits}
use Rattle.rates.specs.declared.config.Lc3Config.{Lc3Config}
use Rattle.encoder_refusals.specs.Refusals.{fit_by, counted, finite_set, judged_set, judged_count, judged_bits}
use Rattle.encoder.specs.State.{fit_config}
use Rattle.encoder.specs.Judge.{judged}
use Rattle.encoder.specs.Frame.{refused_frame, encoded}
use Rattle.encoder.specs.declared.frame.Framed.{Framed}
use Rattle.encoder.specs.declared.state.Encoder.{Encoder}
use Rattle.rates.proofs.Known.{both}
use Rattle.encoder.proofs.Frames.{stays_fit}
use Rattle.encoder.specs.Calls.{Given, framed_with}

-- a fit state has a small lag
fit_lag : (e : Encoder) (c : Lc3Config) → fit_config e ≡ Ok c → e.t_prev ≤ 114
fit_lag e c h = go (config_of e.rate e.duration) (leb 17 e.t_prev && leb e.t_prev 114) refl h
  where
    go : (k : Result Lc3Config Refusal) (b : Bool) → (leb 17 e.t_prev && leb e.t_prev 114) ≡ b → fit_by k b ≡ Ok c → e.t_prev ≤ 114
    go (Ok d) true p q = leb-true e.t_prev 114 (both (leb 17 e.t_prev) (leb e.t_prev 114) p).1
    go (Ok d) false p q = let differ : ◌≡◌ {A = ℕ} 0 1 = cc in absurd (omega arith)
    go (Err a) b p q = let differ : ◌≡◌ {A = ℕ} 0 1 = cc in absurd (omega arith)

-- what a frame call can give
pub data Outcome (e : Encoder) : Framed → Type 0 where
  refusal : (b : Refusal) → Outcome e (refused_frame e (Err b))
  success : (r : Framed) → r.answer ≡ Ok tt → r.encoder.t_prev ≤ 114 → Outcome e r

pub outcome : (e : Encoder) (f : Given) → Outcome e (framed_with e f)
unfolding judged encoded
outcome e f = go (judged e f.resampling f.correlation f.signal f.samples f.nbits) refl
  where
    go : (k : Result Lc3Config Refusal) → judged e f.resampling f.correlation f.signal f.samples f.nbits ≡ k → Outcome e (framed_with e f)
    go (Err a) h = rw h (refusal a)
    go (Ok c) h =
        success (framed_with e f) (rw h)
        (fit_lag (framed_with e f).encoder c (stays_fit e f.resampling f.correlation f.signal f.samples f.nbits f.near c h))
