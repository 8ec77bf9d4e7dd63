-- Fit states from call to call.
use Prim.Native.Nat.{ℕ}
use mathlib.Core.Path.{◌≡◌, refl, ap}
use mathlib.Core.List.{List, [], ◌∷◌, map}
use native.Mathlib.Omega.{arith}
use lib.ListN.{length-replicate}
use Rattle.std.proofs.Common.{Result, Ok, Err}
use Rattle.floats.specs.Single.{0·0}
use Rattle.rates.specs.Table.{find}
use Rattle.rates.specs.Configs.{config_of}
use Rattle.rates.specs.declared.config.Lc3Config.{Lc3Config}
use Rattle.rates.specs.declared.answer.Refusal.{Refusal}
use Rattle.control.specs.State.{cleared_marks}
use Rattle.control.specs.Next.{unsettled}
use Rattle.control.proofs.Sizes.{from_table, sized}
use Rattle.control.proofs.StaysFit.{start_fits, lost_fits}
use Rattle.judging.proofs.Judging.{declined, passed}
use Rattle.decoder.specs.State.{cleared, started_with, started}
use Rattle.decoder.specs.Frame.{lost_from, framed_as}
use Rattle.decoder.specs.InPlace.{joined}
use Rattle.decoder.specs.declared.state.Decoder.{Decoder}
use Rattle.decoder.specs.declared.frame.Framed.{Framed}
use Rattle.on_ring.proofs.RingFits.{first_block}
use Rattle.settling_laws.specs.Calls.{Given, frame, loss, framed_by, after, after_all, FitState, Fit}
use Rattle.settling_laws.proofs.Held.{held}
use Rattle.settling_laws.proofs.Admitted.{admit_fit}
use Rattle.settling_laws.proofs.Judging.{OutcomeOf, outcome_of, framed_on, framed_judged, admitted}

-- a cleared state of a known rate and duration
pub cleared_fit : (rate duration : ℕ) (c : Lc3Config) → config_of rate duration ≡ Ok c → FitState c (cleared rate duration)
unfolding cleared cleared_marks
cleared_fit rate duration c e =
    let z = sized c (from_table rate duration c e) in
    record {
      found = rw (e, start_fits rate duration c, first_block c (omega arith));
      inputs = length-replicate 1080 0·0;
      outputs = length-replicate 1080 0·0;
    }

-- a start, refused or not
pub started_fit : (rate duration : ℕ) → Fit (started rate duration).decoder
unfolding find
started_fit rate duration = go (config_of rate duration) refl
  where
    go : (k : Result Lc3Config Refusal) → config_of rate duration ≡ k → Fit (started_with rate duration k).decoder
    go (Ok c) e = (c, cleared_fit rate duration c e)
    go (Err refusal) e = (_, cleared_fit 48000 10000 _ refl)

-- a loss mark changes the marks
abbrev pub unsettled_decoder : Decoder → Decoder
unsettled_decoder d = joined (record { marks = unsettled d.registers.marks; block_start_index = d.registers.block_start_index }) d.kept
    d.x_hat_mem d.x_hat_ltpf_mem

-- and is accepted
pub lost_done : (c : Lc3Config) (d : Decoder) → FitState c d → lost_from d ≡ framed_as (Ok tt) (unsettled_decoder d)
unfolding lost_from
lost_done c d s = rw s.found

pub after_lost : (c : Lc3Config) (d : Decoder) → FitState c d → after d loss ≡ unsettled_decoder d
after_lost c d s = ap (λ (r : Framed). r.decoder) (lost_done c d s)

pub unsettled_fit : (c : Lc3Config) (d : Decoder) → FitState c d → FitState c (unsettled_decoder d)
unsettled_fit c d s =
    let k = held c d s in
    record { found = rw (k.fitting.config, lost_fits d.registers.marks c k.fitting, k.block); inputs = s.inputs; outputs = s.outputs }

-- a frame, whatever its outcome
pub judged_fit : (c : Lc3Config) (f : Given) (d : Decoder) → FitState c d → (o : OutcomeOf c f) → FitState c (framed_on c f d o).0.decoder
judged_fit c f d s (declined why l h) = s
judged_fit c f d s (passed lag p) = admit_fit s (admitted c f lag p)

pub framed_fit : (c : Lc3Config) (f : Given) (d : Decoder) → FitState c d → FitState c (framed_by d f).0.decoder
framed_fit c f d s = rw (framed_judged c f d s) (judged_fit c f d s (outcome_of c f))

pub frames_fit : (c : Lc3Config) (d : Decoder) → FitState c d → (fs : List Given) → FitState c (after_all d (map frame fs))
frames_fit c d s [] = s
frames_fit c d s (f ∷ earlier) = framed_fit c f (after_all d (map frame earlier)) (frames_fit c d s earlier)
