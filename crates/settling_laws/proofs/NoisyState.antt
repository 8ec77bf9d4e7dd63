-- A state whose past outputs are NaNs, and whose last frame was active with the longest lag. The fade of an inactive frame keeps NaNs, and after
-- a second one a filter of the longest lag still reads one of them.
use Prim.Native.Nat.{ℕ, ◌+◌, ◌-◌, ◌/◌, ◌<◌}
use mathlib.Core.Path.{◌≡◌, refl, ◌∙◌, ap}
use mathlib.Core.Bool.{Bool, true, false}
use mathlib.Core.List.{◌++◌}
use native.Mathlib.Omega.{arith}
use borrow.Author.Tests.{ltb-true, ltb-false}
use lib.Dec.{ltb}
use lib.Ieee.{nan}
use lib.ListN.{length, take, drop, replicate, length-replicate, get_or-append}
use lib.Seq.{get_or-drop, get_or-append-add}
use Rattle.std.proofs.Common.{Ok}
use Rattle.floats.specs.Single.{0·0, at}
use Rattle.rates.specs.Configs.{config_of}
use Rattle.rates.specs.declared.config.Lc3Config.{Lc3Config}
use Rattle.lag.specs.Lag.{rescaled}
use Rattle.lag.proofs.Lags.{quarters_ends}
use Rattle.coefficients.specs.Coefficients.{filter_of, new_filter}
use Rattle.filter.specs.Fade.{faded, grow}
use Rattle.filter.specs.Transition.{transition_of, outputs, case_deactivated}
use Rattle.filter.specs.declared.fade.Direction.TheVariants.{In, Out}
use Rattle.filter.proofs.Growing.{length_grow}
use Rattle.control.specs.State.{cleared_marks}
use Rattle.judging.specs.Filters.{kept_filter}
use Rattle.control.specs.Next.{next_marks}
use Rattle.control.proofs.Sizes.{from_table, sized}
use Rattle.control.proofs.StaysFit.{stays_fit}
use Rattle.control.proofs.Reaching.{reach_within}
use Rattle.control.proofs.LeastLimit.{two_frames_short}
use Rattle.rings.specs.Ring.{straight}
use Rattle.rings.specs.Samples.{filtered}
use Rattle.decoder.specs.Frame.{accepted}
use Rattle.decoder.specs.declared.state.Decoder.{Decoder}
use Rattle.on_ring.proofs.RingFits.{first_block}
use Rattle.settling_laws.specs.Calls.{FitState}
use Rattle.settling_laws.proofs.Held.{held, past_x, past_y}
use Rattle.settling_laws.proofs.Admitted.{admit, past_y_next}
use Rattle.settling_laws.proofs.Hearing.{quieted, quiet_frame}
use Rattle.settling_laws.proofs.Quieting.{quieted_inactive}
use Rattle.settling_laws.proofs.Nans.{AllNan, nan_replicate, nan_append, nan_take, nan_drop, faded_nan, grow_nan}
use Rattle.settling_laws.proofs.Silence.{longest, longest_fits, silent, length_silent, loud, loud_filter, silent_fit, older_output, first_sample}

-- a start's, but for its past outputs and its last frame
abbrev pub noisy : ℕ → ℕ → Lc3Config → Decoder
noisy rate duration c = record {
  registers = record { marks = next_marks (cleared_marks rate duration) true (longest c.fs); block_start_index = 0 };
  kept = replicate 24 0·0;
  x_hat_mem = replicate 1080 0·0;
  x_hat_ltpf_mem = replicate 1080 nan;
}

pub noisy_fit : (rate duration : ℕ) (c : Lc3Config) → config_of rate duration ≡ Ok c → FitState c (noisy rate duration c)
unfolding next_marks cleared_marks
noisy_fit rate duration c e =
    let z = sized c (from_table rate duration c e) in
    record {
      found = rw (
        e,
        stays_fit (cleared_marks rate duration) c true (longest c.fs) (longest_fits c.fs),
        first_block c (omega arith),
      );
      inputs = length-replicate 1080 0·0;
      outputs = length-replicate 1080 nan;
    }

pub noisy_past : (rate duration : ℕ) (c : Lc3Config) → AllNan (past_y c (noisy rate duration c))
unfolding straight
noisy_past rate duration c =
    let ring = replicate 1080 nan in
    nan_append (take (c.history - 0) (drop 0 ring)) (take 0 ring)
    (nan_take (c.history - 0) (drop 0 ring) (nan_drop 0 ring (nan_replicate 1080))) (nan_take 0 ring (nan_replicate 1080))

pub noisy_active : (rate duration : ℕ) (c : Lc3Config) → (noisy rate duration c).registers.marks.ltpf_active_prev ≡ true
unfolding next_marks
noisy_active rate duration c = refl

-- such a state, given silence
module _ (c : Lc3Config) (d : Decoder) (s : FitState c d) (p : d.registers.marks.ltpf_active_prev ≡ true) (h : AllNan (past_y c d)) where
  -- the fade of the first inactive frame keeps the NaNs
  fade_nan : (j : ℕ) → j < c.fs.fade → at (quieted c d (silent c)).1 j ≡ nan
  unfolding accepted filtered transition_of outputs case_deactivated
  fade_nan j l =
      let k = held c d s in
      let old = kept_filter c.fs d.registers.marks d.kept in
      let x = past_x c d ++ silent c in
      let f = faded Out (length (past_y c d)) c.fs.fade old x in
      rw p (get_or-drop c.history _ j nan
      ∙ get_or-append (grow f (past_y c d) c.fs.fade) _ nan (c.history + j) (omega (arith, k.long_y, length_grow f (past_y c d) c.fs.fade))
      ∙ grow_nan f (λ y n. faded_nan Out (length (past_y c d)) c.fs.fade old x y (n _)) (past_y c d) h c.fs.fade (c.history + j))

  past_nan : (i : ℕ) → c.nf + i < c.history + c.fs.fade → at (past_y c (quieted c d (silent c)).0) i ≡ nan
  past_nan i l =
      rw (past_y_next s (quiet_frame c (silent c) (length_silent c)))
      (get_or-drop c.nf (past_y c d ++ (quieted c d (silent c)).1) i nan ∙ go (ltb (c.nf + i) c.history) refl)
    where
      go : (b : Bool) → ltb (c.nf + i) c.history ≡ b → at (past_y c d ++ (quieted c d (silent c)).1) (c.nf + i) ≡ nan
      go true q =
          get_or-append (past_y c d) _ nan (c.nf + i) (omega (arith, ltb-true (c.nf + i) c.history q, (held c d s).long_y)) ∙ h (c.nf + i)
      go false q =
          let k = (held c d s).long_y in
          let late = ltb-false (c.nf + i) c.history q in
          let split : c.nf + i ≡ length (past_y c d) + (c.nf + i - c.history) = omega arith in
          ap (at (past_y c d ++ (quieted c d (silent c)).1)) split ∙ get_or-append-add (past_y c d) _ (c.nf + i - c.history) nan
          ∙ fade_nan (c.nf + i - c.history) (omega arith)

  -- and a filter of the longest lag still reads one of them after the second
  pub noisy_first : at (admit (quieted c (quieted c d (silent c)).0 (silent c)).0 (loud c)).1 0 ≡ nan
  unfolding new_filter filter_of
  noisy_first =
      let one = (quieted c d (silent c)).0 in
      let s1 = silent_fit c d s in
      let two = (quieted c one (silent c)).0 in
      let s2 = silent_fit c one s1 in
      let k = held c two s2 in
      let z = k.sizes in
      let long = k.long_y in
      let within = reach_within c k.from in
      let frame_long = k.from.1.frame in
      let short = two_frames_short k.from.0 c.fs k.from.1.row c.n_ms in
      let whole : (longest c.fs).whole ≡ rescaled c.fs.r 912 / 4 = ap (λ (q : ℕ). rescaled c.fs.r q / 4) quarters_ends.1 in
      let oldest = length (past_y c two) + c.fs.l_den / 2 - (longest c.fs).whole - c.fs.l_den in
      first_sample c two s2 (quieted_inactive c one (silent c))
      ∙ faded_nan In (length (past_y c two)) c.fs.fade (loud_filter c) (past_x c two ++ silent c) (past_y c two)
      (older_output c one s1 oldest (omega arith) ∙ past_nan (c.nf + oldest) (omega arith))
