-- A state that holds nothing but 0.0: silence keeps it so, and an active frame of silence begins with a number.
use Prim.Native.Nat.{ℕ, ◌+◌, ◌-◌, ◌*◌, ◌<◌}
use mathlib.Core.Path.{◌≡◌, refl, ◌∙◌}
use mathlib.Core.Bool.{Bool, true, false, cond}
use mathlib.Core.List.{List, ◌++◌, append-nil}
use native.Mathlib.Omega.{arith}
use lib.Dec.{ltb}
use lib.Ieee.{Float, nan, mul, round}
use lib.ListN.{length, replicate, get_or-replicate}
use lib.Seq.{get_or-take}
use Rattle.std.proofs.Common.{Option, None, Ok}
use Rattle.floats.specs.Single.{◌⊖◌, ◌⊗◌, 0·0, at, decimal}
use Rattle.rates.specs.Configs.{config_of}
use Rattle.rates.specs.declared.config.Lc3Config.{Lc3Config}
use Rattle.lag.specs.Gain.{gain_of, bits_of, on}
use Rattle.lag.specs.declared.gain.Gain.{Gain}
use Rattle.coefficients.specs.Coefficients.{gain_value, filter_of, new_filter}
use Rattle.filter.specs.Fade.{factor, faded}
use Rattle.filter.specs.declared.fade.Direction.TheVariants.{In}
use Rattle.control.specs.State.{cleared_marks}
use Rattle.control.proofs.Sizes.{FromTable, from_table, sized}
use Rattle.judging.proofs.Readable.{gain_row_lem, inside_reach}
use Rattle.rings.specs.Ring.{straight}
use Rattle.decoder.specs.State.{cleared}
use Rattle.decoder.specs.declared.state.Decoder.{Decoder}
use Rattle.settling_laws.specs.Calls.{FitState}
use Rattle.settling_laws.proofs.Held.{held, past_x, past_y}
use Rattle.settling_laws.proofs.Admitted.{admit, past_x_next, past_y_next}
use Rattle.settling_laws.proofs.Hearing.{quieted, quiet_frame}
use Rattle.settling_laws.proofs.FitStates.{cleared_fit}
use Rattle.settling_laws.proofs.Quieting.{quiet_copy, quieted_inactive}
use Rattle.settling_laws.proofs.Nans.{ZeroTo, F-zero, append_zero, moved_zero, scaled_zero}
use Rattle.settling_laws.proofs.Silence.{longest, longest_fits, silent, length_silent, loud, loud_filter, silent_fit, first_sample}

-- nothing but 0.0, and its last frame was inactive
pub record Silent (c : Lc3Config) (d : Decoder) : Type 0 where
  pub fit : FitState c d
  pub inactive : d.registers.marks.ltpf_active_prev ≡ false
  pub inputs : ZeroTo c.history (past_x c d)
  pub outputs : ZeroTo c.history (past_y c d)

-- the first past of a ring
at_past : (ring : List Float) (history i : ℕ) → i < history → at (straight ring history 0) i ≡ at ring i
unfolding straight
at_past ring history i h = rw append-nil (get_or-take (history - 0) ring i nan (omega arith))

pub silent_start : (rate duration : ℕ) (c : Lc3Config) → config_of rate duration ≡ Ok c → Silent c (cleared rate duration)
unfolding cleared cleared_marks
silent_start rate duration c e =
    let z = sized c (from_table rate duration c e) in
    let zero_past : ZeroTo c.history (straight (replicate 1080 0·0) c.history 0) =
    λ i h. at_past (replicate 1080 0·0) c.history i h ∙ get_or-replicate 1080 i 0·0 nan (omega arith) in
    record { fit = cleared_fit rate duration c e; inactive = refl; inputs = zero_past; outputs = zero_past }

zero_samples : (n : ℕ) → ZeroTo n (replicate n 0·0)
zero_samples n i h = get_or-replicate n i 0·0 nan h

pub silent_next : (c : Lc3Config) (d : Decoder) → Silent c d → Silent c (quieted c d (silent c)).0
silent_next c d s =
    let k = held c d s.fit in
    let count = length_silent c in
    let f = quiet_frame c (silent c) count in
    record {
      fit = silent_fit c d s.fit;
      inactive = quieted_inactive c d (silent c);
      inputs = rw (past_x_next s.fit f) (moved_zero (past_x c d) (silent c) c.history c.nf k.long_x s.inputs (zero_samples c.nf));
      outputs = rw (past_y_next s.fit f, quiet_copy c d s.fit (silent c) count s.inactive)
          (moved_zero (past_y c d) (silent c) c.history c.nf k.long_y s.outputs (zero_samples c.nf));
    }

-- a gain times 0.0 is 0.0
gain_zero : (i t : ℕ) → (gain_value (gain_of i t) ⊗ 0·0 ≡ 0·0) × (decimal 85 2 ⊗ gain_value (gain_of i t) ⊗ 0·0 ≡ 0·0)
unfolding gain_of mul round
gain_zero i t = go (ltb t (320 + 80 * i)) (ltb t (400 + 80 * i)) (ltb t (480 + 80 * i)) (ltb t (560 + 80 * i))
  where
    gain : Bool → Bool → Bool → Bool → Option Gain
    gain a b c d = cond a (on 40 0) (cond b (on 35 1) (cond c (on 30 2) (cond d (on 25 3) None)))

    go : (a b c d : Bool) → (gain_value (gain a b c d) ⊗ 0·0 ≡ 0·0) × (decimal 85 2 ⊗ gain_value (gain a b c d) ⊗ 0·0 ≡ 0·0)
    go true b c d = (refl, refl)
    go false true c d = (refl, refl)
    go false false true d = (refl, refl)
    go false false false true = (refl, refl)
    go false false false false = (refl, refl)

-- and so is every coefficient of the active frame
zero_filter : (c : Lc3Config) → FromTable c → ZeroTo (c.fs.l_den - 1) (loud_filter c).c_num × ZeroTo (c.fs.l_den + 1) (loud_filter c).c_den
unfolding new_filter filter_of
zero_filter c k =
    let z = sized c k in
    let g = gain_zero c.fs.fs_ind (bits_of c.n_ms 0) in (
      scaled_zero 11 (c.fs.l_den - 1) _ _ g.1 (gain_row_lem c.fs.fs_ind (bits_of c.n_ms 0)),
      scaled_zero 13 (c.fs.l_den + 1) (longest c.fs).quarter _ g.0 (omega arith),
    )

-- its first sample is a number
pub silent_first : (c : Lc3Config) (d : Decoder) → Silent c d → at (admit d (loud c)).1 0 ≡ 0·0 ⊖ 0·0 ⊗ factor In c.fs.fade 0
unfolding faded new_filter filter_of
silent_first c d s =
    let k = held c d s.fit in
    let z = k.sizes in
    let t = zero_filter c k.from in
    let i = inside_reach c k.from (loud_filter c) refl (longest c.fs) refl (longest_fits c.fs) in
    let e : length (past_y c d) - length (past_y c d) ≡ 0 = omega arith in
    let x = append_zero (past_x c d) (silent c) c.history c.nf k.long_x s.inputs (zero_samples c.nf) in
    let long = k.long_y in
    first_sample c d s.fit s.inactive
    ∙ rw (
      F-zero (loud_filter c) (past_x c d ++ silent c) (past_y c d) (length (past_y c d)) (omega arith) (omega arith) t.0 t.1
          (λ j h. x j (omega arith)) (λ j h. s.outputs j (omega arith)),
      x (length (past_y c d)) (omega arith),
      e,
    )
