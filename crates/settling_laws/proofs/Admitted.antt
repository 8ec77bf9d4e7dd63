-- An accepted frame: what of it matters after judging, the state that it leaves, fit again, and the pasts moved along by it.
use Prim.Native.Nat.{◌+◌, ◌%◌}
use mathlib.Core.Path.{◌≡◌, refl, ◌∙◌}
use mathlib.Core.Bool.{Bool, true, false}
use mathlib.Core.List.{List, ◌++◌}
use native.Mathlib.Omega.{arith}
use borrow.Author.Tests.{eqb-true}
use lib.Dec.{ltb, eqb}
use lib.Ieee.{Float}
use lib.ListN.{length, drop, length-append, length-drop}
use Rattle.std.proofs.Common.{Option}
use Rattle.slices.specs.Slices.{stored}
use Rattle.slices.proofs.Stored.{length_stored}
use Rattle.rates.specs.declared.config.Lc3Config.{Lc3Config}
use Rattle.rates.proofs.Known.{both}
use Rattle.lag.specs.declared.rescale.Lag.{Lag}
use Rattle.lag.specs.declared.gain.Gain.{Gain}
use Rattle.filter.specs.Transition.{transition_of}
use Rattle.filter.proofs.OutputsLong.{outputs_long}
use Rattle.control.specs.State.{no_lag, lag_fits}
use Rattle.control.specs.Next.{next_marks}
use Rattle.control.specs.declared.marks.Marks.{Marks}
use Rattle.judging.specs.declared.plan.Plan.{Plan}
use Rattle.control.proofs.StaysFit.{stays_fit}
use Rattle.rings.specs.Ring.{straight, next_block}
use Rattle.on_ring.specs.Registers.{block_fits}
use Rattle.rings.specs.Samples.{filtered}
use Rattle.judging.specs.Filters.{filter_for}
use Rattle.decoder.specs.Frame.{accepted}
use Rattle.decoder.specs.declared.state.Decoder.{Decoder}
use Rattle.rings.proofs.MovingPast.{past_moves_along}
use Rattle.on_ring.proofs.RingFits.{next_block_lem}
use Rattle.settling_laws.specs.Calls.{FitState}
use Rattle.settling_laws.proofs.Held.{held, past_x, past_y}

-- whether it is active, its gain and its lag, the lent rows and its samples
pub record Admitted (c : Lc3Config) : Type 0 where
  pub active : Bool
  pub gain : Option Gain
  pub lag : Lag
  pub numerators : List Float
  pub denominators : List Float
  pub samples : List Float
  pub lag_fits_lem : lag_fits c.fs active lag ≡ true
  pub lagless : active ≡ false → lag ≡ no_lag
  pub count : length samples ≡ c.nf

-- the plan for it
abbrev pub plan_with : Marks → Lc3Config → Bool → Option Gain → Lag → Plan
plan_with m c active gain lag = record {
  config = c;
  active = active;
  lag = lag;
  gain = gain;
  transition = transition_of m.ltpf_active_prev active m.lag lag;
}

abbrev pub plan_for : {c : Lc3Config} → Decoder → Admitted c → Plan
plan_for {c} d f = plan_with d.registers.marks c f.active f.gain f.lag

-- the state after it, and its outputs
abbrev pub admit : {c : Lc3Config} → Decoder → Admitted c → Decoder × List Float
admit d f = accepted d (plan_for d f) f.numerators f.denominators f.samples

module _ {c : Lc3Config} {d : Decoder} (s : FitState c d) (f : Admitted c) where
  -- a ring with a frame stored holds the past moved along by it
  moves_along : (ring block : List Float) → length ring ≡ 1080 → length block ≡ c.nf →
      straight (stored ring d.registers.block_start_index block) c.history (next_block c.history c.nf d.registers.block_start_index) ≡
      drop c.nf (straight ring c.history d.registers.block_start_index ++ block)
  moves_along ring block l e =
      let k = held c d s in
      past_moves_along ring block c.history c.nf d.registers.block_start_index e k.block_within (omega (arith, k.sizes.past_fits))

  -- and is as long as before
  stays_long : (ring block : List Float) → length ring ≡ 1080 → length block ≡ c.nf → length (stored ring d.registers.block_start_index block) ≡ 1080
  stays_long ring block l e =
      let k = held c d s in
      let start = d.registers.block_start_index in
      length_stored ring block start (start + length block) refl (omega (arith, k.block_within, k.sizes.past_fits)) ∙ l

  pub admit_long : length (admit d f).1 ≡ c.nf
  unfolding accepted filtered
  admit_long =
      let k = held c d s in
      let z = k.sizes in
      let n = f.count in
      let all : length (past_x c d ++ f.samples) ≡ c.history + c.nf = simp length-append (omega (arith, k.long_x)) in
      simp length-drop (rw (outputs_long _ _ (filter_for (plan_for d f) f.numerators f.denominators) c.fs.fade (past_x c d ++ f.samples) (past_y c d) (omega (arith, k.long_y)), all) (omega arith))

  pub admit_fit : FitState c (admit d f).0
  unfolding accepted next_marks block_fits
  admit_fit =
      let k = held c d s in
      let start = d.registers.block_start_index in
      let multiple = eqb-true (start % c.nf) 0 (both (ltb start c.history) (eqb (start % c.nf) 0) k.block).1 in
      record {
        found = rw (
          k.fitting.config,
          stays_fit d.registers.marks c f.active f.lag f.lag_fits_lem,
          next_block_lem c start (omega (arith, k.sizes)) k.block_within multiple,
        );
        inputs = stays_long d.x_hat_mem f.samples s.inputs f.count;
        outputs = stays_long d.x_hat_ltpf_mem (admit d f).1 s.outputs admit_long;
      }

  pub past_x_next : past_x c (admit d f).0 ≡ drop c.nf (past_x c d ++ f.samples)
  unfolding accepted
  past_x_next = moves_along d.x_hat_mem f.samples s.inputs f.count

  pub past_y_next : past_y c (admit d f).0 ≡ drop c.nf (past_y c d ++ (admit d f).1)
  unfolding accepted
  past_y_next = moves_along d.x_hat_ltpf_mem (admit d f).1 s.outputs admit_long
