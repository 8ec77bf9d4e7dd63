-- What is known of a fit state: its parts, and the lengths of its pasts.
use Prim.Native.Nat.{◌+◌, ◌≤◌}
use mathlib.Core.Path.{◌≡◌}
use mathlib.Core.Bool.{true}
use mathlib.Core.List.{List}
use native.Mathlib.Omega.{arith}
use lib.Ieee.{Float}
use lib.ListN.{length}
use Rattle.rates.specs.declared.config.Lc3Config.{Lc3Config}
use Rattle.control.proofs.Sizes.{FromTable, from_table, Sized, sized}
use Rattle.control.proofs.Fit.{Fits}
use Rattle.rings.specs.Ring.{straight}
use Rattle.on_ring.specs.Registers.{block_fits}
use Rattle.decoder.specs.declared.state.Decoder.{Decoder}
use Rattle.rings.proofs.StraightLines.{length_straight}
use Rattle.on_ring.proofs.RingFits.{ring_fits_lem, block_inside}
use Rattle.settling_laws.specs.Calls.{FitState}

-- the straight pasts of a state
abbrev pub past_x : Lc3Config → Decoder → List Float
past_x c d = straight d.x_hat_mem c.history d.registers.block_start_index

abbrev pub past_y : Lc3Config → Decoder → List Float
past_y c d = straight d.x_hat_ltpf_mem c.history d.registers.block_start_index

-- what is known of a fit state
pub record Held (c : Lc3Config) (d : Decoder) : Type 0 where
  pub from : FromTable c
  pub sizes : Sized c
  pub fitting : Fits c d.registers.marks
  pub block : block_fits c d.registers.block_start_index ≡ true
  pub block_within : d.registers.block_start_index + c.nf ≤ c.history
  pub long_x : length (past_x c d) ≡ c.history
  pub long_y : length (past_y c d) ≡ c.history

pub held : (c : Lc3Config) (d : Decoder) → FitState c d → Held c d
held c d s =
    let f = ring_fits_lem d.registers c s.found in
    let r = f.0 in
    let k = from_table d.registers.marks.rate d.registers.marks.duration c r.config in
    let z = sized c k in
    let b = block_inside c d.registers.block_start_index k f.1 in
    record {
      from = k;
      sizes = z;
      fitting = r;
      block = f.1;
      block_within = b;
      long_x = length_straight d.x_hat_mem c.history d.registers.block_start_index (omega arith) (omega (arith, s.inputs));
      long_y = length_straight d.x_hat_ltpf_mem c.history d.registers.block_start_index (omega arith) (omega (arith, s.outputs));
    }
