-- What holds of a frame that is judged to be done: the numbers that its encoding relies on.
use Rattle.rates.specs.declared.answer.Refusal.{Refusal}
use Rattle.std.proofs.Common.{Some, Result, Ok, Err}
use Prim.Native.Nat.{ℕ, ◌≤◌}
use mathlib.Core.Path.{◌≡◌, refl, ◌∙◌, ap}
use mathlib.Core.Bool.{Bool, true, false, cond, ◌&&◌}
use mathlib.Core.List.{List}
use native.Mathlib.Omega.{arith}
use borrow.Author.Tests.{eq-eqb, eqb-true, leb-true}
use lib.IntN.{ℤ}
use lib.Dec.{eqb, leb}
use lib.ListN.{length}
use lib.Ieee.{Float}
use Rattle.floats.specs.Single.{all_finite}
use Rattle.rates.specs.Table.{row_of}
use Rattle.rates.specs.Configs.{config_of, frame_of}
use Rattle.rates.specs.declared.answer.Refusal.TheVariants.{CoefficientCount, CoefficientNotFinite, SampleCount, TooManyBits}
use Rattle.rates.specs.declared.table.Rate.{Rate}
use Rattle.rates.specs.declared.duration.FrameDuration.{FrameDuration}
use Rattle.rates.specs.declared.duration.FrameDuration.TheVariants.{TenMs, SevenPointFiveMs}
use Rattle.rates.specs.declared.config.Lc3Config.{Lc3Config}
use Rattle.rates.proofs.Rows.{bound_at}
use Rattle.rates.proofs.Known.{both, known}
use Rattle.resampling.proofs.Steps.{step_bounds}
use Rattle.encoder_refusals.specs.Refusals.{fit_by, counted, finite_set, judged_set, judged_count, judged_bits, judged_apart}
use Rattle.encoder.specs.State.{fit_config}
use Rattle.encoder.specs.Judge.{judged}
use Rattle.encoder.specs.declared.state.Encoder.{Encoder}

pub record Judged (e : Encoder) (c : Lc3Config) (r k s : List Float) (frame : List ℤ) : Type 0 where
  pub config : config_of e.rate e.duration ≡ Ok c
  pub row : row_of e.rate ≡ Some c.fs
  pub step : (4 ≤ c.fs.p) × (c.fs.p ≤ 24)
  pub samples : (length frame ≡ c.nf) × (c.nf ≤ 480)
  pub set : (length r ≡ 239) × (length k ≡ 31) × (length s ≡ 15)
  pub finite : all_finite r ≡ true
  pub lag : (17 ≤ e.t_prev) × (e.t_prev ≤ 114)

-- a configuration, where a judgement stands
abbrev fine : Lc3Config → Result Lc3Config Refusal
fine c = Ok c

refused_not : (a : Refusal) (c : Lc3Config) → Err a ≡ fine c → ⊥
refused_not a c e = let z : ◌≡◌ {A = ℕ} 0 1 = cc in omega arith

same : (c d : Lc3Config) → fine c ≡ fine d → c ≡ d
same c d e = cc

frame_bound : (hz : ℕ) (row : Rate) (n : FrameDuration) → row_of hz ≡ Some row → frame_of row n ≤ 480
frame_bound hz row TenMs e = bound_at (λ row. row.nf_10) (λ _. 480) tt hz row e
frame_bound hz row SevenPointFiveMs e = bound_at (λ row. row.nf_7p5) (λ _. 480) tt hz row e

-- a fit state has the configuration of its rate and duration, and a lag in its range
fit_state : (f : Result Lc3Config Refusal) (b : Bool) (c : Lc3Config) → fit_by f b ≡ Ok c → (f ≡ Ok c) × (b ≡ true)
fit_state (Ok d) true c e = (e, refl)
fit_state (Ok d) false c e = absurd (refused_not _ c e)
fit_state (Err a) b c e = absurd (refused_not _ c e)

-- a check that is passed had nothing refused before it
bits_passed : (f : Result Lc3Config Refusal) (nbits : ℕ) (c : Lc3Config) → judged_bits f nbits ≡ Ok c → f ≡ Ok c
bits_passed (Err a) nbits c e = e
bits_passed (Ok d) nbits c e = go (leb nbits 3200) e
  where
    go : (b : Bool) → cond b (fine d) (Err TooManyBits) ≡ Ok c → fine d ≡ Ok c
    go true e = e
    go false e = absurd (refused_not _ c e)

count_passed : (f : Result Lc3Config Refusal) (n : ℕ) (c : Lc3Config) → judged_count f n ≡ Ok c → (f ≡ Ok c) × (n ≡ c.nf)
count_passed (Err a) n c e = absurd (refused_not a c e)
count_passed (Ok d) n c e = go (eqb n d.nf) refl e
  where
    go : (b : Bool) → eqb n d.nf ≡ b → cond b (fine d) (Err SampleCount) ≡ Ok c → (fine d ≡ Ok c) × (n ≡ c.nf)
    go true p e = (e, eqb-true _ _ p ∙ ap (λ (x : Lc3Config). x.nf) (same d c e))
    go false p e = absurd (refused_not _ c e)

set_passed : (f : Result Lc3Config Refusal) (r k s : List Float) (c : Lc3Config) → judged_set f r k s ≡ Ok c →
    (f ≡ Ok c) × (counted r k s ≡ true) × (finite_set r k s ≡ true)
set_passed (Err a) r k s c e = absurd (refused_not _ c e)
set_passed (Ok d) r k s c e = go (counted r k s) (finite_set r k s) e
  where
    go : (a b : Bool) → cond a (cond b (fine d) (Err CoefficientNotFinite)) (Err CoefficientCount) ≡ Ok c → (fine d ≡ Ok c) × (a ≡ true) × (b ≡ true)
    go true true e = (e, refl, refl)
    go true false e = absurd (refused_not _ c e)
    go false b e = absurd (refused_not _ c e)

three_counted : (r k s : List Float) → counted r k s ≡ true → (length r ≡ 239) × (length k ≡ 31) × (length s ≡ 15)
unfolding counted
three_counted r k s e =
    let all = both (eqb (length r) 239 && eqb (length k) 31) (eqb (length s) 15) e in
    let two = both (eqb (length r) 239) (eqb (length k) 31) all.0 in
    (eqb-true _ _ two.0, eqb-true _ _ two.1, eqb-true _ _ all.1)

first_finite : (r k s : List Float) → finite_set r k s ≡ true → all_finite r ≡ true
unfolding finite_set
first_finite r k s e = (both (all_finite r) (all_finite k) (both (all_finite r && all_finite k) (all_finite s) e).0).0

pub judged_facts : (e : Encoder) (r k s : List Float) (frame : List ℤ) (nbits : ℕ) (c : Lc3Config) →
    judged e r k s frame nbits ≡ Ok c → Judged e c r k s frame
unfolding judged
judged_facts e r k s frame nbits c h =
    let count = count_passed _ (length frame) c (bits_passed _ nbits c h) in
    let set = set_passed (fit_config e) r k s c count.0 in
    let fit = fit_state (config_of e.rate e.duration) (leb 17 e.t_prev && leb e.t_prev 114) c set.0 in
    let range = both (leb 17 e.t_prev) (leb e.t_prev 114) fit.1 in
    let found = known e.rate e.duration c fit.0 in
    record {
      config = fit.0;
      row = found.row;
      step = step_bounds e.rate c.fs found.row;
      samples = (count.1, rw found.frame (frame_bound e.rate c.fs c.n_ms found.row));
      set = three_counted r k s set.1;
      finite = first_finite r k s set.2;
      lag = (leb-true _ _ range.0, leb-true _ _ range.1);
    }

-- a frame that has the count of its configuration is judged as a call that brings no samples
pub right_count : (e : Encoder) (r k s : List Float) (frame : List ℤ) (nbits : ℕ) → ((c : Lc3Config) → fit_config e ≡ Ok c → length frame ≡ c.nf) →
    judged e r k s frame nbits ≡ judged_apart (fit_config e) r k s nbits
unfolding judged
right_count e r k s frame nbits h = ap (λ (f : Result Lc3Config Refusal). judged_bits f nbits) (go (fit_config e) refl)
  where
    counts : (c : Lc3Config) → fit_config e ≡ Ok c → (a b : Bool) →
        judged_count (cond a (cond b (Ok c) (Err CoefficientNotFinite)) (Err CoefficientCount)) (length frame) ≡
        cond a (cond b (Ok c) (Err CoefficientNotFinite)) (Err CoefficientCount)
    counts c f true true = rw (eq-eqb (length frame) c.nf (h c f))
    counts c f true false = refl
    counts c f false b = refl

    go : (f : Result Lc3Config Refusal) → fit_config e ≡ f → judged_count (judged_set f r k s) (length frame) ≡ judged_set f r k s
    go (Err a) f = refl
    go (Ok c) f = counts c f (counted r k s) (finite_set r k s)
