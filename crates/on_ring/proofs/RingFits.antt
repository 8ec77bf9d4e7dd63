-- What a block start that fits has: a block inside the history, with samples before the newest one's end; and the block after it fits too.
use Rattle.rates.specs.declared.answer.Refusal.{Refusal}
use Rattle.std.proofs.Common.{Result, Ok, Err}
use Prim.Native.Nat.{ℕ, zero, suc, ◌+◌, ◌*◌, ◌/◌, ◌%◌, ◌≤◌, ◌<◌}
use mathlib.Core.Path.{◌≡◌, refl}
use mathlib.Core.Bool.{Bool, true, false, cond}
use native.Mathlib.Nat.{suc-mul, mul-le-mul_right, lt_of_mul-lt-mul_right, div-add-mod', add-mod_right, zero-mod}
use native.Mathlib.Omega.{arith}
use borrow.Author.Tests.{lt-ltb, ltb-true, eqb-true, eqb-false}
use lib.Dec.{ltb, eqb}
use Rattle.rates.specs.Configs.{frame_of, history_of, config_of}
use Rattle.rates.specs.declared.answer.Refusal.TheVariants.{UnfitState}
use Rattle.rates.specs.declared.duration.FrameDuration.{FrameDuration}
use Rattle.rates.specs.declared.duration.FrameDuration.TheVariants.{TenMs, SevenPointFiveMs}
use Rattle.rates.specs.declared.config.Lc3Config.{Lc3Config}
use Rattle.rates.proofs.Known.{both}
use Rattle.control.specs.State.{fit}
use Rattle.control.proofs.Sizes.{FromTable, sized}
use Rattle.control.proofs.Fit.{Fits, fits_as}
use Rattle.rings.specs.Ring.{next_block, newest_end}
use Rattle.on_ring.specs.Registers.{block_fits, ring_fits, fit_as, fit_ring}
use Rattle.on_ring.specs.declared.registers.Registers.{Registers}

-- the block that the next frame is stored into lies inside the history
pub block_inside : (c : Lc3Config) (start : ℕ) → FromTable c → block_fits c start ≡ true → start + c.nf ≤ c.history
unfolding block_fits
block_inside c start k h =
    let t = both (ltb start c.history) (eqb (start % c.nf) 0) h in
    whole_blocks c.n_ms k.1.frame k.1.past (ltb-true start c.history t.0) (eqb-true (start % c.nf) 0 t.1)
  where
    blocks : (n : ℕ) → c.history ≡ n * c.nf → start < c.history → start % c.nf ≡ 0 → start + c.nf ≤ c.history
    blocks n e l m =
        let q : start / c.nf * c.nf ≡ start = omega (arith, div-add-mod' start c.nf) in
        let few : start / c.nf < n = lt_of_mul-lt-mul_right c.nf (rw q (omega arith)) in
        omega (arith, rw suc-mul at (mul-le-mul_right c.nf few))

    whole_blocks : (d : FrameDuration) → c.nf ≡ frame_of c.fs d → c.history ≡ history_of c.fs d → start < c.history → start % c.nf ≡ 0 →
        start + c.nf ≤ c.history
    whole_blocks TenMs f p l m = blocks 2 (rw f p) l m
    whole_blocks SevenPointFiveMs f p l m = blocks 3 (rw f p) l m

-- a multiple that is not 0 is at least the number itself
multiple_least : (n q m : ℕ) → q * n ≡ m → 0 < m → n ≤ m
multiple_least n zero m e h = absurd (omega arith)
multiple_least n (suc q) m e h = omega arith

-- and 16 samples at least lie before the newest block's end
pub newest_fits : (c : Lc3Config) (start : ℕ) → FromTable c → block_fits c start ≡ true → 16 ≤ newest_end c.history start
unfolding block_fits
newest_fits c start k h = go (eqb start 0) refl
  where
    whole : start / c.nf * c.nf ≡ start
    whole = omega (arith, div-add-mod' start c.nf, eqb-true (start % c.nf) 0 (both (ltb start c.history) (eqb (start % c.nf) 0) h).1)

    go : (b : Bool) → eqb start 0 ≡ b → 16 ≤ cond b c.history start
    go true p = omega (arith, sized c k)
    go false p = omega (arith, sized c k, multiple_least c.nf (start / c.nf) start whole (omega (arith, eqb-false start 0 p)))

-- the first block
pub first_block : (c : Lc3Config) → 0 < c.history → block_fits c 0 ≡ true
unfolding block_fits
first_block c h = rw (lt-ltb 0 c.history h, zero-mod c.nf)

-- the block after a block that fits
pub next_block_lem : (c : Lc3Config) (start : ℕ) → 0 < c.history → start + c.nf ≤ c.history → start % c.nf ≡ 0 →
    block_fits c (next_block c.history c.nf start) ≡ true
unfolding block_fits
next_block_lem c start some h m = go (eqb (start + c.nf) c.history) refl
  where
    go : (b : Bool) → eqb (start + c.nf) c.history ≡ b → block_fits c (cond b 0 (start + c.nf)) ≡ true
    go true e = first_block c some
    go false e =
        let n = eqb-false (start + c.nf) c.history e in
        rw (lt-ltb (start + c.nf) c.history (omega arith), add-mod_right start c.nf, m)

-- fit registers have fit marks and a block start that fits
pub ring_fits_lem : (r : Registers) (c : Lc3Config) → fit_ring r ≡ Ok c → Fits c r.marks × (block_fits c r.block_start_index ≡ true)
ring_fits_lem r c h = go (config_of r.marks.rate r.marks.duration) refl h
  where
    picked : (k : Lc3Config) (b : Bool) → ring_fits k r ≡ b → config_of r.marks.rate r.marks.duration ≡ Ok k →
        cond b (Ok k) (Err UnfitState) ≡ Ok c → Fits c r.marks × (block_fits c r.block_start_index ≡ true)
    picked k true f e q =
        let same : k ≡ c = cc in
        let t = both (fit c r.marks) (block_fits c r.block_start_index) (rw same at f) in
        (fits_as r.marks c (rw same at e) t.0, t.1)
    picked k false f e q = let z : ◌≡◌ {A = ℕ} 0 1 = cc in absurd (omega arith)

    go : (k : Result Lc3Config Refusal) → config_of r.marks.rate r.marks.duration ≡ k → fit_as r k ≡ Ok c →
        Fits c r.marks × (block_fits c r.block_start_index ≡ true)
    go (Err a) e q = let z : ◌≡◌ {A = ℕ} 0 1 = cc in absurd (omega arith)
    go (Ok k) e q = picked k (ring_fits k r) refl e q

-- and the other way round
pub fits_ring : (r : Registers) (c : Lc3Config) → Fits c r.marks → block_fits c r.block_start_index ≡ true → fit_ring r ≡ Ok c
fits_ring r c f b = rw (f.config, f.lag, f.run, b)
