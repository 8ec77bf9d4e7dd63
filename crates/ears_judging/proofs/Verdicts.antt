-- The verdict on an ear: of what the ears share nothing is judged twice; in an even buffer it is a single decoder's; and where it accepts,
-- the buffer has two frames.
use Rattle.rates.specs.declared.answer.Refusal.{Refusal}
use Rattle.std.proofs.Common.{Result, Ok, Err}
use Prim.Native.Nat.{ℕ, ◌*◌}
use mathlib.Core.Path.{◌≡◌, refl, sym, ◌∙◌}
use mathlib.Core.Bool.{Bool, true, false, cond}
use mathlib.Core.List.{List}
use native.Mathlib.Omega.{arith}
use borrow.Author.Tests.{eqb-true, eqb-false, eq-eqb, ne_eqb}
use lib.Dec.{eqb}
use lib.Ieee.{Float}
use lib.ListN.{length}
use Rattle.floats.specs.Single.{all_in_range}
use Rattle.rates.specs.Configs.{config_of}
use Rattle.rates.specs.Answers.{Answer}
use Rattle.rates.specs.declared.answer.Refusal.TheVariants.{CoefficientCount, CoefficientNotFinite, SampleCount, UnfitState}
use Rattle.rates.specs.declared.config.Lc3Config.{Lc3Config}
use Rattle.rates.proofs.Known.{both}
use Rattle.lag.specs.declared.pitch.PitchRecord.{PitchRecord}
use Rattle.control.specs.declared.marks.Marks.{Marks}
use Rattle.judging.specs.Judge.{unless, set_counts, set_finite, judged_side, ranged, judged_frame, judged}
use Rattle.judging.specs.Lent.{lent_of, where_fine}
use Rattle.judging.specs.declared.plan.SideInfo.{SideInfo}
use Rattle.judging.specs.declared.plan.Plan.{Plan}
use Rattle.judging.proofs.Judging.{accepted_plan}
use Rattle.judging.proofs.LentFirst.{lent_first}
use Rattle.on_ring.specs.Registers.{ring_fits, fit_ring}
use Rattle.on_ring.specs.Required.{Judged}
use Rattle.on_ring.specs.declared.registers.Registers.{Registers}
use Rattle.interleave.specs.Turns.{lefts, rights}
use Rattle.ears_judging.specs.Judge.{Shared, named_alike, two_frames, judged_ear, shared_by, judged_both}
use Rattle.ears_judging.specs.Verdicts.{until_samples, judged_alike}
use Rattle.ears_judging.specs.declared.ear.Ear.{Ear}

-- 8 comes last, also after what is lent
ranged_last : (inside : Bool) (l : Answer) (v : Result Plan Refusal) → where_fine l (ranged inside v) ≡ ranged inside (where_fine l v)
ranged_last inside (Err answer) v = refl
ranged_last inside (Ok tt) v = refl

module _ (s : Shared) (r : Registers) (pitch : PitchRecord) (own : List Float) where
  abbrev side : SideInfo
  side = record { pitch = pitch; nbits = s.nbits }

  -- an ear whose names are those of a configuration
  pub judged_alike_lem : (c : Lc3Config) → config_of r.marks.rate r.marks.duration ≡ Ok c →
      judged_ear true s r pitch own ≡
      ranged (all_in_range own)
      (until_samples (ring_fits c r) r.marks c (lent_of c.fs.l_den s.numerators s.denominators s.count (2 * c.nf)) side)
  judged_alike_lem c e = rw e (go (ring_fits c r))
    where
      lent : Answer
      lent = lent_of c.fs.l_den s.numerators s.denominators s.count (2 * c.nf)

      go : (b : Bool) →
          judged_frame r.marks s.numerators s.denominators side (two_frames s.count) own (cond b (Ok c) (Err UnfitState)) ≡
          ranged (all_in_range own) (until_samples b r.marks c lent side)
      go false = refl
      go true =
          lent_first r.marks c s.numerators s.denominators side s.count (λ k. 2 * k.nf) own
          ∙ ranged_last (all_in_range own) lent (judged_side r.marks c side)

-- both ears of one name
module _ (l r : Ear) (numerators denominators : List Float) (nbits : ℕ) (buffer : List Float) (alike : named_alike l.registers.marks r.registers.marks ≡ true) where
  named : (c : Lc3Config) → config_of l.registers.marks.rate l.registers.marks.duration ≡ Ok c →
      config_of r.registers.marks.rate r.registers.marks.duration ≡ Ok c
  named c e =
      let names = both (eqb l.registers.marks.rate r.registers.marks.rate) (eqb l.registers.marks.duration r.registers.marks.duration) alike in
      rw (
        ← eqb-true l.registers.marks.rate r.registers.marks.rate names.0,
        ← eqb-true l.registers.marks.duration r.registers.marks.duration names.1,
      )
      e

  abbrev s : Shared
  s = shared_by l.registers r.registers numerators denominators nbits buffer

  pub both_alike : (c : Lc3Config) → config_of l.registers.marks.rate l.registers.marks.duration ≡ Ok c →
      judged_both l r numerators denominators nbits buffer ≡ judged_alike l r c numerators denominators nbits buffer
  both_alike c e =
      rw (alike, judged_alike_lem s l.registers l.pitch (lefts buffer) c e, judged_alike_lem s r.registers r.pitch (rights buffer) c (named c e))

eqb_twice : (count n m : ℕ) → count ≡ 2 * n → eqb count (2 * m) ≡ eqb n m
eqb_twice count n m e = go (eqb n m) refl
  where
    go : (b : Bool) → eqb n m ≡ b → eqb count (2 * m) ≡ b
    go true p = eq-eqb count (2 * m) (omega (arith, eqb-true n m p))
    go false p = ne_eqb count (2 * m) (λ q. eqb-false n m p (omega arith))

module _ (m : Marks) (nums dens : List Float) (side : SideInfo) (own : List Float) (count : ℕ) where
  -- in a buffer of twice the ear's samples
  pub as_single : (k : Result Lc3Config Refusal) → count ≡ 2 * length own → judged_frame m nums dens side (two_frames count) own k ≡ judged m k nums dens side own
  unfolding judged
  as_single (Err answer) e = refl
  as_single (Ok c) e = rw (eqb_twice count (length own) c.nf e)

  accepted_count : (c : Lc3Config) (plan : Plan) → judged_frame m nums dens side (two_frames count) own (Ok c) ≡ Ok plan → count ≡ 2 * c.nf
  accepted_count c plan e = go (set_counts c.fs.l_den nums dens) (set_finite nums dens) (eqb count (2 * c.nf)) refl e
    where
      go : (p q b : Bool) → eqb count (2 * c.nf) ≡ b →
          unless p CoefficientCount (unless q CoefficientNotFinite (unless b SampleCount (ranged (all_in_range own) (judged_side m c side)))) ≡ Ok plan →
          count ≡ 2 * c.nf
      go p q true f e = eqb-true count (2 * c.nf) f
      go true true false f e = let z : ◌≡◌ {A = ℕ} 0 1 = cc in absurd (omega arith)
      go true false false f e = let z : ◌≡◌ {A = ℕ} 0 1 = cc in absurd (omega arith)
      go false q false f e = let z : ◌≡◌ {A = ℕ} 0 1 = cc in absurd (omega arith)

-- an accepted ear was judged as a single decoder, in a buffer of two frames
pub accepted_ear : (b : Bool) (s : Shared) (r : Registers) (pitch : PitchRecord) (own : List Float) (plan : Plan) →
    ((k : ℕ) → s.count ≡ 2 * k → length own ≡ k) → judged_ear b s r pitch own ≡ Ok plan →
    Judged r s.numerators s.denominators own plan × (s.count ≡ 2 * plan.config.nf)
accepted_ear false s r pitch own plan half e = let z : ◌≡◌ {A = ℕ} 0 1 = cc in absurd (omega arith)
accepted_ear true s r pitch own plan half e = go (fit_ring r) refl e
  where
    info : SideInfo
    info = record { pitch = pitch; nbits = s.nbits }

    go : (k : Result Lc3Config Refusal) → fit_ring r ≡ k → judged_frame r.marks s.numerators s.denominators info (two_frames s.count) own k ≡ Ok plan →
        Judged r s.numerators s.denominators own plan × (s.count ≡ 2 * plan.config.nf)
    go (Err answer) f a = let z : ◌≡◌ {A = ℕ} 0 1 = cc in absurd (omega arith)
    go (Ok c) f a =
        let n : s.count ≡ 2 * c.nf = accepted_count r.marks s.numerators s.denominators info own s.count c plan a in
        let twice : s.count ≡ 2 * length own = omega (arith, half c.nf n) in
        let verdict : judged r.marks (fit_ring r) s.numerators s.denominators info own ≡ Ok plan =
        rw f (sym (as_single r.marks s.numerators s.denominators info own s.count (Ok c) twice) ∙ a) in
        let found = (accepted_plan r.marks (fit_ring r) s.numerators s.denominators info own plan verdict).0 in
        let same : plan.config ≡ c = cc in
        (record { side = info; verdict = verdict }, rw same n)
