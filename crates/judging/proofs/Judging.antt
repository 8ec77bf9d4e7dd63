-- What judging comes to, one for all marks of a configuration: a refusal that only the frame decides, or a lag to go on with.
use Rattle.rates.specs.declared.answer.Refusal.{Refusal}
use Rattle.std.proofs.Common.{Option, Some, None, Result, Ok, Err}
use Prim.Native.Nat.{ℕ, ◌+◌, ◌*◌, ◌≤◌}
use mathlib.Core.Path.{◌≡◌, refl}
use mathlib.Core.Bool.{Bool, true, false}
use mathlib.Core.List.{List}
use native.Mathlib.Omega.{arith}
use borrow.Author.Tests.{eqb-true}
use lib.Dec.{leb, eqb}
use lib.Ieee.{Float}
use lib.ListN.{length}
use Rattle.floats.specs.Single.{all_in_range}
use Rattle.rates.specs.Answers.{refusal_number}
use Rattle.rates.specs.declared.answer.Refusal.TheVariants.{CoefficientCount, CoefficientNotFinite, SampleCount, TooManyBits, IndexTooLarge, SampleOutOfRange}
use Rattle.rates.specs.declared.config.Lc3Config.{Lc3Config}
use Rattle.rates.proofs.Known.{both}
use Rattle.lag.specs.declared.rescale.Lag.{Lag}
use Rattle.coefficients.specs.Required.{Lent}
use Rattle.judging.specs.Pitch.{lag_for}
use Rattle.judging.specs.Judge.{unless, set_counts, set_finite, plan_of, lag_judged, judged_side, ranged, judged}
use Rattle.control.specs.declared.marks.Marks.{Marks}
use Rattle.judging.specs.declared.plan.SideInfo.{SideInfo}
use Rattle.judging.specs.declared.plan.Plan.{Plan}
use Rattle.control.proofs.Sizes.{Sized}

-- what an accepted frame has passed
pub record Passed (c : Lc3Config) (nums dens : List Float) (side : SideInfo) (samples : List Float) (lag : Lag) : Type 0 where
  pub found : lag_for c.fs side.pitch ≡ Some lag
  pub nums_count : length nums + 4 ≡ 4 * c.fs.l_den
  pub dens_count : length dens ≡ 4 * (c.fs.l_den + 1)
  pub count : length samples ≡ c.nf

-- a refusal with a number from 3 to 8, or a lag to go on with
pub data Outcome (c : Lc3Config) (nums dens : List Float) (side : SideInfo) (samples : List Float) : Type 0 where
  declined : (refusal : Refusal) → 3 ≤ refusal_number refusal → refusal_number refusal ≤ 8 → Outcome c nums dens side samples
  passed : (lag : Lag) → Passed c nums dens side samples lag → Outcome c nums dens side samples

module _ (c : Lc3Config) (nums dens : List Float) (side : SideInfo) (samples : List Float) where
  -- the verdict that it is for marks
  abbrev pub verdict : Marks → Outcome c nums dens side samples → Result Plan Refusal
  verdict r (declined refusal l h) = Err refusal
  verdict r (passed lag p) = Ok (plan_of r c side lag)

  -- one outcome for all marks
  abbrev Alike : (Marks → Result Plan Refusal) → Type 0
  Alike k = (o : Outcome c nums dens side samples) × ((r : Marks) → k r ≡ verdict r o)

  test : (b : Bool) (refusal : Refusal) → 3 ≤ refusal_number refusal → refusal_number refusal ≤ 8 →
      (k : Marks → Result Plan Refusal) → (b ≡ true → Alike k) → Alike (λ r. unless b refusal (k r))
  test true refusal l h k next = next refl
  test false refusal l h k next = (declined refusal l h, λ r. refl)

  -- 6, 7 and 8, once the counts are right
  in_range_lem : (b : Bool) → leb side.nbits 3200 ≡ b → set_counts c.fs.l_den nums dens ≡ true → length samples ≡ c.nf → (l : Option Lag) → lag_for c.fs side.pitch ≡ l →
      Alike (λ r. ranged (all_in_range samples) (unless b TooManyBits (lag_judged r c side l)))
  in_range_lem false e counts count l f = (declined TooManyBits (omega arith) (omega arith), λ r. refl)
  in_range_lem true e counts count None f = (declined IndexTooLarge (omega arith) (omega arith), λ r. refl)
  in_range_lem true e counts count (Some lag) f =
      let n = both (eqb (length nums + 4) (4 * c.fs.l_den)) (eqb (length dens) (4 * (c.fs.l_den + 1))) counts in
      test (all_in_range samples) SampleOutOfRange (omega arith) (omega arith) _
      (λ p. (
        passed lag (record {
          found = f;
          nums_count = eqb-true (length nums + 4) (4 * c.fs.l_den) n.0;
          dens_count = eqb-true (length dens) (4 * (c.fs.l_den + 1)) n.1;
          count = count;
        }),
        λ r. refl,
      ))

  pub outcome : Alike (λ r. judged r (Ok c) nums dens side samples)
  unfolding judged judged_side
  outcome =
      test (set_counts c.fs.l_den nums dens) CoefficientCount (omega arith) (omega arith) _
      (λ counts. test (set_finite nums dens) CoefficientNotFinite (omega arith) (omega arith) _
      (λ p. test (eqb (length samples) c.nf) SampleCount (omega arith) (omega arith) _
      (λ count. in_range_lem (leb side.nbits 3200) refl counts (eqb-true (length samples) c.nf count) (lag_for c.fs side.pitch) refl)))

-- an accepted plan: its configuration is that of the marks, and its parts are those of its lag
pub accepted_plan : (r : Marks) (fitted : Result Lc3Config Refusal) (nums dens : List Float) (side : SideInfo) (samples : List Float) (plan : Plan) →
    judged r fitted nums dens side samples ≡ Ok plan →
    (fitted ≡ Ok plan.config) × (plan ≡ plan_of r plan.config side plan.lag) × Passed plan.config nums dens side samples plan.lag
unfolding judged
accepted_plan r (Err a) nums dens side samples plan e = let z : ◌≡◌ {A = ℕ} 0 1 = cc in absurd (omega arith)
accepted_plan r (Ok c) nums dens side samples plan e = go (outcome c nums dens side samples).0 ((outcome c nums dens side samples).1 r)
  where
    go : (o : Outcome c nums dens side samples) → judged r (Ok c) nums dens side samples ≡ verdict c nums dens side samples r o →
        ◌≡◌ {A = Result Lc3Config Refusal} (Ok c) (Ok plan.config) × (plan ≡ plan_of r plan.config side plan.lag)
        × Passed plan.config nums dens side samples plan.lag
    go (declined refusal l h) q = let z : ◌≡◌ {A = ℕ} 0 1 = cc in absurd (omega arith)
    go (passed lag p) q = let same : plan ≡ plan_of r c side lag = cc in rw same (refl, refl, p)

-- the lent rows of an accepted frame
pub lent : (c : Lc3Config) (nums dens : List Float) (side : SideInfo) (samples : List Float) (lag : Lag) → Sized c →
    Passed c nums dens side samples lag → Lent c.fs.l_den nums dens
lent c nums dens side samples lag s p =
    record { least = s.least; most = s.most; nums = omega (arith, p.nums_count); dens = p.dens_count }
