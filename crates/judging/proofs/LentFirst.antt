-- What is lent can be judged apart, before the marks and the side information: both ears share it.
use Rattle.rates.specs.declared.answer.Refusal.{Refusal}
use Rattle.judging.specs.declared.plan.Plan.{Plan}
use Rattle.std.proofs.Common.{Result, Ok}
use Prim.Native.Nat.{ℕ}
use mathlib.Core.Path.{◌≡◌, refl}
use mathlib.Core.Bool.{Bool, true, false}
use mathlib.Core.List.{List}
use lib.Dec.{eqb}
use lib.Ieee.{Float}
use Rattle.floats.specs.Single.{all_in_range}
use Rattle.rates.specs.declared.answer.Refusal.TheVariants.{CoefficientCount, CoefficientNotFinite, SampleCount}
use Rattle.rates.specs.declared.config.Lc3Config.{Lc3Config}
use Rattle.control.specs.declared.marks.Marks.{Marks}
use Rattle.judging.specs.Judge.{unless, set_counts, set_finite, judged_side, ranged, judged_frame}
use Rattle.judging.specs.Lent.{lent_of, where_fine}
use Rattle.judging.specs.declared.plan.SideInfo.{SideInfo}

-- three tests in a row, and then a verdict
in_a_row : (a b c : Bool) (v : Result Plan Refusal) →
    unless a CoefficientCount (unless b CoefficientNotFinite (unless c SampleCount v)) ≡
    where_fine (unless a CoefficientCount (unless b CoefficientNotFinite (unless c SampleCount (Ok tt)))) v
in_a_row false b c v = refl
in_a_row true false c v = refl
in_a_row true true false v = refl
in_a_row true true true v = refl

pub lent_first : (m : Marks) (c : Lc3Config) (nums dens : List Float) (side : SideInfo) (count : ℕ) (due : Lc3Config → ℕ) (samples : List Float) →
    judged_frame m nums dens side (λ c. eqb count (due c)) samples (Ok c) ≡
    where_fine (lent_of c.fs.l_den nums dens count (due c)) (ranged (all_in_range samples) (judged_side m c side))
unfolding lent_of
lent_first m c nums dens side count due samples =
    in_a_row (set_counts c.fs.l_den nums dens) (set_finite nums dens) (eqb count (due c)) (ranged (all_in_range samples) (judged_side m c side))
