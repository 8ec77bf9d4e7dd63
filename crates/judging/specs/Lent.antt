-- What is lent with a frame, judged apart, as both ears share it: 3, 4 and 5.
use Rattle.rates.specs.declared.answer.Refusal.{Refusal}
use Rattle.judging.specs.declared.plan.Plan.{Plan}
use Rattle.std.specs.Prelude.{ℕ, List, eqb, Float, Result, Ok, Err}
use Rattle.rates.specs.Answers.{Answer}
use Rattle.rates.specs.declared.answer.Refusal.TheVariants.{CoefficientCount, CoefficientNotFinite, SampleCount}
use Rattle.judging.specs.Judge.{unless, set_counts, set_finite}

-- of a set for filters of this order, and of so many samples where so many are due
unfoldable pub lent_of : ℕ → List Float → List Float → ℕ → ℕ → Answer
lent_of l numerators denominators count due =
    unless (set_counts l numerators denominators) CoefficientCount
    (unless (set_finite numerators denominators) CoefficientNotFinite (unless (eqb count due) SampleCount (Ok tt)))

-- the verdict where that is fine
abbrev pub where_fine : Answer → Result Plan Refusal → Result Plan Refusal
where_fine (Err answer) v = Err answer
where_fine (Ok tt) v = v
