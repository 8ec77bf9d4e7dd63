-- A refusal never has the number of done.
use mathlib.Core.Path.{◌≡◌}
use native.Mathlib.Omega.{arith}
use Rattle.rates.specs.Answers.{refusal_number}
use Rattle.rates.specs.declared.answer.Refusal.{Refusal}
use Rattle.rates.specs.declared.answer.Refusal.TheVariants.{UnknownRate, UnknownDuration, CoefficientCount, CoefficientNotFinite, SampleCount, TooManyBits, IndexTooLarge, SampleOutOfRange, UnfitState, MalformedLine, WrongFrameNumber, PaddingSet, EarsDiffer, TooFewBytes}

pub never_done : (r : Refusal) → refusal_number r ≡ 0 → ⊥
never_done UnknownRate e = omega arith
never_done UnknownDuration e = omega arith
never_done CoefficientCount e = omega arith
never_done CoefficientNotFinite e = omega arith
never_done SampleCount e = omega arith
never_done TooManyBits e = omega arith
never_done IndexTooLarge e = omega arith
never_done SampleOutOfRange e = omega arith
never_done UnfitState e = omega arith
never_done MalformedLine e = omega arith
never_done WrongFrameNumber e = omega arith
never_done PaddingSet e = omega arith
never_done EarsDiffer e = omega arith
never_done TooFewBytes e = omega arith
