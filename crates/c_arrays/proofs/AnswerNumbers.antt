-- Every answer has a number of two digits at most.
use Prim.Native.Nat.{◌≤◌}
use native.Mathlib.Omega.{arith}
use Rattle.std.proofs.Common.{Ok, Err}
use Rattle.rates.specs.Answers.{Answer, refusal_number, number_of}
use Rattle.rates.specs.declared.answer.Refusal.{Refusal}
use Rattle.rates.specs.declared.answer.Refusal.TheVariants.{UnknownRate, UnknownDuration, CoefficientCount, CoefficientNotFinite, SampleCount, TooManyBits, IndexTooLarge, SampleOutOfRange, UnfitState, MalformedLine, WrongFrameNumber, PaddingSet, EarsDiffer, TooFewBytes}

small : (refusal : Refusal) → refusal_number refusal ≤ 99
small UnknownRate = omega arith
small UnknownDuration = omega arith
small CoefficientCount = omega arith
small CoefficientNotFinite = omega arith
small SampleCount = omega arith
small TooManyBits = omega arith
small IndexTooLarge = omega arith
small SampleOutOfRange = omega arith
small UnfitState = omega arith
small MalformedLine = omega arith
small WrongFrameNumber = omega arith
small PaddingSet = omega arith
small EarsDiffer = omega arith
small TooFewBytes = omega arith

pub two_digits : (answer : Answer) → number_of answer ≤ 99
two_digits (Ok _) = omega arith
two_digits (Err refusal) = small refusal
