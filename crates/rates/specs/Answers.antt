-- The answer numbers of docs/SCOPE.md.
use Rattle.std.specs.Prelude.{ℕ, Result, Ok, Err}
use Rattle.rates.specs.declared.answer.Refusal.{Refusal}
use Rattle.rates.specs.declared.answer.Refusal.TheVariants.{UnknownRate, UnknownDuration, CoefficientCount, CoefficientNotFinite, SampleCount, TooManyBits, IndexTooLarge, SampleOutOfRange, UnfitState, MalformedLine, WrongFrameNumber, PaddingSet, EarsDiffer, TooFewBytes}

-- an answer: done, or refused
abbrev pub Answer : Type 0
Answer = Result Unit Refusal

abbrev pub done : Answer
done = Ok tt

abbrev pub refusal_number : Refusal → ℕ
refusal_number UnknownRate = 1
refusal_number UnknownDuration = 2
refusal_number CoefficientCount = 3
refusal_number CoefficientNotFinite = 4
refusal_number SampleCount = 5
refusal_number TooManyBits = 6
refusal_number IndexTooLarge = 7
refusal_number SampleOutOfRange = 8
refusal_number UnfitState = 9
refusal_number MalformedLine = 10
refusal_number WrongFrameNumber = 11
refusal_number PaddingSet = 12
refusal_number EarsDiffer = 13
refusal_number TooFewBytes = 15

abbrev pub number_of : Answer → ℕ
number_of (Ok _) = 0
number_of (Err refusal) = refusal_number refusal
