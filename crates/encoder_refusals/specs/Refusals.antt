-- The refusals of the encoder's calls, in the order of docs/SCOPE.md.
use Rattle.rates.specs.declared.answer.Refusal.{Refusal}
use Rattle.rates.specs.declared.config.Lc3Config.{Lc3Config}
use Rattle.std.specs.Prelude.{ℕ, Bool, true, false, cond, ◌&&◌, List, eqb, leb, length, Float, Result, Ok, Err}
use Rattle.floats.specs.Single.{all_finite}
use Rattle.rates.specs.Configs.{config_of}
use Rattle.rates.specs.declared.answer.Refusal.TheVariants.{UnfitState, CoefficientCount, CoefficientNotFinite, SampleCount, TooManyBits}

-- unfit where there is no configuration, or where the lag is out of its range
abbrev pub fit_by : Result Lc3Config Refusal → Bool → Result Lc3Config Refusal
fit_by (Ok c) true = Ok c
fit_by (Ok c) false = Err UnfitState
fit_by (Err a) b = Err UnfitState

-- check 9: a state is unfit where its rate or duration is not in the table, or its previous lag outside 17 to 114
abbrev pub fit_of : ℕ → ℕ → ℕ → Result Lc3Config Refusal
fit_of rate duration lag = fit_by (config_of rate duration) (leb 17 lag && leb lag 114)

-- the set: 239 entries to resample, 31 to interpolate correlations, 15 to interpolate the signal
unfoldable pub counted : List Float → List Float → List Float → Bool
counted r k s = eqb (length r) 239 && eqb (length k) 31 && eqb (length s) 15

-- every entry, used or not, is a number
unfoldable pub finite_set : List Float → List Float → List Float → Bool
finite_set r k s = all_finite r && all_finite k && all_finite s

-- checks 3 and 4, of the set lent to a fit state, by what their refusals become
abbrev pub set_judged : {R : Type 0} → (Refusal → R) → Result Lc3Config R → List Float → List Float → List Float → Result Lc3Config R
set_judged of (Err a) r k s = Err (of UnfitState)
set_judged of (Ok c) r k s = cond (counted r k s) (cond (finite_set r k s) (Ok c) (Err (of CoefficientNotFinite))) (Err (of CoefficientCount))

-- check 5, where nothing was refused before
abbrev pub count_judged : {R : Type 0} → (Refusal → R) → Result Lc3Config R → ℕ → Result Lc3Config R
count_judged of (Err a) n = Err a
count_judged of (Ok c) n = cond (eqb n c.nf) (Ok c) (Err (of SampleCount))

-- check 6, where nothing was refused before
abbrev pub bits_judged : {R : Type 0} → (Refusal → R) → Result Lc3Config R → ℕ → Result Lc3Config R
bits_judged of (Err a) nbits = Err a
bits_judged of (Ok c) nbits = cond (leb nbits 3200) (Ok c) (Err (of TooManyBits))

-- the same where a refusal stays what it is
abbrev pub judged_set : Result Lc3Config Refusal → List Float → List Float → List Float → Result Lc3Config Refusal
judged_set fit r k s = set_judged (λ a. a) fit r k s

abbrev pub judged_count : Result Lc3Config Refusal → ℕ → Result Lc3Config Refusal
judged_count judged n = count_judged (λ a. a) judged n

abbrev pub judged_bits : Result Lc3Config Refusal → ℕ → Result Lc3Config Refusal
judged_bits judged nbits = bits_judged (λ a. a) judged nbits

-- the checks that need no samples: the first refusal among 9, 3, 4 and 6
abbrev pub judged_apart : Result Lc3Config Refusal → List Float → List Float → List Float → ℕ → Result Lc3Config Refusal
judged_apart fit r k s nbits = judged_bits (judged_set fit r k s) nbits
