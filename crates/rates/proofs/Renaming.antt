-- A configuration under another rate in Hz, and the law over the table that 44100 has the row of 48000 but for that name.
use Prim.Native.Nat.{ℕ}
use mathlib.Core.Path.{◌≡◌, refl}
use mathlib.Core.Bool.{Bool, true, false, cond}
use Rattle.rates.specs.Table.{find, row_of}
use Rattle.rates.specs.Durations.{duration_of}
use Rattle.rates.specs.Configs.{configured, config_of}
use Rattle.rates.specs.declared.answer.Refusal.{Refusal}
use Rattle.rates.specs.declared.table.Rate.{Rate}
use Rattle.std.proofs.Common.{Option, Some, None, Result, Ok, Err}
use Rattle.rates.specs.declared.duration.FrameDuration.{FrameDuration}
use Rattle.rates.specs.declared.duration.FrameDuration.TheVariants.{TenMs, SevenPointFiveMs}
use Rattle.rates.specs.declared.config.Lc3Config.{Lc3Config}

-- a row, a configuration and what a lookup gives, under another name
abbrev pub row_as : ℕ → Rate → Rate
row_as hz fs = record {
  hz = hz;
  fs_ind = fs.fs_ind;
  r = fs.r;
  nf_10 = fs.nf_10;
  nf_7p5 = fs.nf_7p5;
  p = fs.p;
  l_den = fs.l_den;
  fade = fs.fade;
}

abbrev pub config_as : ℕ → Lc3Config → Lc3Config
config_as hz c = record { fs = row_as hz c.fs; n_ms = c.n_ms; nf = c.nf; history = c.history }

abbrev pub configured_as : ℕ → Result Lc3Config Refusal → Result Lc3Config Refusal
configured_as hz (Ok c) = Ok (config_as hz c)
configured_as hz (Err answer) = Err answer

-- a test passes it on, or refuses
pub test_as : (hz : ℕ) (c : Lc3Config) (b : Bool) (a : Refusal) →
    cond b (Ok (config_as hz c)) (Err a) ≡ configured_as hz (cond b (Ok c) (Err a))
test_as hz c true a = refl
test_as hz c false a = refl

-- a rate that finds what 48000 finds, but for the name
abbrev pub Like48000 : ℕ → Type 0
Like48000 rate = (duration : ℕ) → config_of 48000 duration ≡ configured_as 48000 (config_of rate duration)

-- so it is where 48000 has the rate's row, but for the name
like_row : (rate : ℕ) (fs : Rate) → row_of rate ≡ Some fs → row_of 48000 ≡ Some (row_as 48000 fs) → Like48000 rate
like_row rate fs found same duration = rw (found, same) (go (duration_of duration))
  where
    go : (d : Option FrameDuration) → configured (Some (row_as 48000 fs)) d ≡ configured_as 48000 (configured (Some fs) d)
    go None = refl
    go (Some TenMs) = refl
    go (Some SevenPointFiveMs) = refl

pub like_44100 : Like48000 44100
unfolding find
like_44100 = like_row 44100 _ refl refl

pub like_48000 : Like48000 48000
unfolding find
like_48000 = like_row 48000 _ refl refl
