-- What both ends prove of their refusals: where a configuration comes from, and what two tests that were passed say.
use Prim.Native.Nat.{ℕ}
use mathlib.Core.Path.{◌≡◌, refl, sym, subst}
use mathlib.Core.Bool.{Bool, true, false, ◌&&◌, true≢false}
use native.Mathlib.Omega.{arith}
use Rattle.rates.specs.Table.{row_of}
use Rattle.rates.specs.Durations.{duration_of}
use Rattle.rates.specs.Configs.{frame_of, history_of, configured, config_of}
use Rattle.std.proofs.Common.{Option, Some, None, Ok}
use Rattle.rates.specs.declared.table.Rate.{Rate}
use Rattle.rates.specs.declared.duration.FrameDuration.{FrameDuration}
use Rattle.rates.specs.declared.config.Lc3Config.{Lc3Config}

pub both : (a b : Bool) → (a && b) ≡ true → (a ≡ true) × (b ≡ true)
both true b e = (refl, e)
both false b e = absurd (true≢false (sym e))

-- where a configuration comes from
pub record Known (hz : ℕ) (c : Lc3Config) : Type 0 where
  pub row : row_of hz ≡ Some c.fs
  pub frame : c.nf ≡ frame_of c.fs c.n_ms
  pub past : c.history ≡ history_of c.fs c.n_ms

pub known : (hz us : ℕ) (c : Lc3Config) → config_of hz us ≡ Ok c → Known hz c
known hz us c e = go (row_of hz) (duration_of us) refl e
  where
    go : (r : Option Rate) (d : Option FrameDuration) → row_of hz ≡ r → configured r d ≡ Ok c → Known hz c
    go None d p q = let z : ◌≡◌ {A = ℕ} 0 1 = cc in absurd (omega arith)
    go (Some row) None p q = let z : ◌≡◌ {A = ℕ} 0 1 = cc in absurd (omega arith)
    go (Some row) (Some d) p q =
        let made : Lc3Config = record { fs = row; n_ms = d; nf = frame_of row d; history = history_of row d } in
        let same : made ≡ c = cc in
        subst (Known hz) same (record { row = p; frame = refl; past = refl })
