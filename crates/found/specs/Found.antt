-- What is found in a frame: its record, its bits, and what the activation remembers of it.
use Rattle.std.specs.Prelude.{ℕ, Bool, true, false, cond, ◌&&◌, List, eqb, leb, Float, length}
use Rattle.floats.specs.Single.{0·0}
use Rattle.rates.specs.declared.duration.FrameDuration.{FrameDuration}
use Rattle.rates.specs.declared.duration.FrameDuration.TheVariants.{TenMs, SevenPointFiveMs}
use Rattle.rates.specs.declared.config.Lc3Config.{Lc3Config}
use Rattle.lag.specs.Gain.{bits_of, may_activate}
use Rattle.lag.specs.declared.pitch.PitchRecord.TheVariants.{Absent, Present}
use Rattle.found.specs.LagParameter.{lag_parameter}
use Rattle.found.specs.Activation.{activation}
use Rattle.found.specs.declared.activation.Activation.{Activation}
use Rattle.found.specs.declared.activation.Memory.{Memory}
use Rattle.found.specs.declared.Found.{Found}
use Rattle.search.specs.declared.pitch.Detected.{Detected}
use Rattle.rates.specs.Lengths.{lengths_of}

-- absent: 1 bit, and nothing remembered but that the last correlation is now the one before
abbrev pub absent : Memory → Found
absent m = record {
  pitch = Absent;
  nbits_ltpf = 1;
  memory = record { mem_pitch = 0·0; mem_ltpf_active = false; mem_nc = 0·0; mem_mem_nc = m.mem_nc };
}

-- present: 11 bits, with the index and the active mark
abbrev pub present : Memory → ℕ → Activation → Found
present m index a = record {
  pitch = Present (record { index = index; active = a.active });
  nbits_ltpf = 11;
  memory = record { mem_pitch = a.pitch; mem_ltpf_active = a.active; mem_nc = a.nc; mem_mem_nc = m.mem_nc };
}

-- 10 ms, where the activation asks for one high correlation less
abbrev pub is_ten_ms : FrameDuration → Bool
is_ten_ms TenMs = true
is_ten_ms SevenPointFiveMs = false

-- a pitch is present, its lag is one of 17 to 114, and the two tables have their lengths
unfoldable pub ready : Detected → List Float → List Float → Bool
ready d k s = d.present && leb 17 d.t_curr && leb d.t_curr 114 && eqb (length k) 31 && eqb (length s) 15

-- what is found in a frame, x being its signal at 12.8 kHz and d what the search detected: without all of that, no pitch
unfoldable pub found_in : Lc3Config → List Float → Detected → Memory → List Float → List Float → ℕ → Bool → Found
found_in c x d m k s nbits near =
    let l = lengths_of c.n_ms in
    let lag = lag_parameter x l.start l.len12p8 d.t_curr k in
    let on = may_activate c.fs.fs_ind (bits_of c.n_ms nbits) in
    cond (ready d k s)
    (present m lag.pitch_index (activation x l.start l.len12p8 lag.pitch_int lag.pitch_fr s m on near (is_ten_ms c.n_ms)))
    (absent m)
