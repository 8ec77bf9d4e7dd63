-- An encoder in the caller's arrays: which state they hold, and how a state is put there.
use Rattle.std.specs.Prelude.{ℕ, List, [], ◌∷◌, Float, get_or}
use Rattle.floats.specs.Single.{at}
use Rattle.encoder.specs.declared.state.Encoder.{Encoder}
use Rattle.c_arrays.specs.Words.{is_yes, as_flag}

-- the five arrays of a nabiteke_encoder
pub record EncoderArrays : Type 0 where
  pub numbers : List ℕ
  pub memories : List Float
  pub x_s : List Float
  pub x_12p8 : List Float
  pub x_6p4 : List Float

abbrev pub arrays : List ℕ → List Float → List Float → List Float → List Float → EncoderArrays
arrays numbers memories s 12p8 6p4 = record { numbers = numbers; memories = memories; x_s = s; x_12p8 = 12p8; x_6p4 = 6p4 }

-- the numbers are rate, duration, previous lag, active before; the memories those of the pitch, of two correlations and of the high-pass
unfoldable pub read_encoder : EncoderArrays → Encoder
read_encoder a = record {
  rate = get_or a.numbers 0 0;
  duration = get_or a.numbers 1 0;
  t_prev = get_or a.numbers 2 0;
  memory = record {
    mem_pitch = at a.memories 0;
    mem_ltpf_active = is_yes (get_or a.numbers 3 0);
    mem_nc = at a.memories 1;
    mem_mem_nc = at a.memories 2;
  };
  h50 = record { h50_minus1 = at a.memories 3; h50_minus2 = at a.memories 4 };
  x_s = a.x_s;
  x_12p8 = a.x_12p8;
  x_6p4 = a.x_6p4;
}

-- the memories of a state, as they are written
abbrev pub memories_of : Encoder → List Float
memories_of e =
    e.memory.mem_pitch ∷ e.memory.mem_nc ∷ e.memory.mem_mem_nc ∷ e.h50.h50_minus1 ∷ e.h50.h50_minus2 ∷ []

-- memories, and the histories at the rate, at 12.8 and at 6.4 kHz
abbrev pub Floats : Type 0
Floats = List Float × List Float × List Float × List Float

-- those of a state, as they are written
abbrev pub floats_of : Encoder → Floats
floats_of e = (memories_of e, e.x_s, e.x_12p8, e.x_6p4)

-- its numbers; the previous lag may be wider than C's, and is written as `width` makes it
abbrev pub numbers_by : (ℕ → ℕ) → Encoder → List ℕ
numbers_by width e = e.rate ∷ e.duration ∷ width e.t_prev ∷ as_flag e.memory.mem_ltpf_active ∷ []

-- as they are
abbrev pub numbers_of : Encoder → List ℕ
numbers_of = numbers_by (λ n. n)

-- a state as it is written
unfoldable pub written_encoder : Encoder → EncoderArrays
written_encoder e = arrays (numbers_of e) (memories_of e) e.x_s e.x_12p8 e.x_6p4
