-- A decoder's registers in the caller's numbers: which they hold, and how registers are put there.
use Rattle.std.specs.Prelude.{ℕ, ◌<◌, ◌^◌, List, [], ◌∷◌, get_or}
use Rattle.on_ring.specs.declared.registers.Registers.{Registers}
use Rattle.c_arrays.specs.Words.{is_yes, as_flag}

-- the numbers are rate, duration, active before, block start, whole lag, quarter, run, settled
unfoldable pub read_registers : List ℕ → Registers
read_registers numbers = record {
  marks = record {
    rate = get_or numbers 0 0;
    duration = get_or numbers 1 0;
    run = get_or numbers 6 0;
    ltpf_active_prev = is_yes (get_or numbers 2 0);
    settled = is_yes (get_or numbers 7 0);
    lag = record { whole = get_or numbers 4 0; quarter = get_or numbers 5 0 };
  };
  block_start_index = get_or numbers 3 0;
}

-- the numbers of registers; three of them may be wider than C's, and are written as `width` makes them
unfoldable pub numbers_by : (ℕ → ℕ) → Registers → List ℕ
numbers_by width r =
    r.marks.rate ∷ r.marks.duration ∷ as_flag r.marks.ltpf_active_prev ∷ width r.block_start_index ∷ width r.marks.lag.whole
    ∷ width r.marks.lag.quarter ∷ r.marks.run ∷ as_flag r.marks.settled ∷ []

-- as they are
abbrev pub numbers_of : Registers → List ℕ
numbers_of = numbers_by (λ n. n)

-- the three are no wider
pub record Fits32 (r : Registers) : Type 0 where
  pub block : r.block_start_index < 2 ^ 32
  pub whole : r.marks.lag.whole < 2 ^ 32
  pub quarter : r.marks.lag.quarter < 2 ^ 32
