-- The numbers of registers: those that are no wider than C's are written as they are, and registers read back.
use mathlib.Core.Path.{◌≡◌}
use native.Mathlib.Nat.{mod-eq_of_lt}
use Rattle.on_ring.specs.declared.registers.Registers.{Registers}
use Rattle.c_arrays.specs.Words.{narrowed}
use Rattle.c_arrays.specs.Registers.{read_registers, numbers_by, numbers_of, Fits32}
use Rattle.c_arrays.proofs.Flags.{flag_back}

pub written_whole : (r : Registers) → Fits32 r → numbers_by narrowed r ≡ numbers_of r
unfolding numbers_by
written_whole r f = rw (mod-eq_of_lt f.block, mod-eq_of_lt f.whole, mod-eq_of_lt f.quarter)

pub registers_back : (r : Registers) → read_registers (numbers_of r) ≡ r
unfolding read_registers numbers_by
registers_back r = simp (flag_back r.marks.ltpf_active_prev, flag_back r.marks.settled)
