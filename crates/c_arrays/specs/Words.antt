-- Flags and numbers as C's, and what a call leaves.
use Rattle.std.specs.Prelude.{ℕ, ◌%◌, ◌^◌, Bool, not, cond, eqb}
use Rattle.rates.specs.Answers.{number_of}
use Rattle.rates.specs.Answers.{Answer}

-- 0 is no, anything else is yes
abbrev pub is_yes : ℕ → Bool
is_yes word = not (eqb word 0)

-- yes is written as 1, no as 0
abbrev pub as_flag : Bool → ℕ
as_flag on = cond on 1 0

-- a number in 32 bits: itself, where it is below 2^32
abbrev pub narrowed : ℕ → ℕ
narrowed n = n % 2 ^ 32

-- a call that is done leaves what it wrote, and a refused call what was there
abbrev pub where_done : {A : Type 0} → Answer → A → A → A
where_done answer written before = cond (eqb (number_of answer) 0) written before
