-- How a program has fared, and the status that it ends with.
use Rattle.std.specs.Prelude.{ℕ, Bool, true, false, if◌then◌else◌}
use Rattle.outcome.specs.declared.Outcome.{Outcome}
use Rattle.outcome.specs.declared.Output.{Output}
use Rattle.outcome.specs.declared.Output.TheVariants.{Open, Lost, Closed}

-- nothing failed, and all that was written was taken
abbrev pub fine : Outcome
fine = record { has_failed = false; output = Open }

-- the same with a failure
abbrev pub after_failure : Outcome → Outcome
after_failure o = record { has_failed = true; output = o.output }

-- standard output took all that it was given
abbrev pub is_taken : Output → Bool
is_taken Open = true
is_taken Lost = false
is_taken Closed = false

-- the status: 141 is what the system says of a program that the signal of a closed pipe ended
abbrev pub status_of : Bool → Output → ℕ
status_of has_failed Open = if has_failed then 1 else 0
status_of has_failed Lost = 1
status_of has_failed Closed = 141
