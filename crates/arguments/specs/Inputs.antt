-- Where a program is in its inputs, event by event. Which event comes, and where an input that begins comes from, are the system's.
use Rattle.std.specs.Prelude.{ℕ, ◌≡◌, ◌+◌, ◌%◌, ◌^◌, Some, None}
use Rattle.arguments.specs.declared.inputs.Inputs.{Inputs}
use Rattle.arguments.specs.declared.inputs.Next.{Next}
use Rattle.arguments.specs.declared.inputs.Source.{Source}
use Rattle.arguments.specs.declared.inputs.Event.{Event}
use Rattle.arguments.specs.declared.inputs.Event.TheVariants.{Begun, Piece, Ended, Failed, Over}

-- before the input that an argument names
abbrev pub before : ℕ → Inputs
before argument = record { argument = argument; source = None }

-- before the one after it
abbrev pub passed : Inputs → Inputs
passed i = before ((i.argument + 1) % 2 ^ 64)

-- an input that is open
abbrev pub opened : Inputs → Source → Inputs
opened i source = record { argument = i.argument; source = Some source }

-- after an event; an input that begins comes from a source
abbrev pub after : Inputs → Source → Event → Inputs
after i source Begun = opened i source
after i source (Piece n) = i
after i source Ended = passed i
after i source Failed = passed i
after i source Over = i

-- some source makes it so
abbrev pub Follows : Inputs → Next → Type 0
Follows i next = (source : Source) × (next.inputs ≡ after i source next.event)

-- how many bytes an event brings
abbrev pub count_of : Event → ℕ
count_of Begun = 0
count_of (Piece n) = n
count_of Ended = 0
count_of Failed = 0
count_of Over = 0
