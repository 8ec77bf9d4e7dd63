-- The two filters of a frame.
use Rattle.std.specs.Prelude.{List, Float}
use Rattle.rates.specs.declared.table.Rate.{Rate}
use Rattle.coefficients.specs.Coefficients.{Filter, new_filter, read_out}
use Rattle.control.specs.declared.marks.Marks.{Marks}
use Rattle.judging.specs.declared.plan.Plan.{Plan}

-- the previous frame's filter: its coefficients as they are kept, and its lag
abbrev pub kept_filter : Rate → Marks → List Float → Filter
kept_filter fs m kept = read_out fs.l_den m.lag.whole kept

-- this frame's filter
abbrev pub filter_for : Plan → List Float → List Float → Filter
filter_for plan numerators denominators = new_filter plan.config.fs.l_den plan.active plan.gain plan.lag numerators denominators
