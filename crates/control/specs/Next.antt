-- The marks after a frame and after a loss mark.
use Rattle.std.specs.Prelude.{Bool, false}
use Rattle.lag.specs.declared.rescale.Lag.{Lag}
use Rattle.control.specs.State.{run_after, settled_after}
use Rattle.control.specs.declared.marks.Marks.{Marks}

-- after a frame, active or not, with this lag: it is remembered, and the run counts
unfoldable pub next_marks : Marks → Bool → Lag → Marks
next_marks m active lag =
    let run = run_after active m.run in record {
      rate = m.rate;
      duration = m.duration;
      run = run;
      ltpf_active_prev = active;
      settled = settled_after m.settled run;
      lag = lag;
    }

-- a loss mark sets the run to 0 and settled to no, and changes nothing else
abbrev pub unsettled : Marks → Marks
unsettled m = record {
  rate = m.rate;
  duration = m.duration;
  run = 0;
  ltpf_active_prev = m.ltpf_active_prev;
  settled = false;
  lag = m.lag;
}
