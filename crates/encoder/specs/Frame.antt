-- The frame call: a refused frame, one that is encoded, and the next state.
use Rattle.rates.specs.declared.answer.Refusal.{Refusal}
use Rattle.std.specs.Prelude.{ℕ, Bool, List, ℤ, Float, Result, Ok, Err}
use Rattle.rates.specs.Answers.{Answer}
use Rattle.rates.specs.declared.config.Lc3Config.{Lc3Config}
use Rattle.lag.specs.declared.pitch.PitchRecord.TheVariants.{Absent}
use Rattle.signals.specs.Straight.{laid}
use Rattle.signals.specs.Signals.{Signals, signals_of}
use Rattle.rates.specs.Lengths.{lengths_of}
use Rattle.search.specs.Pitch.{detected}
use Rattle.encoder.specs.Judge.{judged}
use Rattle.found.specs.Found.{found_in}
use Rattle.found.specs.declared.activation.Memory.{Memory}
use Rattle.found.specs.declared.Found.{Found}
use Rattle.encoder.specs.declared.frame.Framed.{Framed}
use Rattle.rates.specs.declared.lengths.Lengths.{Lengths}
use Rattle.encoder.specs.declared.state.Encoder.{Encoder}

-- a refused frame hands back the same state, absent with 0 bits
abbrev pub refused_frame : Encoder → Answer → Framed
refused_frame e a = record { answer = a; pitch = Absent; nbits_ltpf = 0; encoder = e }

-- a frame that is done has the record and the bits that were found, and the next state
abbrev pub done_frame : Found → Encoder → Framed
done_frame found e = record { answer = Ok tt; pitch = found.pitch; nbits_ltpf = found.nbits_ltpf; encoder = e }

-- the next state: each history holds the last entries of its signal
unfoldable pub next_state : Encoder → Signals → ℕ → Lengths → ℕ → Memory → Encoder
next_state e s nf l lag m = record {
  rate = e.rate;
  duration = e.duration;
  t_prev = lag;
  memory = m;
  h50 = s.h50;
  x_s = laid 60 s.x_s nf 60;
  x_12p8 = laid 276 s.x_12p8 l.len12p8 276;
  x_6p4 = laid 114 s.x_6p4 l.len6p4 114;
}

-- a frame that is encoded: from the signals to the search, to what is found, to the next state
unfoldable pub encoded : Encoder → Lc3Config → List Float → List Float → List Float → List ℤ → ℕ → Bool → Framed
encoded e c r k s frame nbits near =
    let l = lengths_of c.n_ms in
    let signals = signals_of e.x_s e.x_12p8 e.x_6p4 e.h50 c.fs.p l r frame in
    let d = detected signals.x_6p4 l.len6p4 e.t_prev in
    let found = found_in c signals.x_12p8 d e.memory k s nbits near in
    done_frame found (next_state e signals c.nf l d.t_curr found.memory)

-- a frame that is refused, or encoded by a configuration
abbrev pub framed_by : Result Lc3Config Refusal → Encoder → List Float → List Float → List Float → List ℤ → ℕ → Bool → Framed
framed_by (Err a) e r k s frame nbits near = refused_frame e (Err a)
framed_by (Ok c) e r k s frame nbits near = encoded e c r k s frame nbits near

-- the frame call: a state, the three slices of a set, the samples, the bits and the near-Nyquist flag
abbrev pub framed : Encoder → List Float → List Float → List Float → List ℤ → ℕ → Bool → Framed
framed e r k s frame nbits near = framed_by (judged e r k s frame nbits) e r k s frame nbits near
