-- `encode` goes from the signals to the search, to what is found, to the next state.
use Prim.Native.Nat.{ℕ}
use mathlib.Core.Path.{◌≡◌, ◌∙◌, ap}
use mathlib.Core.Bool.{Bool, true}
use mathlib.Core.List.{List}
use lib.IntN.{ℤ}
use lib.Ieee.{Float, of_bits}
use Rattle.rates.specs.Lengths.{lengths_of}
use Rattle.rates.specs.declared.config.Lc3Config.{Lc3Config}
use Rattle.signals.specs.Straight.{laid}
use Rattle.resampling.specs.Resample.{usable}
use Rattle.signals.specs.Signals.{at_rate, at12p8, at6p4, made12p8, left12p8}
use Rattle.signals.specs.declared.highpass.HighPass.{HighPass}
use Rattle.resampling.proofs.Steps.{step_usable}
use Rattle.search.specs.Pitch.{detected, lag_within}
use Rattle.search.specs.declared.pitch.Detected.{Detected}
use Rattle.search.proofs.Pitches.{within_same}
use Rattle.found.specs.Found.{found_in}
use Rattle.found.specs.declared.Found.{Found}
use Rattle.encoder.specs.Frame.{done_frame, next_state, encoded}
use Rattle.encoder.specs.declared.state.Encoder.{Encoder}
use Rattle.encoder.proofs.Judged.{Judged, judged_facts}
use Rattle.encoder.proofs.frame.encode.Goals as goal

pub next-encoder-requires : goal.next-encoder-requires
next-encoder-requires c =
    let facts : Judged c.args.e c.args.c c.args.set.resampling.now c.args.set.correlation.now c.args.set.signal.now c.args.frame.now =
    judged_facts _ _ _ _ _ _ _ c.requires in
    facts.samples.1

-- the definition's steps, one after the other
joined : (e : Encoder) (c : Lc3Config) (r k s : List Float) (frame : List ℤ) (nbits : ℕ) (near : Bool) (x y z : List Float) (h : HighPass) (d : Detected) (f : Found) →
    let l = lengths_of c.n_ms in
    usable r c.fs.p ≡ true → lag_within e.t_prev ≡ e.t_prev → x ≡ at_rate e.x_s frame →
    h ≡ left12p8 e.h50 (laid 404 e.x_12p8 0 276) x r c.fs.p l.len12p8 →
    y ≡ made12p8 e.h50 (laid 404 e.x_12p8 0 276) x r c.fs.p l.len12p8 → z ≡ at6p4 e.x_6p4 y l.start l.len6p4 →
    d ≡ detected z l.len6p4 (lag_within e.t_prev) → f ≡ found_in c y d e.memory k s nbits near →
    done_frame f (next_state e (record { x_s = x; x_12p8 = y; x_6p4 = z; h50 = h }) c.nf l d.t_curr f.memory) ≡ encoded e c r k s frame nbits near
unfolding encoded at12p8 made12p8 left12p8
joined e c r k s frame nbits near x y z h d f u t a g i m n o = rw (o, n, t, m, i, g, u, a)

pub returns : goal.returns
unfolding at_rate at6p4 laid of_bits
returns c =
    let facts : Judged c.args.e c.args.c c.args.set.resampling.now c.args.set.correlation.now c.args.set.signal.now c.args.frame.now =
    judged_facts _ _ _ _ _ _ _ c.requires in
    let a = c.args in
    let j = facts in
    c.done.ensures ∙ ap (λ (n : Encoder). done_frame c.found_in-found.result n) c.next-encoder.ensures
    ∙ joined a.e a.c a.set.resampling.now a.set.correlation.now a.set.signal.now a.frame.now a.nbits a.near_nyquist _ _ _ _ _ _
    (step_usable _ _ _ j.row j.set.0) (within_same _ j.lag.0 j.lag.1) c.at_rate.ensures c.at_12p8-h50.ensures.after c.at_12p8-h50.ensures.signal c.at_6p4.ensures
    c.pitch_detection-detected.ensures c.found_in-found.ensures
