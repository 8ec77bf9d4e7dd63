-- `found_in` goes by what was detected, as the definition does.
use mathlib.Core.Path.{sym, ◌∙◌}
use native.Mathlib.Omega.{arith}
use Rattle.found.specs.Found.{found_in}
use Rattle.found.proofs.LagParameters.{Sendable, parameter_sendable}
use Rattle.found.proofs.Readiness.{first_unready, second_unready, ready_by, ready_lag}
use Rattle.found.proofs.found_in.Goals as goal

pub returns-in_default : goal.returns-in_default
unfolding found_in
returns-in_default c = rw (first_unready c.args.d c.args.correlation.now c.args.signal.now c.in_default.ensures.1, c.absent.ensures)

pub returns-in_default-try_from : goal.returns-in_default-try_from
unfolding found_in
returns-in_default-try_from c = rw (second_unready c.args.d c.args.correlation.now c.args.signal.now c.in_default-try_from.ensures.1, c.absent-in_default-try_from.ensures)

pub returns-then-not-is_ready : goal.returns-then-not-is_ready
unfolding found_in
returns-then-not-is_ready c = rw (ready_by c.args.d c.args.correlation.now c.args.signal.now _ c.in-Ok.ensures.1.long c.in-Ok-try_from.ensures.1.long c.is_ready.ensures, c.if-not-is_ready.true, c.absent-then-not-is_ready.ensures)

pub activation_bit-a-requires : goal.activation_bit-a-requires
activation_bit-a-requires c =
    let r = ready_lag c.args.d (sym c.is_ready.ensures ∙ c.if-not-is_ready.false) in
    let sent : Sendable c.pitch_lag_parameter-lag.result = rw c.pitch_lag_parameter-lag.ensures (parameter_sendable _ _ _ _ _ r.0 r.1) in
    omega (arith, sent)

pub returns : goal.returns
unfolding found_in
returns c =
    rw (
      ready_by c.args.d c.args.correlation.now c.args.signal.now _ c.in-Ok.ensures.1.long c.in-Ok-try_from.ensures.1.long c.is_ready.ensures,
      c.if-not-is_ready.false,
      c.present.ensures,
      c.activation_bit-a.ensures,
      c.is_ten_ms-ten_ms.ensures,
      c.gain_ltpf_on-on.ensures,
      c.pitch_lag_parameter-lag.ensures,
      c.lengths_of-l.ensures,
      c.in-Ok.ensures.1.same,
      c.in-Ok-try_from.ensures.1.same,
    )
