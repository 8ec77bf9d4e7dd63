-- `activation_bit` puts the correlation, the lag and the tests together.
use mathlib.Core.Path.{◌≡◌, ◌∙◌, ap}
use lib.Ieee.{of_bits, of_int, round}
use Rattle.found.specs.Activation.{no_delay, shifted, sums_of, nc_of, activation}
use Rattle.found.proofs.activation.activation_bit.Goals as goal

pub returns : goal.returns
unfolding activation of_bits of_int round
returns c =
    let nc_is : let a = c.args in
    c.normalised-nc.result ≡ nc_of (sums_of (no_delay a.frame.x.now a.frame.start a.signal.now) (shifted a.frame.x.now a.frame.start a.lag.pitch_int a.lag.pitch_fr a.signal.now) a.frame.len12p8) =
    c.normalised-nc.ensures ∙ ap nc_of c.nc_sums.ensures in
    rw (c.is_active-active.ensures, nc_is)
