-- What a private function of this crate asks of its caller. No promise of a public function names any of it.
use Rattle.std.specs.Prelude.{◌<◌, ◌^◌}
use Rattle.lag.specs.declared.rescale.Lag.{Lag}

-- a lag that C's numbers hold
pub record Narrow (lag : Lag) : Type 0 where
  pub whole : lag.whole < 2 ^ 32
  pub quarter : lag.quarter < 2 ^ 32
