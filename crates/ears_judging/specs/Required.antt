-- What a private function of this crate asks of its caller. No promise of a public function names any of it.
use Rattle.std.specs.Prelude.{◌≤◌, ◌<◌}
use Rattle.rates.specs.declared.config.Lc3Config.{Lc3Config}

-- a frame has some samples, and 480 at most
pub record FrameLong (c : Lc3Config) : Type 0 where
  pub some : 0 < c.nf
  pub most : c.nf ≤ 480
