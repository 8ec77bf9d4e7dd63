-- The version of the calls from C.
use Rattle.std.specs.Prelude.{ℕ, ◌+◌, ◌*◌}

-- 2.1.0
abbrev pub version : ℕ
version = 2 * 10000 + 1 * 100 + 0
