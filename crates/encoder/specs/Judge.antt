-- The refusals of a frame call, in the order of docs/SCOPE.md.
use Rattle.rates.specs.declared.answer.Refusal.{Refusal}
use Rattle.rates.specs.declared.config.Lc3Config.{Lc3Config}
use Rattle.std.specs.Prelude.{ℕ, List, ℤ, length, Float, Result}
use Rattle.encoder.specs.State.{fit_config}
use Rattle.encoder.specs.declared.state.Encoder.{Encoder}
-- the tests one by one, passed on to those who name them with `judged`
unfoldable pub use Rattle.encoder_refusals.specs.Refusals.{counted, finite_set}
pub use Rattle.encoder_refusals.specs.Refusals.{judged_set, judged_count, judged_bits}

-- the configuration by which a frame is encoded, or the first answer that refuses it: 9, 3, 4, 5, 6
unfoldable pub judged : Encoder → List Float → List Float → List Float → List ℤ → ℕ → Result Lc3Config Refusal
judged e r k s frame nbits = judged_bits (judged_count (judged_set (fit_config e) r k s) (length frame)) nbits
