-- What a duration fixes at 12.8 and at 6.4 kHz.
use Rattle.rates.specs.declared.duration.FrameDuration.{FrameDuration}
use Rattle.rates.specs.declared.duration.FrameDuration.TheVariants.{TenMs, SevenPointFiveMs}
use Rattle.rates.specs.declared.lengths.Lengths.{Lengths}

-- the frame's samples at 12.8 and at 6.4 kHz, and where the delayed frame starts: 24 or 44 samples before the new ones, which start at 276
abbrev pub lengths_of : FrameDuration → Lengths
lengths_of TenMs = record { len12p8 = 128; len6p4 = 64; start = 252 }
lengths_of SevenPointFiveMs = record { len12p8 = 96; len6p4 = 48; start = 232 }
