-- The verdicts on both ears: each is a single decoder's, of its own samples, pitch record and registers, with what the ears share.
use Rattle.rates.specs.declared.answer.Refusal.{Refusal}
use Rattle.judging.specs.declared.plan.Plan.{Plan}
use Rattle.std.specs.Prelude.{ℕ, ◌*◌, Bool, true, false, ◌&&◌, List, eqb, Float, length, Result, Err}
use Rattle.rates.specs.declared.answer.Refusal.TheVariants.{EarsDiffer}
use Rattle.rates.specs.declared.config.Lc3Config.{Lc3Config}
use Rattle.lag.specs.declared.pitch.PitchRecord.{PitchRecord}
use Rattle.control.specs.declared.marks.Marks.{Marks}
use Rattle.judging.specs.Judge.{judged_frame}
use Rattle.on_ring.specs.Registers.{fit_ring}
use Rattle.on_ring.specs.declared.registers.Registers.{Registers}
use Rattle.interleave.specs.Turns.{lefts, rights}
use Rattle.ears_judging.specs.declared.ear.Ear.{Ear}
use Rattle.ears_judging.specs.declared.judge.Verdicts.{Verdicts}

-- what the ears share: the set, nbits, the buffer's length, and whether both states name one rate and one duration
pub record Shared : Type 0 where
  pub numerators : List Float
  pub denominators : List Float
  pub nbits : ℕ
  pub count : ℕ
  pub alike : Bool

-- the names count, whether the table has them or not
abbrev pub named_alike : Marks → Marks → Bool
named_alike l r = eqb l.rate r.rate && eqb l.duration r.duration

-- 5: the buffer's length is not twice the frame
abbrev pub two_frames : ℕ → Lc3Config → Bool
two_frames count c = eqb count (2 * c.nf)

-- the verdict on an ear: 13 comes first; then it is a single decoder's, but that 5 goes by the buffer
abbrev pub judged_ear : Bool → Shared → Registers → PitchRecord → List Float → Result Plan Refusal
judged_ear false s r pitch own = Err EarsDiffer
judged_ear true s r pitch own =
    judged_frame r.marks s.numerators s.denominators (record { pitch = pitch; nbits = s.nbits }) (two_frames s.count) own (fit_ring r)

-- of two ears with these registers
abbrev pub shared_by : Registers → Registers → List Float → List Float → ℕ → List Float → Shared
shared_by l r numerators denominators nbits buffer = record {
  numerators = numerators;
  denominators = denominators;
  nbits = nbits;
  count = length buffer;
  alike = named_alike l.marks r.marks;
}

-- the verdicts on both, which look at no array of a state
abbrev pub judged_both : Ear → Ear → List Float → List Float → ℕ → List Float → Verdicts
judged_both l r numerators denominators nbits buffer =
    let s = shared_by l.registers r.registers numerators denominators nbits buffer in
    record {
      left = judged_ear s.alike s l.registers l.pitch (lefts buffer);
      right = judged_ear s.alike s r.registers r.pitch (rights buffer);
    }
