-- A record written over the first of some bytes.
use Rattle.lag.specs.declared.pitch.Present.{Present}
use Rattle.std.specs.Prelude.{ℕ, Bool, false, cond, List, ◌++◌, ltb, length, drop, Option, Some, None, Ok, Err}
use Rattle.rates.specs.declared.answer.Refusal.{Refusal}
use Rattle.rates.specs.declared.answer.Refusal.TheVariants.{IndexTooLarge, TooFewBytes}
use Rattle.lag.specs.declared.pitch.PitchRecord.{PitchRecord}
use Rattle.lag.specs.Sent.{sent_of}
use Rattle.packing.specs.Form.{form}
use Rattle.packing.specs.declared.write.Writing.{Writing}

-- a pitch is present with an index above 511, which nine bits do not hold
abbrev pub index_too_large : Option Present → Bool
index_too_large None = false
index_too_large (Some p) = ltb 511 p.index

-- a refused writing has written 0 bytes
abbrev pub refused_writing : Refusal → Writing
refused_writing refusal = record { answer = Err refusal; written = 0 }

-- 7, then 15 for too little room; else the form, and the other bytes as they were
unfoldable pub sent_writing : Option Present → List ℕ → Writing × List ℕ
sent_writing sent bytes =
    cond (index_too_large sent) (refused_writing IndexTooLarge, bytes)
    (cond (ltb (length bytes) (length (form sent))) (refused_writing TooFewBytes, bytes)
    (record { answer = Ok tt; written = length (form sent) }, form sent ++ drop (length (form sent)) bytes))

-- what is written of a record is what is sent of it
abbrev pub writing : PitchRecord → List ℕ → Writing × List ℕ
writing pitch bytes = sent_writing (sent_of pitch) bytes
