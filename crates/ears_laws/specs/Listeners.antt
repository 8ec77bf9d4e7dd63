-- Listeners: a decoder by itself, or one ear of a headset. What calls are to each is said in the same words, so that any two can be compared.
use Rattle.std.specs.Prelude.{◌*◌, true, List, map, length}
use Rattle.decoder.specs.declared.state.Decoder.{Decoder}
use Rattle.settling_laws.specs.Calls as one
use Rattle.ears_laws.specs.Calls.{Headset, WhichEar, own, Arrays, Call, after_all, replies_to, EarGiven, EarCall, calls_of, events_to}

pub data Listener : Type 0 where
  alone : Decoder → Listener
  ear_of : WhichEar → Headset → Listener

-- its state
abbrev pub state : Listener → Decoder
state (alone d) = d
state (ear_of e h) = own e h

-- the rings of a headset are arrays of 1,080 samples
abbrev pub WithArrays : Listener → Type 0
WithArrays (alone d) = Unit
WithArrays (ear_of e h) = Arrays h

-- calls, the latest first: of the decoder, or of both ears
abbrev pub Calls : Listener → Type 0
Calls (alone d) = List one.Call
Calls (ear_of e h) = List Call

-- the listener after them, what they replied to it, and what they were to it
abbrev pub called : (l : Listener) → Calls l → Listener
called (alone d) calls = alone (one.after_all d calls)
called (ear_of e h) calls = ear_of e (after_all h calls)

abbrev pub replies_in : (l : Listener) → Calls l → List one.Reply
replies_in (alone d) calls = one.replies d calls
replies_in (ear_of e h) calls = replies_to e h calls

abbrev pub events_in : (l : Listener) → Calls l → List one.Event
events_in (alone d) calls = one.events d calls
events_in (ear_of e h) calls = events_to e h calls

-- a frame of a decoder by itself is to it what a frame of both ears is to an ear, if both name the same and the buffer has twice its samples
abbrev pub as_ear : one.Given → EarGiven
as_ear f = record {
  shared = record {
    numerators = f.numerators;
    denominators = f.denominators;
    nbits = f.side.nbits;
    count = 2 * length f.samples;
    alike = true;
  };
  pitch = f.side.pitch;
  samples = f.samples;
}

abbrev pub as_ear_call : one.Call → EarCall
as_ear_call (one.start rate duration) = one.start rate duration
as_ear_call (one.frame f) = one.frame (as_ear f)
as_ear_call one.loss = one.loss

-- the calls as those of an ear
abbrev pub calls_in : (l : Listener) → Calls l → List EarCall
calls_in (alone d) calls = map as_ear_call calls
calls_in (ear_of e h) calls = calls_of e h calls
