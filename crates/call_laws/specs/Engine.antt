-- An engine keeps a state from call to call: a decoder, one ear, both ears, the arrays that C holds. Calls one after the other are said here once.
-- Lists of calls, and of what is said of them, have the latest first.
use Rattle.std.specs.Prelude.{Bool, true, false, cond, List, [], ◌∷◌, ◌++◌}

-- the state after a call, and what the call replies
pub record Engine (State Call Reply : Type 0) : Type 0 where
  pub after : State → Call → State
  pub reply : State → Call → Reply

module _ {State Call Reply : Type 0} (e : Engine State Call Reply) where
  -- the state after all of the calls
  abbrev pub after_all : State → List Call → State
  after_all s [] = s
  after_all s (c ∷ earlier) = e.after (after_all s earlier) c

  -- what is said of each call, given the state before it
  abbrev pub each : {A : Type 0} → (State → Call → A) → State → List Call → List A
  each say s [] = []
  each say s (c ∷ earlier) = say (after_all s earlier) c ∷ each say s earlier

  -- the same where nothing is said of some calls
  abbrev pub some : {A : Type 0} → (State → Call → List A) → State → List Call → List A
  some say s [] = []
  some say s (c ∷ earlier) = say (after_all s earlier) c ++ some say s earlier

  -- the replies
  abbrev pub replies : State → List Call → List Reply
  replies s calls = each e.reply s calls

  -- whether each of the calls is such a one
  abbrev pub all_of : (Call → Bool) → List Call → Bool
  all_of is [] = true
  all_of is (c ∷ earlier) = cond (is c) (all_of is earlier) false
