-- A listing byte by byte, in calls: what is held of a line, and what each byte and each call make of it.
use Rattle.std.specs.Prelude.{ℕ, zero, suc, ◌+◌, ◌-◌, Bool, cond, not, ◌&&◌, List, [], ◌∷◌, ◌++◌, leb, ltb, eqb, length, take, drop, set, replicate}
use Rattle.lines.specs.Fields.{byte_at}
use Rattle.lines.specs.Listings.{Rules, row_at, state_at}
use Rattle.lines.specs.declared.held.Held.{Held}
use Rattle.lines.specs.declared.held.Taken.{Taken}

-- before the first byte of a line nothing of it is held
abbrev pub emptied : Held → Held
emptied h = record { bytes = h.bytes; len = 0 }

abbrev pub nothing_held : Held
nothing_held = record { bytes = replicate 32 0; len = 0 }

abbrev pub held_line : Held → List ℕ
held_line h = take h.len h.bytes

-- a newline begins the next line; any other byte is held while fewer than 32 are
unfoldable pub held_step : Held → ℕ → Held
held_step h b =
    cond (eqb b 10) (emptied h)
    (cond (ltb h.len 32) (record { bytes = set h.bytes h.len b; len = h.len + 1 }) h)

unfoldable pub held_after : Held → List ℕ → Held
held_after h [] = h
held_after h (b ∷ bs) = held_after (held_step h b) bs

-- the bytes of `rest` before its first newline, taken into what is held; `rest` starts at `at`
abbrev pub line_taken : Held → List ℕ → ℕ → Taken
line_taken h rest at = record { held = held_after h (take (byte_at 10 rest) rest); at = at + byte_at 10 rest }

-- a call is offered the next `cut` bytes of what is left of the input, and a buffer of `buffer` bytes to write into
pub record Call : Type 0 where
  pub cut : ℕ
  pub buffer : ℕ

module _ (L : Rules) where
  -- a newline ends the line that is held: the state moves on, and the row is written
  unfoldable pub state_step : L.State → Held → ℕ → L.State
  state_step s h b = cond (eqb b 10) (state_at L s (held_line h)) s

  unfoldable pub emitted : L.State → Held → ℕ → List ℕ
  emitted s h b = cond (eqb b 10) (row_at L s (held_line h)) []

  -- the state after some bytes, and the text that they make
  unfoldable pub state_after : L.State → Held → List ℕ → L.State
  state_after s h [] = s
  state_after s h (b ∷ bs) = state_after (state_step s h b) (held_step h b) bs

  unfoldable pub text : L.State → Held → List ℕ → List ℕ
  text s h [] = []
  text s h (b ∷ bs) = emitted s h b ++ text (state_step s h b) (held_step h b) bs

  -- a call can go no further where fewer than `space` bytes are free to write into; a listing that has stopped writes no row, and needs none
  abbrev pub full : L.State → ℕ → Bool
  full s free = not (L.stops s) && ltb free L.space

  -- how many bytes a call takes: all, or those before the first at which it can go no further
  unfoldable pub taken : L.State → Held → List ℕ → ℕ → ℕ
  taken s h [] free = zero
  taken s h (b ∷ bs) free =
      cond (full s free) zero (suc (taken (state_step s h b) (held_step h b) bs (free - length (emitted s h b))))

  -- at the end: a last line without a newline has a row too, and then the listing is closed
  unfoldable pub last_text : L.State → Held → List ℕ
  last_text s h = cond (eqb h.len 0) (L.closing s) (row_at L s (held_line h) ++ L.closing (state_at L s (held_line h)))

  -- where a reading of the input in calls stands: the state, what is held, the input that is left, and all text so far.
  pub record Reading : Type 0 where
    pub state : L.State
    pub held : Held
    pub left : List ℕ
    pub texts : List ℕ

  -- before the first call the header is written
  abbrev pub begun : List ℕ → Reading
  begun input = record { state = L.first; held = nothing_held; left = input; texts = L.header }

  -- the bytes that a call is offered, and how many of them it takes
  abbrev pub offered : Reading → Call → List ℕ
  offered f c = take c.cut f.left

  unfoldable pub taken_by : Reading → Call → ℕ
  taken_by f c = taken f.state f.held (offered f c) c.buffer

  -- it writes their text, and the next call is offered what is left
  unfoldable pub called : Reading → Call → Reading
  called f c =
      record {
        state = state_after f.state f.held (take (taken_by f c) (offered f c));
        held = held_after f.held (take (taken_by f c) (offered f c));
        left = drop (taken_by f c) f.left;
        texts = f.texts ++ text f.state f.held (take (taken_by f c) (offered f c));
      }

  unfoldable pub called_all : Reading → List Call → Reading
  called_all f [] = f
  called_all f (c ∷ cs) = called_all (called f c) cs

  -- all text, once the last line's row and the closing text are written
  abbrev pub whole_text : Reading → List ℕ
  whole_text f = f.texts ++ last_text f.state f.held

  -- how many of some calls are offered a byte and have space for a row
  unfoldable pub serving : List Call → ℕ
  serving [] = zero
  serving (c ∷ cs) = cond (leb 1 c.cut && leb L.space c.buffer) (suc (serving cs)) (serving cs)
