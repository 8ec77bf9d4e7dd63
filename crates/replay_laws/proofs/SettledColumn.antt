-- THE SETTLED COLUMN. `by_calls`: after any lines the decoder is what the calls of those lines leave from a start. `settled_column`: where a line
-- shows whether the decoder is settled, that is what the settled rule says of those calls, the line's own among them.
use Prim.Native.Nat.{ℕ}
use mathlib.Core.Path.{◌≡◌, refl, sym, ap, ◌∙◌}
use mathlib.Core.Bool.{Bool, true, false, cond}
use mathlib.Core.List.{List, [], ◌∷◌, ◌++◌}
use Rattle.std.proofs.Common.{Option, Some, None, Result, Ok, Err}
use Rattle.rates.specs.declared.answer.Refusal.TheVariants.{WrongFrameNumber}
use Rattle.rates.specs.Answers.{Answer}
use Rattle.rates.specs.declared.answer.Refusal.{Refusal}
use Rattle.judging.specs.Judge.{judged}
use Rattle.judging.specs.declared.plan.SideInfo.{SideInfo}
use Rattle.judging.specs.declared.plan.Plan.{Plan}
use Rattle.decoder.specs.State.{fit_decoder}
use Rattle.decoder.specs.declared.state.Decoder.{Decoder}
use Rattle.settling_laws.specs.Calls.{Call, after, reply, from_start, events_from, settled_by}
use Rattle.settling_laws.proofs.SettledExactly.{settled_exactly}
use Rattle.lines.specs.Listings.{after_lines}
use Rattle.lines.specs.declared.field.Malformed.{Malformed}
use Rattle.entries.specs.Lines.{line_read}
use Rattle.entries.specs.declared.line.Entry.{Entry}
use Rattle.replaying.specs.Frames.{answered_row}
use Rattle.replaying.specs.Steps.{follows}
use Rattle.replaying.specs.declared.frame.Columns.{Columns}
use Rattle.replay_laws.specs.Whole.{Setting, Between, first, shown_by, given, call_of, shown_of, called_row, counted_line, skipped_line, moved_by, row_of, replay_rules}
use Rattle.replay_laws.specs.Made.{made_by, calls_of}

module _ (setting : Setting) where
  abbrev started : List Call → Decoder
  started calls = from_start setting.rate setting.duration calls

  -- one line
  line_by_calls : (s : Between) (calls : List Call) → s.decoder ≡ started calls → (l : Result Entry Malformed) →
      (moved_by setting s l).decoder ≡ started (made_by setting s.last l calls)
  line_by_calls s calls e (Err m) = e
  line_by_calls s calls e (Ok x) = go (follows s.last x.frame)
    where
      go : (b : Bool) → (cond b (counted_line setting s x.frame x.content) (skipped_line s)).decoder ≡ started (cond b (call_of setting x.content ∷ calls) calls)
      go true = ap (λ (d : Decoder). after d (call_of setting x.content)) e
      go false = e

  lines_by_calls : (s : Between) (calls : List Call) → s.decoder ≡ started calls → (ls : List (List ℕ)) →
      (after_lines (replay_rules setting) s ls).decoder ≡ started (calls_of setting s ls calls)
  unfolding after_lines calls_of
  lines_by_calls s calls e [] = e
  lines_by_calls s calls e (line ∷ rest) =
      lines_by_calls (moved_by setting s (line_read line)) (made_by setting s.last (line_read line) calls) (line_by_calls s calls e (line_read line)) rest

  pub by_calls : (ls : List (List ℕ)) → (after_lines (replay_rules setting) (first setting) ls).decoder ≡ from_start setting.rate setting.duration (calls_of setting (first setting) ls [])
  by_calls ls = lines_by_calls (first setting) [] refl ls

  -- a last line's call is the latest
  calls_append : (s : Between) (calls : List Call) (ls : List (List ℕ)) (line : List ℕ) →
      calls_of setting s (ls ++ (line ∷ [])) calls ≡ made_by setting (after_lines (replay_rules setting) s ls).last (line_read line) (calls_of setting s ls calls)
  unfolding after_lines calls_of
  calls_append s calls [] line = refl
  calls_append s calls (l ∷ ls) line = calls_append (moved_by setting s (line_read l)) (made_by setting s.last (line_read l) calls) ls line

-- a row that shows columns was made of them
shows_it : (a : Answer) (shown : Option Columns) (c : Columns) → answered_row a shown ≡ Ok (Some c) → shown ≡ Some c
shows_it (Ok done) shown c q = cc
shows_it (Err refusal) shown c q = cc

-- what is shown
abbrev shows : Option Columns → Bool
shows None = false
shows (Some c) = c.settled

module _ (setting : Setting) where
  -- a call shows the report that it gives, or none
  shown_settled : (d : Decoder) (content : Option SideInfo) (c : Columns) → shown_of setting d content ≡ Some c → c.settled ≡ (reply d (call_of setting content)).settled
  shown_settled d None c e = cc
  shown_settled d (Some side) c e =
      go (judged d.registers.marks (fit_decoder d) setting.numerators setting.denominators side (given setting side).samples) e
    where
      go : (v : Result Plan Refusal) → shown_by v side.pitch (reply d (call_of setting (Some side))).settled ≡ Some c →
          c.settled ≡ (reply d (call_of setting (Some side))).settled
      go (Err refusal) q = cc
      go (Ok plan) q = sym (ap shows q)

  pub settled_column : (ls : List (List ℕ)) (line : List ℕ) (c : Columns) →
      row_of setting (after_lines (replay_rules setting) (first setting) ls) (line_read line) ≡ Ok (Some c) →
      c.settled ≡ settled_by (events_from setting.rate setting.duration (calls_of setting (first setting) (ls ++ (line ∷ [])) []))
  settled_column ls line c e = rw (calls_append setting (first setting) [] ls line) (go (line_read line) e)
    where
      s : Between
      s = after_lines (replay_rules setting) (first setting) ls

      calls : List Call
      calls = calls_of setting (first setting) ls []

      called : (content : Option SideInfo) → called_row setting s.decoder content ≡ Ok (Some c) →
          c.settled ≡ settled_by (events_from setting.rate setting.duration (call_of setting content ∷ calls))
      called content q =
          shown_settled s.decoder content c (shows_it _ _ c q) ∙ ap (λ (d : Decoder). (reply d (call_of setting content)).settled) (by_calls setting ls)
          ∙ settled_exactly setting.rate setting.duration (call_of setting content) calls

      go : (l : Result Entry Malformed) → row_of setting s l ≡ Ok (Some c) → c.settled ≡ settled_by (events_from setting.rate setting.duration (made_by setting s.last l calls))
      go (Err e) q = cc
      go (Ok x) q = pick (follows s.last x.frame) q
        where
          pick : (b : Bool) → cond b (called_row setting s.decoder x.content) (Err WrongFrameNumber) ≡ Ok (Some c) →
              c.settled ≡ settled_by (events_from setting.rate setting.duration (cond b (call_of setting x.content ∷ calls) calls))
          pick true p = called x.content p
          pick false p = cc
