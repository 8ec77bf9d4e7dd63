-- A frame's number has nine digits at most, so it is below 10 ^ 9.
use Prim.Native.Nat.{ℕ, ◌^◌, ◌<◌}
use mathlib.Core.Path.{◌≡◌, refl, ap}
use mathlib.Core.Bool.{Bool, true, false, cond}
use mathlib.Core.List.{List}
use native.Mathlib.Omega.{arith}
use Rattle.std.proofs.Common.{Some, None, Result, Ok, Err}
use Rattle.lines.specs.Fields.{has_tab, before_tab, after_tab, malformed, number_of}
use Rattle.lines.specs.declared.field.Malformed.{Malformed}
use Rattle.lines.proofs.Numbers.{number_below}
use Rattle.judging.specs.declared.plan.SideInfo.{SideInfo}
use Rattle.entries.specs.declared.line.Entry.{Entry}
use Rattle.entries.specs.Sides.{side_read}
use Rattle.entries.specs.Lines.{is_lost, framed, numbered, with_number, line_read}

-- a line keeps the number that it was read with
kept : (frame : ℕ) (rest : List ℕ) (e : Entry) → numbered frame rest ≡ Ok e → frame ≡ e.frame
unfolding numbered
kept frame rest e h = go (is_lost rest) (side_read rest) h
  where
    go : (t : Bool) (side : Result SideInfo Malformed) → cond t (Ok (record { frame = frame; content = None })) (framed frame side) ≡ Ok e → frame ≡ e.frame
    go true side q = let same : ◌≡◌ {A = Entry} (record { frame = frame; content = None }) e = cc in ap (λ (x : Entry). x.frame) same
    go false (Err x) q = let z : ◌≡◌ {A = ℕ} 0 1 = cc in absurd (omega arith)
    go false (Ok side) q = let same : ◌≡◌ {A = Entry} (record { frame = frame; content = Some side }) e = cc in ap (λ (x : Entry). x.frame) same

pub frame_below : (line : List ℕ) (e : Entry) → line_read line ≡ Ok e → e.frame < 10 ^ 9
unfolding line_read
frame_below line e h = go (has_tab line) (number_of 9 (before_tab line)) refl h
  where
    go : (t : Bool) (n : Result ℕ Malformed) → number_of 9 (before_tab line) ≡ n → cond t (with_number n (after_tab line)) malformed ≡ Ok e → e.frame < 10 ^ 9
    go false n p q = let z : ◌≡◌ {A = ℕ} 0 1 = cc in absurd (omega arith)
    go true (Err x) p q = let z : ◌≡◌ {A = ℕ} 0 1 = cc in absurd (omega arith)
    go true (Ok frame) p q = omega (arith, number_below 9 (before_tab line) frame p, kept frame (after_tab line) e q)
