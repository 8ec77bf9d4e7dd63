-- `put_cell` writes the number, which 20 bytes hold, and the byte after it.
use Rattle.std.proofs.Common.{ℕ, List, Bool, true, ◌≡◌, ◌∙◌, sym, refl, ◌+◌, ◌^◌, ◌<◌, ◌≤◌, leb, length, arith}
use Rattle.std.proofs.lemmas.Bool.{leb-true}
use Rattle.cells.specs.Texts.{Written, Put}
use Rattle.cells.specs.Decimal.{decimal}
use Rattle.cells.proofs.Decimals.{decimal_64}
use Rattle.cells.proofs.Stores.{written, written_then, written_length, put_written}
use Rattle.cells.proofs.cell.put_cell.Goals as goal

-- where 21 bytes are left, one is left after the number
record Numbered (l m : List ℕ) (i n next : ℕ) : Type 0 where
  room : i + 21 ≤ length l
  number : Written l i (decimal n) m next
  near : next < i + 21
  there : next < length m

numbered : (l m : List ℕ) (i n next : ℕ) (room : Bool) → n < 2 ^ 64 → room ≡ leb (i + 21) (length l) → room ≡ true → Put 20 l i (decimal n) m next → Numbered l m i n next
numbered l m i n next room h e t p =
    let left : i + 21 ≤ length l = leb-true _ _ (sym e ∙ t) in
    let number : Written l i (decimal n) m next = written p (omega arith) in
    record {
      room = left;
      number = number;
      near = omega (arith, number.ends, decimal_64 n h);
      there = omega (arith, number.ends, decimal_64 n h, written_length number);
    }

pub bounds-out-next : goal.bounds-out-next
bounds-out-next c = (numbered _ _ _ c.args.n _ _ (omega arith) c.fits.ensures c.if-not-fits.false c.put_number-next.ensures).there

pub overflow_add-result : goal.overflow_add-result
overflow_add-result c =
    let all = numbered _ _ _ c.args.n _ _ (omega arith) c.fits.ensures c.if-not-fits.false c.put_number-next.ensures in
    omega (arith, all.near, all.room)

pub returns : goal.returns
returns c =
    let all = numbered _ _ _ c.args.n _ _ (omega arith) c.fits.ensures c.if-not-fits.false c.put_number-next.ensures in
    record {
      cell_put = put_written all.room (written_then all.number (record { stored = refl; ends = refl }));
      next_within = omega (arith, all.near);
    }
