-- `put_digits` writes the digits above the last by calling itself, and then the last.
use native.Mathlib.Omega.{arith}
use mathlib.Core.Path.{◌≡◌}
use lib.ListN.{length}
use Rattle.cells.specs.Decimal.{decimal}
use Rattle.cells.proofs.Decimals.{decimal_one, decimal_more, length_one, length_more}
use Rattle.cells.proofs.Stores.{sets_append}
use Prim.Native.Nat.{ℕ, ◌+◌, ◌/◌, ◌≤◌}
use Rattle.cells.proofs.decimal.+put_digits.Goals as goal

-- the tens have one digit less
shorter : {n q : ℕ} → 10 ≤ n → q ≡ n / 10 → length (decimal n) ≡ length (decimal q) + 1
shorter {n} {q} h t = rw (length_more n h, t)

pub bounds-out-at : goal.bounds-out-at
bounds-out-at t c = omega (arith, length_one _ c.if-n-lt10.true)

pub returns-then-n-lt10 : goal.returns-then-n-lt10
returns-then-n-lt10 t c =
    record {
      next_after_digits = omega (arith, length_one _ c.if-n-lt10.true);
      digits_stored = rw (decimal_one _ c.if-n-lt10.true);
    }

pub put_digits-next-requires : goal.put_digits-next-requires
put_digits-next-requires t c = (omega arith, omega (arith, shorter c.if-n-lt10.false c.in_tens-parted.ensures.quotient))

pub bounds-out-next : goal.bounds-out-next
bounds-out-next t c = omega (arith, shorter c.if-n-lt10.false c.in_tens-parted.ensures.quotient)

pub overflow_add-result-2 : goal.overflow_add-result-2
overflow_add-result-2 t c = omega (arith, shorter c.if-n-lt10.false c.in_tens-parted.ensures.quotient)

pub returns : goal.returns
returns t c =
    record {
      next_after_digits = omega (arith, shorter c.if-n-lt10.false c.in_tens-parted.ensures.quotient);
      digits_stored =
          rw (c.put_digits-next.ensures.digits_stored, c.put_digits-next.ensures.next_after_digits, c.in_tens-parted.ensures.quotient, c.in_tens-parted.ensures.remainder, decimal_more _ c.if-n-lt10.false, ← sets_append);
    }
