-- `read_number` reads digit after digit; what it holds stays below a power of ten.
use Prim.Native.Nat.{ℕ, ◌≤◌, ◌<◌, ◌+◌, ◌-◌, ◌*◌, ◌^◌, min}
use mathlib.Core.Path.{◌≡◌, sym, ◌∙◌}
use mathlib.Core.Bool.{Bool, cond}
use mathlib.Core.List.{List}
use native.Mathlib.Numerals.{add-one}
use native.Mathlib.Nat.{pow-le-pow_right}
use native.Mathlib.Omega.{arith}
use borrow.Author.Rules.{rules}
use borrow.Author.Tests.{le-leb, lt-leb, eqb-true, eqb-false}
use lib.Dec.{lit<}
use lib.ListN.{drop, get_or, length}
use lib.Seq.{drop-cons, drop-length}
use Rattle.std.specs.Char.{is_ascii_digit}
use Rattle.lines.specs.Fields.{malformed, digits_after, number_of}
use Rattle.lines.proofs.Numbers.{long_number, below}
use Rattle.lines.proofs.field.read_number.Goals as goal
use Rattle.lines.proofs.field.read_number.Goals.{then-is_empty-via-then-is_empty, then-is_empty-via-else-is_empty+then-s-min}

-- an empty text is malformed, and any other that is no longer than may be is read
empty : (most : ℕ) (s : List ℕ) → length s ≡ 0 → number_of most s ≡ malformed
unfolding number_of
empty most s e = rw (lt-leb 1 (length s) (omega arith))

right : (most : ℕ) (s : List ℕ) → 0 < length s → length s ≤ min most 9 → number_of most s ≡ digits_after 0 s
unfolding number_of
right most s h l = rw (le-leb 1 (length s) h, le-leb (length s) (min most 9) l)

-- byte i, tested by r, is a digit, or the whole is malformed
next : (v : ℕ) (s : List ℕ) (i : ℕ) (r : Bool) → i < length s → r ≡ is_ascii_digit (get_or s i 0) →
    digits_after v (drop i s) ≡ cond r (digits_after (10 * v + (get_or s i 0 - 48)) (drop (i + 1) s)) malformed
unfolding digits_after
next v s i r h e = rw (drop-cons s i 0, add-one, e)

-- before the ninth digit the value is below 10 ^ 8
bounded : (v i : ℕ) → v < 10 ^ i → i < 9 → v < 10 ^ 8
bounded v i h k = omega (arith, pow-le-pow_right {n = 10} (lit< tt) {i = i} {j = 8} (omega arith))

pub returns-then-is_empty : goal.returns-then-is_empty
returns-then-is_empty c =
    elim c.then-is_empty.branch [
      | then-is_empty-via-then-is_empty w ↦ sym (empty c.args.most c.args.s.now (eqb-true _ _ (cc)))
      | then-is_empty-via-else-is_empty+then-s-min w ↦ sym (long_number c.args.most c.args.s.now (omega arith))
    ]

pub loop-b-init : goal.loop-b-init
loop-b-init c =
    let some : (length c.args.s.now ≡ 0 → ⊥) = eqb-false _ _ (cc) in
    (omega arith, search rules, right c.args.most c.args.s.now (omega arith) (omega arith))

pub returns-then-not-is_ascii_digit : goal.returns-then-not-is_ascii_digit
returns-then-not-is_ascii_digit c =
    sym (c.loop-b.invariant.2 ∙ (next _ _ _ _ c.loop-b-test.true c.is_ascii_digit.ensures.value ∙ rw c.if-not-is_ascii_digit.true))

pub overflow_mul-value : goal.overflow_mul-value
overflow_mul-value c = omega (arith, bounded _ _ c.loop-b.invariant.1 (omega arith))

pub overflow_add-value : goal.overflow_add-value
overflow_add-value c = omega (arith, bounded _ _ c.loop-b.invariant.1 (omega arith))

pub loop-b-preserved : goal.loop-b-preserved
loop-b-preserved c = (
  search rules,
  below _ _ _ c.loop-b.invariant.1 (omega (arith, c.if-not-is_ascii_digit.ensures.cases)),
  c.loop-b.invariant.2 ∙ (next _ _ _ _ c.loop-b-test.true c.is_ascii_digit.ensures.value ∙ rw (c.if-not-is_ascii_digit.false, c.from.ensures)),
)

pub returns : goal.returns
unfolding digits_after
returns c =
    let e : c.loop-b.b-index ≡ length c.args.s.now = omega arith in
    sym (c.loop-b.invariant.2 ∙ rw (e, drop-length))
