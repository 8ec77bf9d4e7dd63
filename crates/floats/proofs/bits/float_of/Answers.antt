-- `float_of`: a pattern above infinity, its sign dropped, is a NaN's, and no other is.
use Prim.Native.Nat.{◌%◌}
use mathlib.Core.Path.{◌≡◌, refl, sym, ◌∙◌}
use mathlib.Core.Bool.{true, true≢false}
use borrow.Author.Tests.{le-ltb, lt-ltb}
use lib.Ieee.{Float, nan, inf, fin, binary32, of_bits, is_nan, div}
use lib.Ieee.Bits.{nan_bits_above, nan_bits_is}
use Rattle.floats.proofs.bits.float_of.Goals as goal

nan_told : (x : Float) → is_nan x ≡ true → x ≡ nan
unfolding is_nan
nan_told nan e = refl
nan_told (inf s) e = absurd (true≢false (sym e))
nan_told (fin s m e) p = absurd (true≢false (sym p))

pub returns-then-bits-gt2139095040 : goal.returns-then-bits-gt2139095040
unfolding div of_bits
returns-then-bits-gt2139095040 c =
    sym (nan_told (of_bits binary32 c.args.bits)
    (sym (nan_bits_is binary32 c.args.bits) ∙ nan_bits_above binary32 c.args.bits ∙ lt-ltb 0x7f80_0000 (c.args.bits % 0x8000_0000) c.if-bits-gt2139095040.true))

pub float_from_bits-result : goal.float_from_bits-result
float_from_bits-result c = rw (nan_bits_above binary32 c.args.bits, le-ltb 0x7f80_0000 (c.args.bits % 0x8000_0000) c.if-bits-gt2139095040.false) tt
