-- `bits_given::fits_width` meets its contract: from width 64 on every word fits. Assumes nothing.
use mathlib.Core.Path.{sym, ◌∙◌}
use Prim.Native.Nat.{◌^◌, ◌<◌}
use native.Mathlib.Nat.{lt_of_lt_of_le}
use native.Mathlib.Omega.{arith}
use lib.Pow.{pow_mono}
use borrow.Author.Tests.{lt-ltb, le-leb}
use Rattle.bits_given.proofs.fits_width.Goals as goal

pub returns-then-width-ge64 : goal.returns-then-width-ge64
returns-then-width-ge64 c =
    let args = c.args in
    let low : args.number < 2 ^ 64 = omega arith in
    le-leb 64 args.width c.if-width-ge64.true
    ∙ sym (lt-ltb args.number (2 ^ args.width)
    (lt_of_lt_of_le low (pow_mono {i = 64} {j = args.width} c.if-width-ge64.true)))
