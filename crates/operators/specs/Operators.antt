-- Document 01, "Words", "Operations and bodies", and document 02, change 3: in what the operations of one layout
-- differ, as far as their numbers and their output width go.
use Rattle.std.specs.Prelude.{Bool, true, false, ℕ}
use Rattle.operators.specs.declared.Binary.{Binary}
use Rattle.operators.specs.declared.Binary.TheVariants.{And, Or, Xor, Eq, ULt, SLt, Mul}
use Rattle.operators.specs.declared.Binary.TheVariants.{UDiv, UMod, SDivTrunc, SModTrunc}
use Rattle.operators.specs.declared.Shift.{Shift}
use Rattle.operators.specs.declared.Shift.TheVariants.{Shl, UShr, SShr, XShr}

-- The least n: Eq, ULt, SLt, SShr and the signed divisions need n > 0 (fault 7).
abbrev pub binary_least : Binary → ℕ
binary_least And = 0
binary_least Or = 0
binary_least Xor = 0
binary_least Eq = 1
binary_least ULt = 1
binary_least SLt = 1
binary_least Mul = 0
binary_least UDiv = 0
binary_least UMod = 0
binary_least SDivTrunc = 1
binary_least SModTrunc = 1

abbrev pub shift_least : Shift → ℕ
shift_least Shl = 0
shift_least UShr = 0
shift_least SShr = 1
shift_least XShr = 0

-- Eq, ULt and SLt compare two vectors, and give one bit.
abbrev pub compares : Binary → Bool
compares And = false
compares Or = false
compares Xor = false
compares Eq = true
compares ULt = true
compares SLt = true
compares Mul = false
compares UDiv = false
compares UMod = false
compares SDivTrunc = false
compares SModTrunc = false
