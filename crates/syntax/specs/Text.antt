-- Document 01, "Examples": SMT-LIB's texts of operations, sorts and literals.
use Rattle.std.specs.Prelude.{Bool, true, false, List, [], ◌∷◌, ◌++◌, ℕ, zero, suc, ◌+◌}
use Rattle.bitvec.specs.Bits.{Bits, bit}
use Rattle.engine.specs.Call.{BinaryOp, Compare}
use Rattle.engine.specs.Call as c
use Rattle.engine.specs.Encode.{Op}
use Rattle.engine.specs.Encode as o
use Rattle.engine.specs.Sorts.{Sort}
use Rattle.text.specs.Bytes.{ascii, decimal}

-- Bool, or a bit vector of a width.
abbrev pub sort_text : Sort → List ℕ
sort_text zero = ascii "Bool"
sort_text (suc n) = ascii "(_ BitVec " ++ decimal (suc n) ++ ascii ")"

-- #b with every digit, the highest first.
unfoldable pub bits_text : Bits → List ℕ
bits_text [] = []
bits_text (b ∷ bits) = bits_text bits ++ ((48 + bit b) ∷ [])

abbrev pub literal_text : Bits → List ℕ
literal_text bits = ascii "#b" ++ bits_text bits

abbrev pub bool_text : Bool → List ℕ
bool_text true = ascii "true"
bool_text false = ascii "false"

abbrev pub binary_text : BinaryOp → List ℕ
binary_text c.bvand = ascii "bvand"
binary_text c.bvor = ascii "bvor"
binary_text c.bvxor = ascii "bvxor"
binary_text c.bvadd = ascii "bvadd"
binary_text c.bvcomp = ascii "bvcomp"
binary_text c.bvshl = ascii "bvshl"
binary_text c.bvlshr = ascii "bvlshr"
binary_text c.bvashr = ascii "bvashr"
binary_text c.bvmul = ascii "bvmul"
binary_text c.bvudiv = ascii "bvudiv"
binary_text c.bvurem = ascii "bvurem"
binary_text c.bvsdiv = ascii "bvsdiv"
binary_text c.bvsrem = ascii "bvsrem"

abbrev pub compare_text : Compare → List ℕ
compare_text c.bvult = ascii "bvult"
compare_text c.bvslt = ascii "bvslt"

-- The name of an operation; one that is not applied by name has none.
abbrev pub operation_text : Op → List ℕ
operation_text (o.term o.bool_lit) = []
operation_text (o.term o.bool_ite) = ascii "ite"
operation_text (o.term o.not) = ascii "not"
operation_text (o.term o.and) = ascii "and"
operation_text (o.term o.lit) = []
operation_text (o.term o.equal) = ascii "="
operation_text (o.term o.ite) = ascii "ite"
operation_text (o.term o.concat) = ascii "concat"
operation_text (o.term o.extract) = []
operation_text (o.term o.bvnot) = ascii "bvnot"
operation_text (o.term (o.op2 op)) = binary_text op
operation_text (o.term (o.compare op)) = compare_text op
operation_text o.declare = []
operation_text o.assert = []
operation_text o.check = []
operation_text o.unknown = []

-- (_ extract m l)
abbrev pub extract_text : ℕ → ℕ → List ℕ
extract_text m l = ascii "(_ extract " ++ decimal m ++ ascii " " ++ decimal l ++ ascii ")"
