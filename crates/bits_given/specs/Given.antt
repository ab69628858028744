-- Document 01, fault 20 of the bits that the declared names are given, in the order of their declarations.
use Rattle.std.specs.Prelude.{Bool, true, false, not, cond, List, [], ◌∷◌, ℕ, suc, ◌^◌, length, get_or, ltb, Option, Some, None}
use Rattle.engine.specs.Call.{Call}
use Rattle.engine.specs.Call as c
use Rattle.engine.specs.Encode.{operation_at}
use Rattle.call_list.specs.Operations.{is_declare}
use Rattle.call_list.specs.Literal.{payloads}

-- The term number of the first declaration whose bits are missing or above its width.
unfoldable pub bits_fault : ℕ → List Call → List ℕ → Option ℕ
bits_fault k [] given = None
bits_fault k (c.term t ∷ cs) given = bits_fault (suc k) cs given
bits_fault k (c.declare n w ∷ cs) [] = Some k
bits_fault k (c.declare n w ∷ cs) (b ∷ given) = cond (ltb b (2 ^ w)) (bits_fault (suc k) cs given) (Some k)
bits_fault k (c.assert a ∷ cs) given = bits_fault k cs given
bits_fault k (c.check ∷ cs) given = bits_fault k cs given

-- The bits of a declaration are missing or above its width.
abbrev pub bits_wrong : List ℕ → ℕ → ℕ → Bool
bits_wrong bits declared width = cond (ltb declared (length bits)) (not (ltb (get_or bits declared 0) (2 ^ width))) true

-- The record at a place is a declaration whose bits are.
abbrev pub wrong_bits : List ℕ → List ℕ → ℕ → ℕ → Bool
wrong_bits w bits declared at = cond (is_declare (operation_at w at)) (bits_wrong bits declared (payloads w at 3)) false
