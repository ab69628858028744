-- Document 01, "Examples": the evaluator. What the count says: no assertion is false exactly if the assignment of the
-- bits satisfies the list, as requirement 3 speaks of it. And every assignment that satisfies a list is one of bits.
use Rattle.std.specs.Prelude.{List, [], ◌∷◌, ℕ}
use Rattle.bitvec.specs.Bits.{bv2nat}
use Rattle.engine.specs.Call.{Call}
use Rattle.engine.specs.Call as c
use Rattle.engine.specs.Meaning.{Assignment}

-- ---- Every assignment that satisfies a list is one of bits.

-- The bits of the declared names, in the order of their declarations.
unfoldable pub bits_of : Assignment → List Call → List ℕ
bits_of ρ [] = []
bits_of ρ (c.term t ∷ cs) = bits_of ρ cs
bits_of ρ (c.declare n w ∷ cs) = bv2nat (ρ n) ∷ bits_of ρ cs
bits_of ρ (c.assert k ∷ cs) = bits_of ρ cs
bits_of ρ (c.check ∷ cs) = bits_of ρ cs
