-- Document 01, "Examples": the evaluator. What a record adds to the numbers written and to the false assertions
-- counted.
use Rattle.std.specs.Prelude.{cond, List, ℕ, set, eqb}
use Rattle.engine.specs.Sorts.{Sort}
use Rattle.engine.specs.Encode.{Op, makes_term, operation_at}
use Rattle.engine.specs.Encode as o
use Rattle.term_values.specs.Records.{record_value}

-- A false assertion: of a term whose number is 0.
abbrev pub false_of : Op → ℕ → ℕ
false_of (o.term op) value = 0
false_of o.declare value = 0
false_of o.assert value = cond (eqb value 0) 1 0
false_of o.check value = 0
false_of o.unknown value = 0

-- The number of its term, if it makes one.
abbrev pub values_next : (ℕ → Sort) → List ℕ → List ℕ → ℕ → ℕ → ℕ → List ℕ
values_next sort slice w terms given at =
    cond (makes_term (operation_at w at)) (set slice terms (record_value sort slice w terms given at)) slice
