-- Document 01, "Examples": the evaluator. The number of the term that a record makes, from the numbers written so far.
use Rattle.std.specs.Prelude.{cond, List, ℕ, get_or, ltb}
use Rattle.bitvec.specs.Bits.{nat2bv}
use Rattle.bitvec.specs.Words.{at_width, concat_at, extract_at}
use Rattle.engine.specs.Sorts.{Sort, no_sort}
use Rattle.engine.specs.Encode.{call_at}
use Rattle.call_list.specs.Literal.{payloads, four_digits}
use Rattle.term_values.specs.Values.{value_by}

-- The numbers written so far.
abbrev pub number_in : List ℕ → ℕ → ℕ
number_in slice k = get_or slice k 0

-- The sort of term k, of `terms` terms so far.
abbrev pub sort_below : (ℕ → Sort) → ℕ → ℕ → Sort
sort_below sort terms k = cond (ltb k terms) (sort k) no_sort

-- ---- the number of a record's term

-- A literal's number.
abbrev pub literal_value : List ℕ → ℕ → ℕ
literal_value w at = at_width (payloads w at 0) (nat2bv (payloads w at 0) (four_digits w at))

-- The numbers of a concat and of an extract.
abbrev pub concat_in : (ℕ → Sort) → List ℕ → List ℕ → ℕ → ℕ → ℕ
concat_in sort slice w terms at =
    let p = payloads w at in
    let v = number_in slice in
    let s = sort_below sort terms in
    concat_at (s (p 0)) (v (p 0)) (s (p 1)) (v (p 1))

abbrev pub extract_in : (ℕ → Sort) → List ℕ → List ℕ → ℕ → ℕ → ℕ
extract_in sort slice w terms at =
    let p = payloads w at in
    extract_at (sort_below sort terms (p 2)) (p 0) (p 1) (number_in slice (p 2))

-- The number of the term of the record's call; a literal's is that of its first four digits.
abbrev pub record_value : (ℕ → Sort) → List ℕ → List ℕ → ℕ → ℕ → ℕ → ℕ
record_value sort slice w terms given at =
    value_by (sort_below sort terms) (number_in slice) (λ x. literal_value w at) given (call_at w at)
