-- Document 01, "Examples" and faults 19 and 20: what the evaluator answers and writes. It takes bits in declaration
-- order, writes every term's number (Bool 0 or 1), and returns how many assertions are 0.
use Rattle.std.specs.Prelude.{Bool, true, false, cond, ◌&&◌, List, [], ◌∷◌, map, ℕ, ◌+◌, length, eqb, leb, Option, Some, None, Result, Ok, Err}
use Rattle.bitvec.specs.Bits.{nat2bv}
use Rattle.engine.specs.Call.{Name, Call}
use Rattle.engine.specs.Call as c
use Rattle.engine.specs.Meaning.{Value, Assignment, value_at, run}
use Rattle.engine.specs.Encode.{letter_number, suffix_number, decode}
use Rattle.engine.specs.WellFormed.{Outcome, well_formed, malformed, outcome}
use Rattle.engine.specs.Emit.{overwrite}
use Rattle.term_values.specs.Values.{value_number}
use Rattle.bits_given.specs.Given.{bits_fault}
use Rattle.logic.specs.declared.Fault.{Fault}

-- A name is another's.
abbrev pub same_name : Name → Name → Bool
same_name m n =
    eqb (letter_number m.letter) (letter_number n.letter) && eqb m.index n.index
    && eqb (suffix_number m.suffix) (suffix_number n.suffix)

-- The assignment that gives the declared names these bits, in the order of their declarations; any other name has none.
unfoldable pub assigned : List Call → List ℕ → Assignment
assigned [] given name = []
assigned (c.term t ∷ cs) given name = assigned cs given name
assigned (c.declare n w ∷ cs) [] name = cond (same_name n name) (nat2bv w 0) (assigned cs [] name)
assigned (c.declare n w ∷ cs) (b ∷ given) name = cond (same_name n name) (nat2bv w b) (assigned cs given name)
assigned (c.assert k ∷ cs) given name = assigned cs given name
assigned (c.check ∷ cs) given name = assigned cs given name

-- How many assertions are false.
unfoldable pub false_assertions : (ℕ → Value) → List Call → ℕ
false_assertions v [] = 0
false_assertions v (c.term t ∷ cs) = false_assertions v cs
false_assertions v (c.declare n w ∷ cs) = false_assertions v cs
false_assertions v (c.assert k ∷ cs) = cond (eqb (value_number (v k)) 0) 1 0 + false_assertions v cs
false_assertions v (c.check ∷ cs) = false_assertions v cs

-- A refusal: a fault's number and place.
abbrev pub refused : ℕ → ℕ → Result ℕ Fault
refused number place = Err (record { number = number; place = place })

-- The values of the terms under the bits.
abbrev pub term_values : List ℕ → List ℕ → List Value
term_values w given = run (assigned (decode w) given) [] (decode w)

abbrev pub on_bits : Option ℕ → Result ℕ Fault → Result ℕ Fault
on_bits None otherwise = otherwise
on_bits (Some k) otherwise = refused 20 k

abbrev pub with_room : Bool → Result ℕ Fault → Result ℕ Fault → Result ℕ Fault
with_room true a b = a
with_room false a b = b

abbrev pub judged : Outcome → List ℕ → List ℕ → ℕ → Result ℕ Fault
judged (malformed at) w given room = refused 19 at
judged (well_formed x) w given room =
    on_bits (bits_fault 0 (decode w) given)
    (with_room (leb (length x.sorts) room)
    (Ok (false_assertions (value_at (term_values w given)) (decode w)))
    (refused 20 room))

-- The answer for a list, bits, and room for that many values.
abbrev pub answer : List ℕ → List ℕ → ℕ → Result ℕ Fault
answer w given room = judged (outcome w) w given room

-- The value slice after: every term's number, and on refusal what was there.
abbrev pub values_after : Result ℕ Fault → List ℕ → List ℕ → List ℕ → List ℕ
values_after (Ok n) w given slice = overwrite slice 0 (map value_number (term_values w given))
values_after (Err fault) w given slice = slice
