-- Document 01, "Words": where a call list is malformed. Record by record, in each the head's reasons first, then its
-- words left to right: a word is wrong if its kind, number or sort cannot follow the words before it.
use Rattle.std.specs.Prelude.{Bool, true, false, not, cond, ◌&&◌, ◌||◌, List, [], ◌∷◌, ℕ, zero, suc, ◌+◌, ◌-◌, ◌*◌, ◌^◌, min, length, get_or, eqb, leb, ltb}
use Rattle.std.proofs.Math.Option.{Option, some, none}
use Rattle.logic.specs.Word.{kind_of, payload_of}
use Rattle.engine.specs.Call.{Name, Call}
use Rattle.engine.specs.Call as c
use Rattle.engine.specs.Sorts.{Sort, no_sort, sort_at, Context, start, after}
use Rattle.engine.specs.Encode.{Op, offset, letter_number, suffix_number, digit_count, operation_at, count_at}
use Rattle.engine.specs.Encode.{bare, argument_at, next_at, call_at}
use Rattle.engine.specs.Encode as o
use Rattle.engine.specs.declared.Argument.{Argument}
use Rattle.engine.specs.declared.Argument.TheVariants.{Flag, AnyTerm, BoolTerm, VectorTerm, SameSort, Joined}
use Rattle.engine.specs.declared.Argument.TheVariants.{High, Low, Holder, Letter, Index, Suffix, Width, Digit}
use Rattle.engine.specs.declared.Argument.TheVariants.{Nothing}

abbrev pub is_number : ℕ → Bool
is_number word = eqb (kind_of word) 3

abbrev pub is_vector : Sort → Bool
is_vector s = leb 1 s && leb s 64

-- A width: a number from 1 to 64.
abbrev pub is_width : ℕ → Bool
is_width word = is_number word && is_vector (payload_of word)

-- The sort of the term that a word refers to: none unless it refers to an earlier term.
abbrev pub sort_of_word : List Sort → ℕ → Sort
sort_of_word sorts word = cond (eqb (kind_of word) 4) (sort_at sorts (payload_of word)) no_sort

-- How many arguments an operation has; of and any number but none, of a literal what its width asks. A bad width is at
-- fault itself under a count that some width asks.
abbrev pub literal_count : ℕ → ℕ → Bool
literal_count n width =
    cond (is_width width) (eqb n (1 + digit_count (payload_of width))) (leb 2 n && leb n 5)

abbrev pub count_fits : Op → ℕ → ℕ → Bool
count_fits (o.term o.bool_lit) n first = eqb n 1
count_fits (o.term o.bool_ite) n first = eqb n 3
count_fits (o.term o.not) n first = eqb n 1
count_fits (o.term o.and) n first = leb 1 n
count_fits (o.term o.lit) n first = literal_count n first
count_fits (o.term o.equal) n first = eqb n 2
count_fits (o.term o.ite) n first = eqb n 3
count_fits (o.term o.concat) n first = eqb n 2
count_fits (o.term o.extract) n first = eqb n 3
count_fits (o.term o.bvnot) n first = eqb n 1
count_fits (o.term (o.op2 op)) n first = eqb n 2
count_fits (o.term (o.compare op)) n first = eqb n 2
count_fits o.declare n first = eqb n 4
count_fits o.assert n first = eqb n 1
count_fits o.check n first = eqb n 0
count_fits o.unknown n first = false

abbrev pub pick : Bool → Argument → Argument → Argument
pick true a b = a
pick false a b = b

-- What the words of a record are, left to right.
abbrev pub declaration : ℕ → Argument
declaration i = pick (eqb i 0) Letter (pick (eqb i 1) Index (pick (eqb i 2) Suffix Width))

abbrev pub extraction : ℕ → Argument
extraction i = pick (eqb i 0) High (pick (eqb i 1) Low Holder)

abbrev pub argument_of : Op → ℕ → Argument
argument_of (o.term o.bool_lit) i = Flag
argument_of (o.term o.bool_ite) i = BoolTerm
argument_of (o.term o.not) i = BoolTerm
argument_of (o.term o.and) i = BoolTerm
argument_of (o.term o.lit) i = pick (eqb i 0) Width (Digit (i - 1))
argument_of (o.term o.equal) i = pick (eqb i 0) AnyTerm SameSort
argument_of (o.term o.ite) i = pick (eqb i 0) BoolTerm (pick (eqb i 1) VectorTerm SameSort)
argument_of (o.term o.concat) i = pick (eqb i 0) VectorTerm Joined
argument_of (o.term o.extract) i = extraction i
argument_of (o.term o.bvnot) i = VectorTerm
argument_of (o.term (o.op2 op)) i = pick (eqb i 0) VectorTerm SameSort
argument_of (o.term (o.compare op)) i = pick (eqb i 0) VectorTerm SameSort
argument_of o.declare i = declaration i
argument_of o.assert i = BoolTerm
argument_of o.check i = Nothing
argument_of o.unknown i = Nothing

-- Whether a word may stand as an argument: after the record's first argument and the word before it, with the sorts of
-- the terms that the word before and the word itself refer to.
abbrev pub admits : Argument → ℕ → ℕ → ℕ → Sort → Sort → Bool
admits Flag first before word sb s = is_number word && leb (payload_of word) 1
admits AnyTerm first before word sb s = leb s 64
admits BoolTerm first before word sb s = eqb s 0
admits VectorTerm first before word sb s = is_vector s
admits SameSort first before word sb s = eqb s sb
admits Joined first before word sb s = leb 1 s && leb (sb + s) 64
admits High first before word sb s = is_number word && leb (payload_of word) 63
admits Low first before word sb s = is_number word && leb (payload_of word) (payload_of before)
admits Holder first before word sb s = ltb (payload_of first) s && leb s 64
admits Letter first before word sb s = is_number word && leb (payload_of word) 2
admits Index first before word sb s = is_number word
admits Suffix first before word sb s = is_number word && leb (payload_of word) 2
admits Width first before word sb s = is_width word
admits (Digit j) first before word sb s = is_number word && ltb (payload_of word) (2 ^ min 16 (payload_of first - 16 * j))
admits Nothing first before word sb s = false

-- Three words spell a name.
abbrev pub is_number_of : ℕ → ℕ → Bool
is_number_of n word = is_number word && eqb (payload_of word) n

abbrev pub spells : Name → ℕ → ℕ → ℕ → Bool
spells name letter index suffix =
    is_number_of (letter_number name.letter) letter && is_number_of name.index index
    && is_number_of (suffix_number name.suffix) suffix

unfoldable pub known : List Name → ℕ → ℕ → ℕ → Bool
known [] letter index suffix = false
known (name ∷ names) letter index suffix = spells name letter index suffix || known names letter index suffix

-- The record declares a known name.
abbrev pub declares : Call → Bool
declares (c.term t) = false
declares (c.declare name w) = true
declares (c.assert k) = false
declares c.check = false

abbrev pub again : Context → List ℕ → ℕ → Bool
again x w at =
    declares (call_at w at) && known x.names (argument_at bare w at 0) (argument_at bare w at 1)
    (argument_at bare w at 2)

-- The head's reasons: after check, no head, cut short, operation or count, a name declared again.
abbrev pub head_stands : Context → List ℕ → ℕ → Bool
head_stands x w at =
    not x.checked && eqb (kind_of (get_or w at 0)) 2 && ltb (at + count_at w at) (length w)
    && count_fits (operation_at w at) (count_at w at) (argument_at bare w at 0) && not (again x w at)

-- Argument i of the record at a place may stand there.
abbrev pub admitted : List Sort → List ℕ → ℕ → ℕ → Bool
admitted sorts w at i =
    admits (argument_of (operation_at w at) i) (argument_at bare w at 0) (get_or w (at + i) 0) (argument_at bare w at i)
    (sort_of_word sorts (get_or w (at + i) 0)) (sort_of_word sorts (argument_at bare w at i))

-- The first of n numbers from i on of which a test fails.
unfoldable pub first_failing : (ℕ → Bool) → ℕ → ℕ → Option ℕ
first_failing test i zero = none
first_failing test i (suc n) = cond (test i) (first_failing test (suc i) n) (some i)

-- The first argument of a record that may not stand where it does.
abbrev pub wrong_argument : List Sort → List ℕ → ℕ → Option ℕ
wrong_argument sorts w at = first_failing (admitted sorts w at) 0 (count_at w at)

-- What reading a call list finds: what its calls leave, or the first place at fault.
pub data Outcome : Type 0 where
  well_formed : Context → Outcome
  malformed : ℕ → Outcome

abbrev pub or_else : Option ℕ → Outcome → (ℕ → Outcome) → Outcome
or_else none otherwise at = otherwise
or_else (some i) otherwise at = at i

abbrev pub choose : Bool → Outcome → Outcome → Outcome
choose true a b = a
choose false a b = b

-- At most n records, from a place on.
unfoldable pub read_from : ℕ → List ℕ → ℕ → Context → Outcome
read_from zero w at x = well_formed x
read_from (suc n) w at x =
    choose (ltb at (length w))
    (choose (head_stands x w at)
    (or_else (wrong_argument x.sorts w at)
    (read_from n w (next_at bare w at) (after x (call_at w at)))
    (λ i. malformed (at + offset bare + i)))
    (malformed at))
    (well_formed x)

abbrev pub outcome : List ℕ → Outcome
outcome w = read_from (length w) w 0 start

-- The first place at fault, if there is one.
abbrev pub place_of : Outcome → Option ℕ
place_of (well_formed x) = none
place_of (malformed at) = some at

abbrev pub malformed_at : List ℕ → Option ℕ
malformed_at w = place_of (outcome w)
