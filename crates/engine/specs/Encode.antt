-- Document 01, "Words": a call record is a head and arguments; operations 0 to 23, and 24 to 27 of document 02, change
-- 3. `encode` writes calls as records and `decode` reads them back.
use mathlib.Core.Bool.{Bool, true, false}
use Rattle.std.specs.Prelude.{List, [], ◌∷◌, ◌++◌, map, ℕ, zero, suc, ◌+◌, ◌-◌, ◌*◌, ◌/◌, ◌%◌, ◌^◌, length, get_or, eqb, ltb}
use Rattle.logic.specs.Word.{payload_of, head_word, number_word, term_word}
use Rattle.logic.specs.Table.{tab}
use Rattle.bitvec.specs.Bits.{bit, bv2nat, nat2bv}
use Rattle.engine.specs.Call.{Letter, Suffix, BinaryOp, Compare, Term, Call}
use Rattle.engine.specs.Call as c

-- The operations of the terms, and those of the calls.
pub data TermOp : Type 0 where
  bool_lit bool_ite not and lit equal ite concat extract bvnot : TermOp
  op2 : BinaryOp → TermOp
  compare : Compare → TermOp

pub data Op : Type 0 where
  term : TermOp → Op
  declare assert check : Op
  unknown : Op

-- Their numbers: the place of each in document 01's list, and after it the divisions.
abbrev pub term_ops : List TermOp
term_ops =
    bool_lit ∷ bool_ite ∷ not ∷ and ∷ lit ∷ equal ∷ ite ∷ concat ∷ extract ∷ bvnot
    ∷ op2 c.bvand ∷ op2 c.bvor ∷ op2 c.bvxor ∷ op2 c.bvadd ∷ op2 c.bvcomp
    ∷ compare c.bvult ∷ compare c.bvslt
    ∷ op2 c.bvshl ∷ op2 c.bvlshr ∷ op2 c.bvashr ∷ op2 c.bvmul ∷ []

abbrev pub divisions : List TermOp
divisions = op2 c.bvudiv ∷ op2 c.bvurem ∷ op2 c.bvsdiv ∷ op2 c.bvsrem ∷ []

abbrev pub operations : List Op
operations = map term term_ops ++ (declare ∷ assert ∷ check ∷ map term divisions)

unfoldable pub op_of : ℕ → Op
op_of n = get_or operations n unknown

abbrev pub binary_number : BinaryOp → ℕ
binary_number c.bvand = 10
binary_number c.bvor = 11
binary_number c.bvxor = 12
binary_number c.bvadd = 13
binary_number c.bvcomp = 14
binary_number c.bvshl = 17
binary_number c.bvlshr = 18
binary_number c.bvashr = 19
binary_number c.bvmul = 20
binary_number c.bvudiv = 24
binary_number c.bvurem = 25
binary_number c.bvsdiv = 26
binary_number c.bvsrem = 27

abbrev pub compare_number : Compare → ℕ
compare_number c.bvult = 15
compare_number c.bvslt = 16

abbrev pub number_of : Op → ℕ
number_of (term bool_lit) = 0
number_of (term bool_ite) = 1
number_of (term not) = 2
number_of (term and) = 3
number_of (term lit) = 4
number_of (term equal) = 5
number_of (term ite) = 6
number_of (term concat) = 7
number_of (term extract) = 8
number_of (term bvnot) = 9
number_of (term (op2 o)) = binary_number o
number_of (term (compare o)) = compare_number o
number_of declare = 21
number_of assert = 22
number_of check = 23
number_of unknown = 31

-- Every call but assert and check makes the next term.
abbrev pub makes_term : Op → Bool
makes_term (term o) = true
makes_term declare = true
makes_term assert = false
makes_term check = false
makes_term unknown = false

-- The form of a record: its head, then its arguments.
pub data Form : Type 0 where
  bare : Form

-- Where a record's arguments begin, from its head.
abbrev pub offset : Form → ℕ
offset bare = 1

-- letter n=0 p=1 t=2, suffix none=0 x=1 y=2
abbrev pub letter_number : Letter → ℕ
letter_number c.n = 0
letter_number c.p = 1
letter_number c.t = 2

abbrev pub suffix_number : Suffix → ℕ
suffix_number c.none = 0
suffix_number c.x = 1
suffix_number c.y = 2

-- A literal's number in k 16-bit numbers, low first.
unfoldable pub digits : ℕ → ℕ → List ℕ
digits zero n = []
digits (suc k) n = n % 2 ^ 16 ∷ digits k (n / 2 ^ 16)

-- How many a width takes.
abbrev pub digit_count : ℕ → ℕ
digit_count width = (width + 15) / 16

abbrev pub operation_of_term : Term → TermOp
operation_of_term (c.bool_lit b) = bool_lit
operation_of_term (c.bool_ite i a b) = bool_ite
operation_of_term (c.not a) = not
operation_of_term (c.and args) = and
operation_of_term (c.lit s) = lit
operation_of_term (c.equal a b) = equal
operation_of_term (c.ite i a b) = ite
operation_of_term (c.concat a b) = concat
operation_of_term (c.extract i j a) = extract
operation_of_term (c.bvnot a) = bvnot
operation_of_term (c.op2 o a b) = op2 o
operation_of_term (c.compare o a b) = compare o

abbrev pub operation_of : Call → Op
operation_of (c.term t) = term (operation_of_term t)
operation_of (c.declare name w) = declare
operation_of (c.assert k) = assert
operation_of c.check = check

abbrev pub term_words : Term → List ℕ
term_words (c.bool_lit b) = number_word (bit b) ∷ []
term_words (c.bool_ite i a b) = term_word i ∷ term_word a ∷ term_word b ∷ []
term_words (c.not a) = term_word a ∷ []
term_words (c.and args) = map term_word args
term_words (c.lit s) = number_word (length s) ∷ map number_word (digits (digit_count (length s)) (bv2nat s))
term_words (c.equal a b) = term_word a ∷ term_word b ∷ []
term_words (c.ite i a b) = term_word i ∷ term_word a ∷ term_word b ∷ []
term_words (c.concat a b) = term_word a ∷ term_word b ∷ []
term_words (c.extract i j a) = number_word i ∷ number_word j ∷ term_word a ∷ []
term_words (c.bvnot a) = term_word a ∷ []
term_words (c.op2 o a b) = term_word a ∷ term_word b ∷ []
term_words (c.compare o a b) = term_word a ∷ term_word b ∷ []

-- The argument words of a call.
abbrev pub words : Call → List ℕ
words (c.term t) = term_words t
words (c.declare name w) =
    number_word (letter_number name.letter) ∷ number_word name.index ∷ number_word (suffix_number name.suffix)
    ∷ number_word w ∷ []
words (c.assert k) = term_word k ∷ []
words c.check = []

-- The record of a call.
abbrev pub record_of : Call → List ℕ
record_of call = head_word (number_of (operation_of call)) (length (words call)) ∷ words call

unfoldable pub encode : List Call → List ℕ
encode [] = []
encode (call ∷ cs) = record_of call ++ encode cs

-- The number of a literal's 16-bit numbers, low first.
unfoldable pub from_digits : List ℕ → ℕ
from_digits [] = 0
from_digits (d ∷ ds) = d + 2 ^ 16 * from_digits ds

abbrev pub letters : List Letter
letters = c.n ∷ c.p ∷ c.t ∷ []

abbrev pub suffixes : List Suffix
suffixes = c.none ∷ c.x ∷ c.y ∷ []

-- The term and the call of an operation with n arguments, whose payloads are given.
abbrev pub term_of : TermOp → ℕ → (ℕ → ℕ) → Term
term_of bool_lit n a = c.bool_lit (eqb (a 0) 1)
term_of bool_ite n a = c.bool_ite (a 0) (a 1) (a 2)
term_of not n a = c.not (a 0)
term_of and n a = c.and (tab n a)
term_of lit n a = c.lit (nat2bv (a 0) (from_digits (tab (n - 1) (λ i. a (suc i)))))
term_of equal n a = c.equal (a 0) (a 1)
term_of ite n a = c.ite (a 0) (a 1) (a 2)
term_of concat n a = c.concat (a 0) (a 1)
term_of extract n a = c.extract (a 0) (a 1) (a 2)
term_of bvnot n a = c.bvnot (a 0)
term_of (op2 o) n a = c.op2 o (a 0) (a 1)
term_of (compare o) n a = c.compare o (a 0) (a 1)

abbrev pub call_of : Op → ℕ → (ℕ → ℕ) → Call
call_of (term o) n a = c.term (term_of o n a)
call_of declare n a =
    c.declare (record { letter = get_or letters (a 0) c.n; index = a 1; suffix = get_or suffixes (a 2) c.none }) (a 3)
call_of assert n a = c.assert (a 0)
call_of check n a = c.check
call_of unknown n a = c.check

-- The operation and the number of arguments of the record that begins at a place, and argument i.
abbrev pub operation_at : List ℕ → ℕ → Op
operation_at w at = op_of (payload_of (get_or w at 0) % 32)

abbrev pub count_at : List ℕ → ℕ → ℕ
count_at w at = payload_of (get_or w at 0) / 32

abbrev pub argument_at : Form → List ℕ → ℕ → ℕ → ℕ
argument_at form w at i = get_or w (at + offset form + i) 0

-- Where the next record begins.
abbrev pub next_at : Form → List ℕ → ℕ → ℕ
next_at form w at = at + offset form + count_at w at

abbrev pub call_at : List ℕ → ℕ → Call
call_at w at = call_of (operation_at w at) (count_at w at) (λ i. payload_of (argument_at bare w at i))

-- The calls of at most n records, from a place on.
unfoldable pub calls_from : ℕ → List ℕ → ℕ → List Call
calls_from zero w at = []
calls_from (suc n) w at = mathlib.Core.Bool.cond (ltb at (length w)) (call_at w at ∷ calls_from n w (next_at bare w at)) []

-- The calls of a list of words; each record has a word or more.
abbrev pub decode : List ℕ → List Call
decode w = calls_from (length w) w 0
