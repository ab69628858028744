-- SMT-LIB 2.6, Core and FixedSizeBitVectors: the sort of each term, and what its arguments' sorts must be.
use Rattle.std.specs.Prelude.{◌≡◌, Bool, true, false, cond, List, [], ◌∷◌, ◌++◌, ℕ, suc, ◌+◌, ◌-◌, ◌^◌, ◌≤◌, ◌<◌, length, get_or}
use mathlib.Core.List.{Memᴰ}
use Rattle.engine.specs.Call.{Name, BinaryOp, Term, Call}
use Rattle.engine.specs.Call as c
use Rattle.engine.specs.Meaning.{arguments_of, All}

-- A sort by its width: 0 for Bool, 1 to 64 for a bit vector.
abbrev pub Sort : Type 0
Sort = ℕ

abbrev pub bool_sort : Sort
bool_sort = 0

-- No sort: what a term that is not there has.
abbrev pub no_sort : ℕ
no_sort = 65

abbrev pub IsBool : Sort → Type 0
IsBool s = s ≡ bool_sort

abbrev pub IsVector : Sort → Type 0
IsVector s = (1 ≤ s) × (s ≤ 64)

-- The sort of term k, of the sorts of the terms so far.
abbrev pub sort_at : List Sort → ℕ → Sort
sort_at sorts k = get_or sorts k no_sort

-- bvcomp makes one bit, every other operation of two vectors a vector of their sort.
abbrev pub one_bit : BinaryOp → Bool
one_bit c.bvand = false
one_bit c.bvor = false
one_bit c.bvxor = false
one_bit c.bvadd = false
one_bit c.bvcomp = true
one_bit c.bvshl = false
one_bit c.bvlshr = false
one_bit c.bvashr = false
one_bit c.bvmul = false
one_bit c.bvudiv = false
one_bit c.bvurem = false
one_bit c.bvsdiv = false
one_bit c.bvsrem = false

abbrev pub binary_sort : BinaryOp → Sort → Sort
binary_sort o s = cond (one_bit o) 1 s

-- The sort of a term, of the sorts of the terms so far.
abbrev pub sort_of : List Sort → Term → Sort
sort_of sorts (c.bool_lit b) = bool_sort
sort_of sorts (c.bool_ite i a b) = bool_sort
sort_of sorts (c.not a) = bool_sort
sort_of sorts (c.and args) = bool_sort
sort_of sorts (c.lit s) = length s
sort_of sorts (c.equal a b) = bool_sort
sort_of sorts (c.ite i a b) = sort_at sorts a
sort_of sorts (c.concat a b) = sort_at sorts a + sort_at sorts b
sort_of sorts (c.extract i j a) = suc i - j
sort_of sorts (c.bvnot a) = sort_at sorts a
sort_of sorts (c.op2 o a b) = binary_sort o (sort_at sorts a)
sort_of sorts (c.compare o a b) = bool_sort

-- A term's arguments are earlier terms of the sorts that it takes.
abbrev pub WellSorted : List Sort → Term → Type 0
WellSorted sorts (c.bool_lit b) = Unit {0}
WellSorted sorts (c.bool_ite i a b) = IsBool (sort_at sorts i) × IsBool (sort_at sorts a) × IsBool (sort_at sorts b)
WellSorted sorts (c.not a) = IsBool (sort_at sorts a)
WellSorted sorts (c.and args) = (0 < length args) × All (λ a. IsBool (sort_at sorts a)) args
WellSorted sorts (c.lit s) = IsVector (length s)
WellSorted sorts (c.equal a b) = (sort_at sorts a ≤ 64) × (sort_at sorts b ≡ sort_at sorts a)
WellSorted sorts (c.ite i a b) =
    IsBool (sort_at sorts i) × IsVector (sort_at sorts a) × (sort_at sorts b ≡ sort_at sorts a)
WellSorted sorts (c.concat a b) =
    IsVector (sort_at sorts a) × (1 ≤ sort_at sorts b) × (sort_at sorts a + sort_at sorts b ≤ 64)
WellSorted sorts (c.extract i j a) = (i ≤ 63) × (j ≤ i) × (i < sort_at sorts a) × (sort_at sorts a ≤ 64)
WellSorted sorts (c.bvnot a) = IsVector (sort_at sorts a)
WellSorted sorts (c.op2 o a b) = IsVector (sort_at sorts a) × (sort_at sorts b ≡ sort_at sorts a)
WellSorted sorts (c.compare o a b) = IsVector (sort_at sorts a) × (sort_at sorts b ≡ sort_at sorts a)

-- What the calls before a call leave: the sorts of the terms, the names, and whether check was called.
pub record Context : Type 0 where
  pub sorts : List Sort
  pub names : List Name
  pub checked : Bool

abbrev pub start : Context
start = record { sorts = []; names = []; checked = false }

abbrev pub after : Context → Call → Context
after x (c.term t) =
    record { sorts = x.sorts ++ (sort_of x.sorts t ∷ []); names = x.names; checked = x.checked }
after x (c.declare name w) = record { sorts = x.sorts ++ (w ∷ []); names = name ∷ x.names; checked = x.checked }
after x (c.assert k) = x
after x c.check = record { sorts = x.sorts; names = x.names; checked = true }

-- A reference and a number fit the payload of a word, and a count the head's.
abbrev pub payload_limit : ℕ
payload_limit = 2 ^ 29

abbrev pub count_limit : ℕ
count_limit = 2 ^ 24

-- A call may follow: well sorted, each name declared once, nothing after check, and its record can be written in words.
abbrev pub Allowed : Context → Call → Type 0
Allowed x (c.term t) =
    WellSorted x.sorts t × All (λ a. a < payload_limit) (arguments_of t) × (length (arguments_of t) < count_limit)
Allowed x (c.declare name w) = (Memᴰ name x.names → ⊥) × IsVector w × (name.index < payload_limit)
Allowed x (c.assert k) = IsBool (sort_at x.sorts k) × (k < payload_limit)
Allowed x c.check = Unit {0}

-- Calls that may follow one another.
abbrev pub Formed : Context → List Call → Type 0
Formed x [] = Unit {0}
Formed x (call ∷ cs) = (x.checked ≡ false) × Allowed x call × Formed (after x call) cs

-- What the calls leave behind.
unfoldable pub leaves : Context → List Call → Context
leaves x [] = x
leaves x (call ∷ cs) = leaves (after x call) cs
