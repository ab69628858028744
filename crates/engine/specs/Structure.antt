-- Document 01, "Words": a call record. The terms and names of a call list by its records alone: where the record of a
-- term stands, what it says of the term's sort, and whether a name was declared before a place. On a well-formed list
-- these are the sorts and the names of its calls.
use Rattle.std.specs.Prelude.{Bool, true, false, cond, ◌&&◌, List, ℕ, zero, suc, ◌+◌, ◌-◌, min, length, get_or, eqb, ltb}
use Rattle.logic.specs.declared.Term.{Term}
use Rattle.engine.specs.Call.{BinaryOp, Call}
use Rattle.engine.specs.Call as c
use Rattle.engine.specs.Sorts.{Sort, no_sort, one_bit}
use Rattle.engine.specs.Encode.{makes_term, operation_at, bare, argument_at, next_at}
use Rattle.engine.specs.Encode.{call_at}
use Rattle.engine.specs.WellFormed.{declares}
use Rattle.engine.specs.declared.Origin.{Origin}
use Rattle.engine.specs.declared.Origin.TheVariants.{Given, Same, Joined}

-- ---- sorts

abbrev term_number : ℕ → Term
term_number k = record { 0 = k }

-- One of two origins.
abbrev pub choose : Bool → Origin → Origin → Origin
choose true a b = a
choose false a b = b

-- What a call says of the sort of its term.
abbrev pub binary_origin : BinaryOp → ℕ → Origin
binary_origin o a = choose (one_bit o) (Given 1) (Same (term_number a))

abbrev pub origin_of : Call → Origin
origin_of (c.term (c.bool_lit b)) = Given 0
origin_of (c.term (c.bool_ite i a b)) = Given 0
origin_of (c.term (c.not a)) = Given 0
origin_of (c.term (c.and args)) = Given 0
origin_of (c.term (c.lit s)) = Given (length s)
origin_of (c.term (c.equal a b)) = Given 0
origin_of (c.term (c.ite i a b)) = Same (term_number a)
origin_of (c.term (c.concat a b)) = Joined (term_number a) (term_number b)
origin_of (c.term (c.extract i j a)) = Given (suc i - j)
origin_of (c.term (c.bvnot a)) = Same (term_number a)
origin_of (c.term (c.op2 o a b)) = binary_origin o a
origin_of (c.term (c.compare o a b)) = Given 0
origin_of (c.declare name w) = Given w
origin_of (c.assert k) = Given no_sort
origin_of c.check = Given no_sort

-- The place of the record that makes term k, counted from a place on; the place past the last record where there is
-- none.
unfoldable pub term_place : ℕ → List ℕ → ℕ → ℕ → ℕ
term_place zero w at k = at
term_place (suc n) w at k =
    cond (ltb at (length w))
    (cond (makes_term (operation_at w at))
    (cond (eqb k 0) at (term_place n w (next_at bare w at) (k - 1)))
    (term_place n w (next_at bare w at) k))
    at

abbrev pub place_of_term : List ℕ → ℕ → ℕ
place_of_term w k = term_place (length w) w 0 k

-- A sort, or none above 64.
abbrev pub capped : ℕ → Sort
capped s = min s no_sort

-- The sort that an origin says, of the sorts of terms.
abbrev pub sort_from : (ℕ → Sort) → Origin → Sort
sort_from sort (Given s) = capped s
sort_from sort (Same a) = sort a.0
sort_from sort (Joined a b) = capped (sort a.0 + sort b.0)

-- An origin that goes by terms earlier than k only; any other says no sort.
abbrev pub guarded : ℕ → Origin → Origin
guarded k (Given s) = Given s
guarded k (Same a) = choose (ltb a.0 k) (Same a) (Given no_sort)
guarded k (Joined a b) = choose (ltb a.0 k) (choose (ltb b.0 k) (Joined a b) (Given no_sort)) (Given no_sort)

-- What is known of the sort of term k: from a table of the first terms its sort, beyond it what its record says.
abbrev pub origin_by : List ℕ → List ℕ → ℕ → Origin
origin_by table w k =
    choose (ltb k (length table)) (Given (get_or table k 0)) (guarded k (origin_of (call_at w (place_of_term w k))))

-- The sort of term k through at most n terms.
unfoldable pub sort_through : ℕ → List ℕ → List ℕ → ℕ → Sort
sort_through zero table w k = no_sort
sort_through (suc n) table w k = sort_from (sort_through n table w) (origin_by table w k)

abbrev pub sort_of_term : List ℕ → List ℕ → ℕ → Sort
sort_of_term table w k = sort_through (suc k) table w k

-- ---- names

-- A record before a place declares the name that three words spell.
abbrev pub declares_at : List ℕ → ℕ → ℕ → ℕ → ℕ → Bool
declares_at w at letter index suffix =
    declares (call_at w at) && eqb (argument_at bare w at 0) letter && eqb (argument_at bare w at 1) index
    && eqb (argument_at bare w at 2) suffix

unfoldable pub declared_from : ℕ → List ℕ → ℕ → ℕ → ℕ → ℕ → ℕ → Bool
declared_from zero w at end letter index suffix = false
declared_from (suc n) w at end letter index suffix =
    cond (ltb at end)
    (cond (declares_at w at letter index suffix) true (declared_from n w (next_at bare w at) end letter index suffix))
    false

abbrev pub declared_before : List ℕ → ℕ → ℕ → ℕ → ℕ → Bool
declared_before w end letter index suffix = declared_from (length w) w 0 end letter index suffix
