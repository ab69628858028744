-- What a call list means under SMT-LIB's QF_BV: the value of every term under an assignment of the declared names, and
-- whether the assertions hold.
use Rattle.std.specs.Prelude.{◌≡◌, List, [], ◌∷◌, ◌++◌, map, ℕ, suc, ◌<◌, length, get_or}
use mathlib.Core.Bool.{Bool, true, false, cond, ◌&&◌}
use Rattle.bitvec.specs.Bits.{Bits}
use Rattle.bitvec.specs.Ops as bv
use Rattle.engine.specs.Call.{Name, Term, Call, BinaryOp, Compare}
use Rattle.engine.specs.Call as c

-- The value of a term: a Bool, or a bit vector.
pub data Value : Type 0 where
  bool : Bool → Value
  bits : Bits → Value

-- The Bool or the bits of a value; a well-formed list asks each only where it is.
abbrev pub as_bool : Value → Bool
as_bool (bool b) = b
as_bool (bits s) = false

abbrev pub as_bits : Value → Bits
as_bits (bool b) = []
as_bits (bits s) = s

abbrev pub equal_values : Value → Value → Bool
equal_values (bool a) (bool b) = bv.same a b
equal_values (bool a) (bits t) = false
equal_values (bits s) (bool b) = false
equal_values (bits s) (bits t) = bv.equal s t

abbrev pub all : List Bool → Bool
all [] = true
all (b ∷ bs) = b && all bs

abbrev pub denote_op : BinaryOp → Bits → Bits → Bits
denote_op c.bvand = bv.bvand
denote_op c.bvor = bv.bvor
denote_op c.bvxor = bv.bvxor
denote_op c.bvadd = bv.bvadd
denote_op c.bvcomp = bv.bvcomp
denote_op c.bvshl = bv.bvshl
denote_op c.bvlshr = bv.bvlshr
denote_op c.bvashr = bv.bvashr
denote_op c.bvmul = bv.bvmul
denote_op c.bvudiv = bv.bvudiv
denote_op c.bvurem = bv.bvurem
denote_op c.bvsdiv = bv.bvsdiv
denote_op c.bvsrem = bv.bvsrem

abbrev pub denote_compare : Compare → Bits → Bits → Bool
denote_compare c.bvult = bv.bvult
denote_compare c.bvslt = bv.bvslt

-- An assignment of the declared names.
abbrev pub Assignment : Type 0
Assignment = Name → Bits

-- The value of a term, of the values of its arguments.
abbrev pub denote : (ℕ → Value) → Term → Value
denote v (c.bool_lit b) = bool b
denote v (c.bool_ite i a b) = bool (cond (as_bool (v i)) (as_bool (v a)) (as_bool (v b)))
denote v (c.not a) = bool (mathlib.Core.Bool.not (as_bool (v a)))
denote v (c.and args) = bool (all (map (λ k. as_bool (v k)) args))
denote v (c.lit s) = bits s
denote v (c.equal a b) = bool (equal_values (v a) (v b))
denote v (c.ite i a b) = bits (cond (as_bool (v i)) (as_bits (v a)) (as_bits (v b)))
denote v (c.concat a b) = bits (bv.concat (as_bits (v a)) (as_bits (v b)))
denote v (c.extract i j a) = bits (bv.extract i j (as_bits (v a)))
denote v (c.bvnot a) = bits (bv.bvnot (as_bits (v a)))
denote v (c.op2 o a b) = bits (denote_op o (as_bits (v a)) (as_bits (v b)))
denote v (c.compare o a b) = bool (denote_compare o (as_bits (v a)) (as_bits (v b)))

-- The values of the terms so far, by number.
abbrev pub value_at : List Value → ℕ → Value
value_at l k = get_or l k (bool false)

-- The values of all terms, call by call, from those of the terms before.
unfoldable pub run : Assignment → List Value → List Call → List Value
run ρ l [] = l
run ρ l (c.term t ∷ cs) = run ρ (l ++ (denote (value_at l) t ∷ [])) cs
run ρ l (c.declare name w ∷ cs) = run ρ (l ++ (bits (ρ name) ∷ [])) cs
run ρ l (c.assert k ∷ cs) = run ρ l cs
run ρ l (c.check ∷ cs) = run ρ l cs

-- An assignment gives each declared name a value of its width.
abbrev pub Fits : Assignment → List Call → Type 0
Fits ρ [] = Unit {0}
Fits ρ (c.term t ∷ cs) = Fits ρ cs
Fits ρ (c.declare name w ∷ cs) = (length (ρ name) ≡ w) × Fits ρ cs
Fits ρ (c.assert k ∷ cs) = Fits ρ cs
Fits ρ (c.check ∷ cs) = Fits ρ cs

-- Every assertion is true.
abbrev pub Asserted : (ℕ → Value) → List Call → Type 0
Asserted v [] = Unit {0}
Asserted v (c.term t ∷ cs) = Asserted v cs
Asserted v (c.declare name w ∷ cs) = Asserted v cs
Asserted v (c.assert k ∷ cs) = (v k ≡ bool true) × Asserted v cs
Asserted v (c.check ∷ cs) = Asserted v cs

-- An assignment satisfies a call list.
abbrev pub Sat : Assignment → List Call → Type 0
Sat ρ cs = Fits ρ cs × Asserted (value_at (run ρ [] cs)) cs

-- The terms that a term takes, left to right.
abbrev pub arguments_of : Term → List ℕ
arguments_of (c.bool_lit b) = []
arguments_of (c.bool_ite i a b) = i ∷ a ∷ b ∷ []
arguments_of (c.not a) = a ∷ []
arguments_of (c.and args) = args
arguments_of (c.lit s) = []
arguments_of (c.equal a b) = a ∷ b ∷ []
arguments_of (c.ite i a b) = i ∷ a ∷ b ∷ []
arguments_of (c.concat a b) = a ∷ b ∷ []
arguments_of (c.extract i j a) = a ∷ []
arguments_of (c.bvnot a) = a ∷ []
arguments_of (c.op2 o a b) = a ∷ b ∷ []
arguments_of (c.compare o a b) = a ∷ b ∷ []

-- A property of every number of a list.
abbrev pub All : (ℕ → Type 0) → List ℕ → Type 0
All P [] = Unit {0}
All P (k ∷ ks) = P k × All P ks

-- Calls, the first of which makes term k, refer to earlier terms only.
abbrev pub Earlier : ℕ → List Call → Type 0
Earlier k [] = Unit {0}
Earlier k (c.term t ∷ cs) = All (λ a. a < k) (arguments_of t) × Earlier (suc k) cs
Earlier k (c.declare name w ∷ cs) = Earlier (suc k) cs
Earlier k (c.assert a ∷ cs) = (a < k) × Earlier k cs
Earlier k (c.check ∷ cs) = Earlier k cs

-- How many terms the calls make.
unfoldable pub terms : List Call → ℕ
terms [] = 0
terms (c.term t ∷ cs) = suc (terms cs)
terms (c.declare name w ∷ cs) = suc (terms cs)
terms (c.assert k ∷ cs) = terms cs
terms (c.check ∷ cs) = terms cs

-- A valuation v meets the calls, the next of which makes term k: each term has its meaning, each declared name its
-- width, each assertion is true.
abbrev pub Holds : Assignment → (ℕ → Value) → ℕ → List Call → Type 0
Holds ρ v k [] = Unit {0}
Holds ρ v k (c.term t ∷ cs) = (v k ≡ denote v t) × Holds ρ v (suc k) cs
Holds ρ v k (c.declare name w ∷ cs) = (v k ≡ bits (ρ name)) × (length (ρ name) ≡ w) × Holds ρ v (suc k) cs
Holds ρ v k (c.assert a ∷ cs) = (v a ≡ bool true) × Holds ρ v k cs
Holds ρ v k (c.check ∷ cs) = Holds ρ v k cs
