-- Document 01, "Examples": the evaluator. The evaluator's numbers: the number of each term, from the numbers and the
-- sorts of its arguments.
use Rattle.std.specs.Prelude.{cond, List, [], ◌∷◌, ℕ, eqb}
use Rattle.bitvec.specs.Bits.{Bits, bit, bv2nat, nat2bv}
use Rattle.bitvec.specs.Ops as bv
use Rattle.bitvec.specs.Words.{at_width, holds_at, concat_at, extract_at}
use Rattle.engine.specs.Call.{Call}
use Rattle.engine.specs.Call as c
use Rattle.engine.specs.Meaning.{Value, bool, bits, denote_op, denote_compare}
use Rattle.engine.specs.Sorts.{Sort}

-- The number of a value: a Bool's is 0 or 1.
abbrev pub value_number : Value → ℕ
value_number (bool b) = bit b
value_number (bits s) = bv2nat s

-- 1 if all are 1.
abbrev pub and_number : (ℕ → ℕ) → List ℕ → ℕ
and_number v [] = 1
and_number v (k ∷ ks) = cond (eqb (v k) 1) (and_number v ks) 0

-- The number of a call's term, of the sorts and the numbers of the terms so far; those of a literal and of a declared
-- name are given.
abbrev pub value_by : (ℕ → Sort) → (ℕ → ℕ) → (Bits → ℕ) → ℕ → Call → ℕ
value_by s v literal given (c.term (c.bool_lit b)) = bit b
value_by s v literal given (c.term (c.bool_ite i a b)) = cond (eqb (v i) 1) (v a) (v b)
value_by s v literal given (c.term (c.not a)) = cond (eqb (v a) 1) 0 1
value_by s v literal given (c.term (c.and args)) = and_number v args
value_by s v literal given (c.term (c.lit x)) = literal x
value_by s v literal given (c.term (c.equal a b)) = bit (eqb (v a) (v b))
value_by s v literal given (c.term (c.ite i a b)) = cond (eqb (v i) 1) (v a) (v b)
value_by s v literal given (c.term (c.concat a b)) = concat_at (s a) (v a) (s b) (v b)
value_by s v literal given (c.term (c.extract i j a)) = extract_at (s a) i j (v a)
value_by s v literal given (c.term (c.bvnot a)) = at_width (s a) (bv.bvnot (nat2bv (s a) (v a)))
value_by s v literal given (c.term (c.op2 o a b)) = at_width (s a) (denote_op o (nat2bv (s a) (v a)) (nat2bv (s a) (v b)))
value_by s v literal given (c.term (c.compare o a b)) =
    bit (holds_at (s a) (denote_compare o (nat2bv (s a) (v a)) (nat2bv (s a) (v b))))
value_by s v literal given (c.declare name w) = given
value_by s v literal given (c.assert k) = 0
value_by s v literal given c.check = 0
