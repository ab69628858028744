-- The numbers of the calls' operations: an operation is known by its number, which leaves room for the count in a head.
-- Assumes nothing.
use mathlib.Core.Path.{◌≡◌, refl, sym, ap, ◌∙◌}
use mathlib.Core.Bool.{Bool, true, false}
use Prim.Native.Nat.{◌≤◌, ◌<◌}
use native.Mathlib.Omega.{arith}
use lib.Dec.{ltb}
use lib.ListN.{get_or-eq_default}
use borrow.Author.Tests.{ltb-true, ltb-false}
use Rattle.engine.specs.Call.{BinaryOp, Compare, Call}
use Rattle.engine.specs.Call as c
use Rattle.engine.specs.Encode.{TermOp, operations, op_of, binary_number, compare_number, number_of}
use Rattle.engine.specs.Encode.{operation_of_term, operation_of}
use Rattle.engine.specs.Encode as o

op_of-binary : (p : BinaryOp) → op_of (binary_number p) ≡ o.term (o.op2 p)
unfolding op_of
op_of-binary c.bvand = refl
op_of-binary c.bvor = refl
op_of-binary c.bvxor = refl
op_of-binary c.bvadd = refl
op_of-binary c.bvcomp = refl
op_of-binary c.bvshl = refl
op_of-binary c.bvlshr = refl
op_of-binary c.bvashr = refl
op_of-binary c.bvmul = refl
op_of-binary c.bvudiv = refl
op_of-binary c.bvurem = refl
op_of-binary c.bvsdiv = refl
op_of-binary c.bvsrem = refl

op_of-compare : (p : Compare) → op_of (compare_number p) ≡ o.term (o.compare p)
unfolding op_of
op_of-compare c.bvult = refl
op_of-compare c.bvslt = refl

op_of-term : (p : TermOp) → op_of (number_of (o.term p)) ≡ o.term p
unfolding op_of
op_of-term o.bool_lit = refl
op_of-term o.bool_ite = refl
op_of-term o.not = refl
op_of-term o.and = refl
op_of-term o.lit = refl
op_of-term o.equal = refl
op_of-term o.ite = refl
op_of-term o.concat = refl
op_of-term o.extract = refl
op_of-term o.bvnot = refl
op_of-term (o.op2 p) = op_of-binary p
op_of-term (o.compare p) = op_of-compare p

-- An operation is known by its number.
pub op_of-number : (call : Call) → op_of (number_of (operation_of call)) ≡ operation_of call
unfolding op_of
op_of-number (c.term t) = op_of-term (operation_of_term t)
op_of-number (c.declare name w) = refl
op_of-number (c.assert k) = refl
op_of-number c.check = refl

-- No operation has a number from 32 on: there `op_of` gives the unknown one, and its number is 31.
pub number_lt : (call : Call) → number_of (operation_of call) < 32
unfolding op_of
number_lt call = go (ltb (number_of (operation_of call)) 32) refl
  where
    go : (b : Bool) → ltb (number_of (operation_of call)) 32 ≡ b → number_of (operation_of call) < 32
    go true e = ltb-true (number_of (operation_of call)) 32 e
    go false e =
        let high = ltb-false (number_of (operation_of call)) 32 e in
        let past : 28 ≤ number_of (operation_of call) = omega arith in
        let last : 31 ≡ number_of (operation_of call) =
        ap number_of (sym (get_or-eq_default operations o.unknown past) ∙ op_of-number call) in
        absurd (omega arith)
