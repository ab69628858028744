-- Document 01, "Words": a call record. The operations of the code, as those of the calls.
use Rattle.std.specs.Prelude.{Bool}
use Rattle.engine.specs.WellFormed.{declares}
use Rattle.engine.specs.Encode as o
use Rattle.engine.specs.Emit.{binary_of, compare_of}
use Rattle.call_list.specs.declared.TermOp.{TermOp}
use Rattle.call_list.specs.declared.TermOp.TheVariants as term
use Rattle.call_list.specs.declared.Operation.{Operation}
use Rattle.call_list.specs.declared.Operation.TheVariants as op

abbrev pub term_op_from : TermOp → o.TermOp
term_op_from term.BoolLit = o.bool_lit
term_op_from term.BoolIte = o.bool_ite
term_op_from term.Not = o.not
term_op_from term.And = o.and
term_op_from term.Lit = o.lit
term_op_from term.Equal = o.equal
term_op_from term.Ite = o.ite
term_op_from term.Concat = o.concat
term_op_from term.Extract = o.extract
term_op_from term.BvNot = o.bvnot
term_op_from (term.Binary b) = o.op2 (binary_of b)
term_op_from (term.Compare b) = o.compare (compare_of b)

abbrev pub op_from : Operation → o.Op
op_from (op.Term t) = o.term (term_op_from t)
op_from op.Declare = o.declare
op_from op.Assert = o.assert
op_from op.Check = o.check
op_from op.Unknown = o.unknown

-- Whether an operation declares a name, whatever its arguments.
abbrev pub is_declare : o.Op → Bool
is_declare op = declares (o.call_of op 0 (λ i. 0))
