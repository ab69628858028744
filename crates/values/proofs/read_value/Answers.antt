-- `values::read_value` meets its contract: its calls are those of the model, one after the other; 64 elements have
-- room. Assumes nothing.
use native.Mathlib.Omega.{arith}
use Rattle.builder.proofs.Laws.{ran_bind}
use Rattle.smt.specs.Builder.{value_of}
use Rattle.values.proofs.read_value.Goals as goal

pub returns : goal.returns
unfolding value_of
returns c =
    λ small. ran_bind _ (c.net_terms-counts.ensures (omega (arith, small))) (c.tv_concat.ensures _ _)
