-- Document 01, "Modules", builder. What prepare_shift gives, in the model.
use Rattle.smt.specs.Prog.{bv}
use Rattle.smt.specs.Builder as model
use Rattle.builder.specs.Ran.{trits}
use Rattle.arith.specs.declared.Prepared.{Prepared}

-- All of one width.
abbrev pub prepared_of : Prepared → model.Prepared
prepared_of p = record {
  width = p.width;
  value = trits p.width p.value;
  amount = trits p.width p.amount;
  amount_mul = bv p.amount_mul.0 p.width;
}
