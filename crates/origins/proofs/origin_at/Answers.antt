-- `origins::origin_at` meets its contract: an arm for each operation. Assumes nothing.
use Rattle.bitvec.proofs.Laws.{length-nat2bv}
use Rattle.origins.proofs.origin_at.Goals as goal

pub returns-in-Lit : goal.returns-in-Lit
returns-in-Lit c =
    rw (
      ← c.operation_at.ensures,
      c.in-Term.is,
      c.in-Lit.is,
      c.argument_at-a.ensures,
      length-nat2bv,
    )
