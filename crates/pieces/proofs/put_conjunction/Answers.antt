-- `pieces::put_conjunction` meets its contract: an and of one argument is written as that argument. Assumes nothing.
use Rattle.pieces.proofs.Laws.{conjunction-one, conjunction-more}
use Rattle.pieces.proofs.put_conjunction.Goals as goal

pub returns-then-n-eq1 : goal.returns-then-n-eq1
returns-then-n-eq1 c =
    rw (conjunction-one _ _ c.if-n-eq1.true)
    (rw c.argument_at.ensures at c.put_reference.ensures)

pub returns : goal.returns
returns c =
    rw (conjunction-more _ _ c.if-n-eq1.false) c.put_application.ensures
