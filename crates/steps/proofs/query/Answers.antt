-- `steps::query` meets its contract: its calls are those of the model, one after the other. Assumes nothing.
use Rattle.builder.proofs.Laws.{ran_bind}
use Rattle.order.specs.Verify.{query}
use Rattle.steps.proofs.query.Goals as goal

pub returns : goal.returns
unfolding query
returns c =
    λ names marks.
    ran_bind _ (c.build_and_all-all.ensures names marks)
    (c.build_not.ensures names marks)
