-- `lines::put_body` meets its contract: each way of writing a term has its own function. Assumes nothing.
use Rattle.lines.proofs.RecordLaws.{body-kind}
use Rattle.lines.proofs.put_body.Goals as goal

pub returns-in-And : goal.returns-in-And
returns-in-And c =
    let kind = body-kind c.args.made.now.calls.now c.args.head c.operation_at-operation.ensures
    c.body_of.ensures c.in-And.is in
    λ ready. rw kind (rw c.count_at-n.ensures at c.put_conjunction.ensures)
