-- `lines::put_record` meets its contract: each line has its own function. Assumes nothing.
use Rattle.lines.proofs.RecordLaws.{line-kind, line-asserted, line-checked, line_defined}
use Rattle.lines.proofs.put_record.Goals as goal

pub returns-in-Define : goal.returns-in-Define
returns-in-Define c =
    let kind = line-kind c.args.tables.now.calls.now c.args.seen.at c.operation_at.ensures
    c.line_of.ensures c.in-Define.is in
    λ before ready can. rw (line_defined can kind)
    (rw c.sort_here-sort.ensures at (c.put_define.ensures ready))

pub returns-in-Assert : goal.returns-in-Assert
returns-in-Assert c =
    let kind = line-kind c.args.tables.now.calls.now c.args.seen.at c.operation_at.ensures
    c.line_of.ensures c.in-Assert.is in
    λ before ready can. rw (line-asserted can kind) c.put_assert.ensures

pub returns-in-Check : goal.returns-in-Check
returns-in-Check c =
    let kind = line-kind c.args.tables.now.calls.now c.args.seen.at c.operation_at.ensures
    c.line_of.ensures c.in-Check.is in
    λ before ready can. rw (line-checked can kind) c.put_bytes.ensures
