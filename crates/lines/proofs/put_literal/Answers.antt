-- `lines::put_literal` meets its contract: the record's number and width. Assumes nothing.
use Rattle.call_list.proofs.LiteralLaws.{four_digits_lem}
use Rattle.lines.proofs.put_literal.Goals as goal

pub returns : goal.returns
returns c =
    λ fits. rw (
      c.argument_at.ensures,
      c.literal_number-number.ensures,
      four_digits_lem c.args.calls.now c.args.head fits,
    ) at c.put_literal.ensures
