-- `answer::read_answer` meets its contract: the marks, the room and the text are tested in this order, and the table is
-- written only after all of the text was found good. Assumes nothing.
use mathlib.Core.Path.{sym, ap, ◌∙◌}
use native.Mathlib.Omega.{arith}
use Rattle.answer.proofs.ModelLaws.{reply-text, read_as, table-written}
use Rattle.reply.specs.Reply.{satisfied}
use Rattle.text.specs.Names.{asked_names}
use Rattle.answer.proofs.read_answer.Goals as goal

pub returns-in_ok-first-in-Sat : goal.returns-in_ok-first-in-Sat
returns-in_ok-first-in-Sat c =
    let fine = sym c.bad_mark.ensures ∙ c.in_default.is in
    let said = rw c.in-Sat.is at (c.in_ok-verdict_of.ensures (asked_names c.args.recorded.now)) in
    let model = c.in_ok-first-in-Sat.ensures in
    read_as _ _ c.args.trits.now (reply-text _ _ _ fine (omega arith) ∙ said ∙ ap satisfied model.3)
    (table-written _ _ _ model.0 (omega arith) model.4 c.write_entries.ensures)
