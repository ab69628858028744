-- `program::put_script` meets its contract: the writer's script fits, and after its refusal the text is as it was.
-- Assumes nothing.
use Rattle.program.proofs.Laws.{wrote-script}
use Rattle.program.proofs.put_script.Goals as goal

pub returns-in-Ok : goal.returns-in-Ok
returns-in-Ok c =
    wrote-script c.well_formed.1.0.0 (rw c.in-Ok.is at c.write_script.ensures)
    c.put_loop.ensures
