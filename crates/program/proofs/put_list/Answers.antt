-- `program::put_list` meets its contract: what `verify` leaves in the two slices is handed to the writer. Assumes
-- nothing.
use Prim.Native.Nat.{ℕ}
use mathlib.Core.Path.{◌≡◌, ap, ◌∙◌}
use Rattle.std.specs.Prelude.{Ok}
use lib.ListN.{length, replicate, length-replicate}
use Rattle.program.proofs.Laws.{nothing-says, asked-says, list-refused, handed, list-told}
use Rattle.program.proofs.put_list.Goals as goal

-- The program's own words and marks.
words : length {A = ℕ} (replicate 16384 0) ≡ 16384
words = length-replicate {A = ℕ} 16384 0

marks : length {A = ℕ} (replicate 4096 0) ≡ 4096
marks = length-replicate {A = ℕ} 4096 0

pub put_script-requires : goal.put_script-requires
put_script-requires c =
    handed c.verify.ensures words marks _ (nothing-says (c.in-Ok-NothingAsked.is ∙ ap Ok c.in-Ok-NothingAsked.field-0-is)) _
    c.slots_of-slots.ensures

pub put_script-requires-in-Ok-Asked : goal.put_script-requires-in-Ok-Asked
put_script-requires-in-Ok-Asked c =
    handed c.verify.ensures words marks _ (asked-says (c.in-Ok-Asked.is ∙ ap Ok c.in-Ok-Asked.field-0-is)) _
    c.slots_of-slots.ensures

pub returns-in-Err : goal.returns-in-Err
returns-in-Err c =
    rw (list-refused c.verify.ensures words marks c.in-Err.is) c.refuse.ensures

pub returns-in-Ok-NothingAsked : goal.returns-in-Ok-NothingAsked
returns-in-Ok-NothingAsked c =
    rw (list-told c.verify.ensures words marks _ (nothing-says (c.in-Ok-NothingAsked.is ∙ ap Ok c.in-Ok-NothingAsked.field-0-is)) _
    c.slots_of-slots.ensures) c.put_script.ensures

pub returns-in-Ok-Asked : goal.returns-in-Ok-Asked
returns-in-Ok-Asked c =
    rw (list-told c.verify.ensures words marks _ (asked-says (c.in-Ok-Asked.is ∙ ap Ok c.in-Ok-Asked.field-0-is)) _
    c.slots_of-slots.ensures) c.put_script-in-Ok-Asked.ensures
