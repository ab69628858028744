-- `shifts::shift_cell` meets its contract: each arm is its shift of the model. Assumes nothing.
use Prim.Native.Nat.{suc, ◌-◌}
use Rattle.logic.proofs.TableLaws.{length-tab}
use Rattle.cell_reader.specs.Parse.{number_in}
use Rattle.smt.specs.Builder.{cell, shifted}
use Rattle.shifts.proofs.shift_cell.Goals as goal

pub returns-in-Shl : goal.returns-in-Shl
unfolding cell shifted
returns-in-Shl c =
    λ slot width low few.
    let n = number_in c.args.fields.now 0 in
    rw (c.in-Shl.is, length-tab n _)
    (suc (n - 1), rw (length-tab n _) at (c.shifted.ensures low few))

pub returns-in-UShr : goal.returns-in-UShr
unfolding cell shifted
returns-in-UShr c =
    λ slot width low few.
    let n = number_in c.args.fields.now 0 in
    rw (c.in-UShr.is, length-tab n _)
    (suc (n - 1), rw (length-tab n _) at (c.shifted-in-UShr.ensures low few))

pub returns-in-SShr : goal.returns-in-SShr
unfolding cell shifted
returns-in-SShr c =
    λ slot width low few.
    let n = number_in c.args.fields.now 0 in
    rw (c.in-SShr.is, length-tab n _)
    (suc (n - 1), rw (length-tab n _) at (c.shifted-in-SShr.ensures low few))

pub returns-in-XShr : goal.returns-in-XShr
unfolding cell shifted
returns-in-XShr c =
    λ slot width low few.
    let n = number_in c.args.fields.now 0 in
    rw (c.in-XShr.is, length-tab n _)
    (suc (n - 1), c.shifted_undef.ensures low few)
