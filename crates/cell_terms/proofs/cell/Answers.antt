-- `cell_terms::cell` meets its contract: each arm is its arm of the model; the bounds of the cell are those of the
-- numbers of its fields. Assumes nothing.
use mathlib.Core.Path.{sym}
use Prim.Native.Nat.{◌+◌, ◌≤◌}
use native.Mathlib.Omega.{arith}
use Rattle.builder.proofs.Laws.{ran_as, ran_none}
use Rattle.cell_reader.specs.Parse.{number_in}
use Rattle.smt.specs.Builder.{cell}
use Rattle.cell_terms.proofs.Bounds.{few, update_within}
use Rattle.cell_terms.proofs.cell.Goals as goal

pub returns-in-Void : goal.returns-in-Void
unfolding cell
returns-in-Void c =
    λ bounded shaped wide low.
    let op = c.in-Void.is in
    rw (op, c.no_terms.ensures.1)
    (0, ran_as (ran_none _ _ _ _ _) (sym c.no_terms.ensures.0))

pub returns-in-Note : goal.returns-in-Note
unfolding cell
returns-in-Note c =
    λ bounded shaped wide low.
    let op = c.in-Note.is in
    rw (op, c.no_terms-in-Note.ensures.1)
    (0, ran_as (ran_none _ _ _ _ _) (sym c.no_terms-in-Note.ensures.0))

pub returns-in-IoBuf : goal.returns-in-IoBuf
returns-in-IoBuf c =
    λ bounded shaped wide low.
    let op = c.in-IoBuf.is in
    rw op (c.io_buf_cell.ensures _ wide low)

pub returns-in-Input : goal.returns-in-Input
unfolding cell
returns-in-Input c =
    λ bounded shaped wide low.
    let op = c.in-Input.is in
    rw (op, c.no_terms-in-Input.ensures.1)
    (0, ran_as (ran_none _ _ _ _ _) (sym c.no_terms-in-Input.ensures.0))

pub returns-in-Unary : goal.returns-in-Unary
returns-in-Unary c =
    λ bounded shaped wide low.
    let op = c.in-Unary.is in
    let w = c.args.fields.now in
    rw op (c.unary_cell.ensures _ _ (few w (number_in w 0) 1 63 (rw op at bounded)))

pub returns-in-Binary : goal.returns-in-Binary
returns-in-Binary c =
    λ bounded shaped wide low.
    let op = c.in-Binary.is in
    let w = c.args.fields.now in
    rw op (c.binary_cell.ensures _ (few w (number_in w 0) 1 63 (rw op at bounded)))

pub returns-in-Mux : goal.returns-in-Mux
returns-in-Mux c =
    λ bounded shaped wide low.
    let op = c.in-Mux.is in
    let w = c.args.fields.now in
    rw op (c.mux_cell.ensures _ (few w (number_in w 0) 2 63 (rw op at bounded)))

pub returns-in-Adc : goal.returns-in-Adc
returns-in-Adc c =
    λ bounded shaped wide low.
    let op = c.in-Adc.is in
    let w = c.args.fields.now in
    rw op (c.adc_cell.ensures _ _ (few w (number_in w 0) 1 63 (rw op at bounded)))

pub returns-in-Aig : goal.returns-in-Aig
returns-in-Aig c =
    λ bounded shaped wide low.
    let op = c.in-Aig.is in
    rw op (c.aig_cell.ensures _ _)

pub returns-in-Shift : goal.returns-in-Shift
returns-in-Shift c =
    λ bounded shaped wide low.
    let op = c.in-Shift.is in
    let w = c.args.fields.now in
    let bounds = rw op at bounded in
    let value = few w (number_in w 0) 3 63 bounds.0 in
    let amount = few w (number_in w 1) (3 + number_in w 0) 32 bounds.1 in
    rw op (c.shift_cell.ensures _ _ value amount)

pub returns-in-Match : goal.returns-in-Match
returns-in-Match c =
    λ bounded shaped wide low.
    let op = c.in-Match.is in
    rw op (c.match_cell.ensures (rw op at bounded) _ _)

pub returns-in-Assign : goal.returns-in-Assign
returns-in-Assign c =
    λ bounded shaped wide low.
    let op = c.in-Assign.is in
    let w = c.args.fields.now in
    let bounds = rw op at bounded in
    let value = few w (number_in w 0) 4 63 bounds.0 in
    rw op (c.assign_cell.ensures _ value (update_within w (rw op at shaped)))

pub returns-in-Dff : goal.returns-in-Dff
returns-in-Dff c =
    λ bounded shaped wide low.
    let op = c.in-Dff.is in
    let w = c.args.fields.now in
    let small : number_in w 0 ≤ 64 = omega (arith, few w (number_in w 0) 6 63 (rw op at bounded)) in
    rw op (c.dff_cell.ensures small wide low)
