-- Document 01, "Modules", order of work. The model of the order of work, in mode 0, makes the Rust's calls, call for
-- call, and its marks, on every list of the stored sample: computed by the prover, from the words of the list to the
-- words of the calls.
use Rattle.std.specs.Prelude.{◌≡◌, refl, map}
use Rattle.std.specs.Float.Ieee as digits
use Rattle.logic.specs.Table as table
use Rattle.bitvec.specs.Bits as bits
use Rattle.cell.specs.Design as design
use Rattle.fields.specs.Field as field
use Rattle.fields.specs.Head as head
use Rattle.fields.specs.Pattern as pattern
use Rattle.cell_reader.specs.Parse as parse
use Rattle.cell_reader.specs.Record as body
use Rattle.items.specs.Items as items
use Rattle.placing.specs.Cells as cells
use Rattle.placing.specs.Slots as slots
use Rattle.voids.specs.Voids as voids
use Rattle.design_list.specs.Read as reader
use Rattle.engine.specs.Encode as encode
use Rattle.smt.specs.Builder as builder
use Rattle.smt.specs.Emit as emit
use Rattle.smt.specs.Prog.{◌>>=◌}
use Rattle.working_out.specs.Reading as reading
use Rattle.order.specs.Verify as order
use Rattle.requirement.specs.Verified as answer
use Rattle.against_rust.specs.Rows.{Row, rows}

abbrev pub answered : Row → Row
answered r = record { list = r.list; calls = answer.call_words 0 r.list; marks = answer.marks 0 r.list }

pub equal : map answered rows ≡ rows
unfolding digits.span digits.climb digits.size table.tab bits.bv2nat bits.nat2bv field.number_at field.net_at field.bit_at
    field.constant_at field.scan_many
    field.ends_at head.record_of head.head_at pattern.alternate_at pattern.pattern_at pattern.patterns_at parse.patterns_in
    parse.cell_at body.third_at body.second_at body.first_at body.leading_at body.tail_at body.body_at body.contents_at
    body.record_at items.counts_at items.header_at cells.placed_at cells.cells_from cells.cells_of items.listed_number_at
    items.listed_net_at items.replaces items.replacement_at items.ascending items.pair_at items.finish_at slots.covering
    slots.is_void voids.names_void voids.offends voids.void_at voids.clock_at voids.record_voids_at
    voids.replacement_voids_at voids.pair_voids_at voids.voids_at reader.read_net_reps reader.read_cell_reps reader.read_cells
    reader.read encode.op_of encode.digits encode.encode encode.from_digits encode.calls_from builder.bv_concat_on
    builder.bv_concat builder.bv_is_zero builder.bv_to_bool builder.bool_to_bv builder.tv_lit builder.tv_const
    builder.tv_concat_on builder.tv_concat builder.tv_extract builder.tv_is0 builder.tv_is1 builder.tv_eq builder.tv_refines
    builder.tv_not builder.tv_and builder.tv_or builder.tv_xor builder.tv_mux builder.collect builder.net_of builder.value_of
    builder.invert_net builder.clock_net builder.shift_width builder.bv_no_x builder.carry_x builder.tv_adc
    builder.tv_equals builder.tv_less builder.tv_strict builder.tv_shift builder.first_match builder.net builder.control_net
    builder.prepare_at builder.shifted builder.compared builder.product builder.sum builder.match_of builder.match_cell
    builder.enabled builder.reset_to builder.loaded builder.cleared builder.dff_cell builder.adc_cell builder.cell
    emit.emit ◌>>=◌ design.cell_in reading.replacement_in reading.node_of order.claim order.new_cell order.replace_net
    order.replace_void_net order.join_pasts order.currents order.new_cell_in order.each_cell order.each_pair order.work
    order.query order.asked_calls order.verify answer.temporaries answer.read_in answer.verified answer.call_words
    answer.marks answer.calls_after answer.recorded_after
equal = refl
