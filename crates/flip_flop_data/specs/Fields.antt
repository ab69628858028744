-- Document 01, "Operations and bodies": the flip-flop of a record's fields.
use Rattle.std.specs.Prelude.{List, ℕ, ◌+◌, eqb}
use Rattle.cell.specs.Cell.{FlipFlop}
use Rattle.cell_reader.specs.Parse.{number_in, control_in, nets_in, trits_in}

-- #n #reset-over-enable clock clear reset enable, n* data, n* clear value, n* reset value: the flip-flop of `cell_in`
-- for Dff.
abbrev pub flip_flop_in : List ℕ → FlipFlop
flip_flop_in w = record {
  reset_over_enable = eqb (number_in w 1) 1;
  clock = control_in w 2;
  clear = control_in w 3;
  reset = control_in w 4;
  enable = control_in w 5;
  dat = nets_in w (number_in w 0) 6;
  clear_value = trits_in w (number_in w 0) (6 + number_in w 0);
  reset_value = trits_in w (number_in w 0) (6 + number_in w 0 + number_in w 0);
}
