-- Document 01, "Words": how many words a cell, a replacement and a design take in a list.
use Rattle.std.specs.Prelude.{List, ℕ, ◌+◌, ◌*◌, length}
use Rattle.logic.specs.declared.Trit.{Trit}
use Rattle.cell.specs.Cell.{Cell}
use Rattle.cell.specs.Cell as c
use Rattle.cell.specs.Design.{Design, Placed}
use Rattle.bound.specs.Costs.{sum_by}

-- A pattern's words: #alternates and its constants.
abbrev pub pattern_words : List (List Trit) → ℕ
pattern_words alternates = 1 + sum_by length alternates

-- The words of a cell's record, its head among them.
abbrev pub record_words : Cell → ℕ
record_words c.void = 1
record_words c.note = 1
record_words (c.input n) = 2
record_words (c.io_buf n) = 2
record_words (c.unary op a) = 2 + length a
record_words (c.binary op a b) = 2 + (length a + length b)
record_words (c.mux s a b) = 3 + (length a + length b)
record_words (c.adc a b carry) = 3 + (length a + length b)
record_words (c.aig a b) = 3
record_words (c.shift op value amount stride) = 4 + (length value + length amount)
record_words (c.match value enable patterns) = 4 + (length value + sum_by pattern_words patterns)
record_words (c.assign value enable update offset) = 5 + (length value + length update)
record_words (c.dff f) = 7 + (length f.dat + (length f.clear_value + length f.reset_value))

-- The words of a design list: four numbers, the cells, the cell replacements with their slots, the net replacements.
abbrev pub design_words : Design → ℕ
design_words d =
    4 + (sum_by (λ (p : Placed). record_words p.cell) d.cells
    + (sum_by (λ (p : Placed). 1 + record_words p.cell) d.cell_reps + 2 * length d.net_reps))
