-- Document 01, "Reading nets": working out. While a cell or replaced Void lacks current trits, one whose current reads
-- all have theirs gets them: what its rule gives, or for a Void its replacement's `to` as read.
use Rattle.std.specs.Prelude.{ℕ}
use Rattle.logic.specs.declared.Trit.{Trit}
use Rattle.logic.specs.declared.Trit.TheVariants.{Undef}
use Rattle.cell.specs.Cell.{output_len}
use Rattle.cell.specs.Design.{Design}
use Rattle.rules.specs.CellRule.{Trits, outputs, cell_rule}
use Rattle.working_out.specs.Reading.{reads_past}
use Rattle.working_out.specs.Equations.{Rule, Solution, worked_out_by}

-- The trits that a cell at a slot gets by its rule, of past and current trits.
abbrev pub trit_rule : Design → (ℕ → Trit) → Rule Trit
trit_rule d was s a now = cell_rule (reads_past d) (record { now = now; was = was }) (outputs s (output_len a)) a

-- The current trit of every slot, of a trit per source: g has their current ones, and all past ones.
abbrev pub worked_out : Design → Trits → ℕ → Trit
worked_out d g = worked_out_by (trit_rule d g.was) d Undef g.now

-- The trits of the whole design.
abbrev pub whole : Design → Trits → Trits
whole d g = record { now = worked_out d g; was = g.was }

-- Current trits that solve the equations of the design.
abbrev pub Solves : Design → Trits → (ℕ → Trit) → Type 0
Solves d g now = Solution (trit_rule d g.was) d g.now now
