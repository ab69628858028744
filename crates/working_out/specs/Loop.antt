-- Document 01, "Reading nets": a current loop is a cycle of current reads among asserted cells, each taken whole and
-- named by its first slot, and replaced Voids.
use Rattle.std.specs.Prelude.{Bool, cond, List, [], ◌∷◌, ℕ}
use Rattle.std.proofs.Math.Option.{Option, none, some}
use Rattle.logic.specs.Net.{Net}
use Rattle.cell.specs.Cell.{Cell}
use Rattle.cell.specs.Cell as c
use Rattle.cell.specs.Design.{Design, total, cell_of}
use Rattle.cell.specs.Role.{role, is_void}
use Rattle.rules.specs.Reads.{current_reads}
use Rattle.working_out.specs.Graph as g
use Rattle.working_out.specs.Graph.{undone}
use Rattle.working_out.specs.Order.{is_some}
use Rattle.working_out.specs.System as s
use Rattle.working_out.specs.Reading.{reads_past, replacement, node_of}

-- The cell by whose rule a node gets its trits: an asserted cell itself; for a replaced Void, which gets its
-- replacement's `to` as read, a Buf of `to`.
abbrev pub buf_of : Net → Cell
buf_of to = c.unary c.buf (to ∷ [])

abbrev pub rule_cell : Cell → Option Net → Cell
rule_cell cell none = cell
rule_cell cell (some to) = cond (is_void (role cell)) (buf_of to) cell

unfoldable pub node_cell : Design → ℕ → Cell
node_cell d i = rule_cell (cell_of d i).cell (replacement d i)

-- The slots that a node reads currently.
unfoldable pub currently_read : Design → ℕ → List ℕ
currently_read d a = current_reads (reads_past d) (node_cell d a)

-- Node a reads node b currently: one of the slots that a reads belongs to b.
abbrev pub reads : Design → ℕ → ℕ → Bool
reads d = s.reads (node_of d) (currently_read d)

-- A loop is a chain of such reads from a node to itself.
abbrev pub Loop : Design → Type 0
Loop d = g.Loop (total d) (reads d)

-- The nodes by first slot, each after all that it reads, the lowest ready one always next.
abbrev pub order : Design → List ℕ
order d = g.order (total d) (reads d) (undone (total d) (s.start (node_of d))) (s.start (node_of d))

-- There is a loop where a node never gets ready.
abbrev pub has_loop : Design → Bool
has_loop d = is_some (g.never_ready (total d) (reads d) (s.start (node_of d)))
