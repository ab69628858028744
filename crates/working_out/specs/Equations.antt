-- Document 01, "Reading nets". The equations of a design, for values of any type: trits, or the bits of an assignment.
-- A rule says which values a cell at a slot gives its outputs, of the current values of all slots.
use Rattle.std.specs.Prelude.{◌≡◌, true, List, [], ◌∷◌, map, ℕ, ◌-◌, get_or}
use Rattle.logic.specs.Net.{slot}
use Rattle.cell.specs.Cell.{Cell, output_len}
use Rattle.cell.specs.Design.{Design, Placed, NetPair, cell_of}
use Rattle.cell.specs.Each.{Each}
use Rattle.rules.specs.CellRule.{outputs}
use Rattle.working_out.specs.System.{work_out}
use Rattle.working_out.specs.Reading.{source, asserted, node_of, of_void, pair_of}
use Rattle.working_out.specs.Loop.{buf_of, node_cell, order}

abbrev pub Rule : Type 0 → Type 0
Rule A = ℕ → Cell → (ℕ → A) → List A

module _ {A : Type 0} (rule : Rule A) (d : Design) where
  -- An asserted cell's outputs show what its rule gives.
  abbrev pub CellShown : (ℕ → A) → Placed → Type 0
  CellShown now p =
      asserted p.cell ≡ true → map now (outputs p.slot (output_len p.cell)) ≡ rule p.slot p.cell now

  -- A replaced Void shows what a Buf of its replacement's `to` gives.
  abbrev pub VoidShown : (ℕ → A) → NetPair → Type 0
  VoidShown now p = pair_of d p ≡ of_void → (i : ℕ) → p.from ≡ slot i → now i ∷ [] ≡ rule i (buf_of p.to) now

  -- Current values that solve the equations, of given values for the sources.
  pub record Solution (given now : ℕ → A) : Type 0 where
    pub sources : (i : ℕ) → source d i ≡ true → now i ≡ given i
    pub cells : Each (CellShown now) d.cells
    pub voids : Each (VoidShown now) d.net_reps

  module _ (blank : A) where
    -- The value that a slot gets by the rule of its node; blank is never reached.
    unfoldable pub slot_rule : ℕ → (ℕ → A) → A
    slot_rule i now = get_or (rule (cell_of d i).slot (node_cell d i) now) (i - (cell_of d i).slot) blank

    -- The values of all slots, the nodes filled in the order of their reads.
    unfoldable pub worked_out_by : (ℕ → A) → ℕ → A
    worked_out_by given = work_out (node_of d) slot_rule (order d) given
