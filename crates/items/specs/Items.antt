-- Document 01, "Words" and "Faults and what stays": the header, the cell replacements and the net replacements of a
-- design list, each up to its first fault.
use Rattle.std.specs.Prelude.{ℕ, zero, suc, ◌+◌, ◌-◌, ◌^◌, List, [], ◌∷◌, Bool, false, not, ◌&&◌, length, ltb, leb, eqb}
use Rattle.std.specs.Prelude.{Result, Ok, Err}
use Rattle.logic.specs.declared.Fault.{Fault}
use Rattle.cell.specs.Operation.{may_replace}
use Rattle.cell.specs.declared.Operation.{Operation}
use Rattle.cell.specs.Design.{Placed, NetPair}
use Rattle.fields.specs.Field.{fault, unless, on_number, on_read, number_at, net_at}
use Rattle.cell_reader.specs.Record.{on_record, record_at}
use Rattle.cell_reader.specs.Parse.{number_in, net_in, cell_at}
use Rattle.items.specs.declared.Header.{Header}

-- Items read up to a fault, or to the place after the last.
pub record Reading (A : Type 0) : Type 0 where
  pub items : List A
  pub scan : Result ℕ Fault

module _ {A : Type 0} where
  abbrev pub stop : Result ℕ Fault → Reading A
  stop scan = record { items = []; scan = scan }

  abbrev pub refuse : Fault → Reading A
  refuse e = stop (Err e)

  abbrev pub push : A → Reading A → Reading A
  push item rest = record { items = item ∷ rest.items; scan = rest.scan }

-- Header words, each kind 2, then bound 4: base + added ≤ 4,096, each replacement count ≤ 4,096.
unfoldable pub counts_at : List ℕ → ℕ → ℕ → Result Header Fault
counts_at w base added =
    on_number (number_at w 4096 4 2) Err (λ (cell_reps _ : ℕ).
    on_number (number_at w 4096 4 3) Err (λ (net_reps _ : ℕ).
    Ok record { base = base; added = added; cellreps = cell_reps; netreps = net_reps }))

unfoldable pub header_at : List ℕ → Result Header Fault
header_at w =
    on_number (number_at w 4096 4 0) Err (λ (base _ : ℕ).
    on_number (number_at w (4096 - base) 4 1) Err (λ (added _ : ℕ). counts_at w base added))

-- A word outside the records: missing 1, kind 2; #slot has no bound; a net's slot 6.
unfoldable pub listed_number_at : List ℕ → ℕ → Result (ℕ × ℕ) Fault
listed_number_at w at =
    unless (ltb at (length w)) (Err (fault 1 (length w))) (number_at w (2 ^ 29 - 1) (length w) at)

unfoldable pub listed_net_at : List ℕ → ℕ → ℕ → Result ℕ Fault
listed_net_at w total at = unless (ltb at (length w)) (Err (fault 1 (length w))) (net_at w total false (length w) at)

-- What stands at a slot: the first slot of the cell that takes it, whether that is a Void, and its output width.
pub record AtSlot : Type 0 where
  pub first : ℕ
  pub void : Bool
  pub width : ℕ

-- Fault 12: "replaced slot heads no base cell, is Void, or not ascending; widths differ; new cell is Void, Input or
-- Note". Whether a replacement has none of these; `least` is one above the slot replaced before.
unfoldable pub replaces : (ℕ → AtSlot) → ℕ → ℕ → ℕ → Operation → ℕ → Bool
replaces stands base least slot op width =
    (ltb slot base && eqb (stands slot).first slot)
    && not (stands slot).void
    && leb least slot
    && eqb (stands slot).width width
    && may_replace op

-- A test of a replacement, by the least slot that it may have, its slot, and its new cell's operation and output width.
abbrev pub Test : Type 0
Test = ℕ → ℕ → Operation → ℕ → Bool

-- #slot, then a record; what is wrong between them is fault 12, at #slot.
unfoldable pub replacement_at : List ℕ → ℕ → Test → ℕ → ℕ → Result (ℕ × ℕ) Fault
replacement_at w total right least at =
    on_number (listed_number_at w at) Err (λ (slot start : ℕ).
    on_record (record_at w total start) Err (λ (op : Operation) (width next : ℕ).
    unless (right least slot op width) (Err (fault 12 at)) (Ok (slot + 1, next))))

module _ {A : Type 0} where
  -- k replacements, each not below what the one before it asks: `item` of the place of each.
  unfoldable pub ascending : (ℕ → ℕ → Result (ℕ × ℕ) Fault) → (ℕ → A) → ℕ → ℕ → ℕ → Reading A
  ascending step item zero least at = stop (Ok at)
  ascending step item (suc k) least at =
      on_number (step least at) refuse (λ (above next : ℕ). push (item at) (ascending step item k above next))

-- The cell replacements, their slots strictly ascending: the new cell at the replaced slot.
abbrev pub new_cell : List ℕ → ℕ → Placed
new_cell w at = record { slot = number_in w at; cell = cell_at w (at + 1) }

abbrev pub cell_reps_from : List ℕ → ℕ → Test → ℕ → ℕ → ℕ → Reading Placed
cell_reps_from w total right k least at = ascending (replacement_at w total right) (new_cell w) k least at

-- from, to; a from not above the one before is fault 13, at from.
unfoldable pub pair_at : List ℕ → ℕ → ℕ → ℕ → Result (ℕ × ℕ) Fault
pair_at w total least at =
    on_read (listed_net_at w total at) Err (λ (to : ℕ).
    on_read (listed_net_at w total to) Err (λ (next : ℕ).
    unless (leb least (number_in w at)) (Err (fault 13 at)) (Ok (number_in w at + 1, next))))

-- The net replacements, the payloads of their froms strictly ascending (0, 1, slots, X).
abbrev pub net_pair : List ℕ → ℕ → NetPair
net_pair w at = record { from = net_in w at; to = net_in w (at + 1) }

abbrev pub net_reps_from : List ℕ → ℕ → ℕ → ℕ → ℕ → Reading NetPair
net_reps_from w total k least at = ascending (pair_at w total) (net_pair w) k least at

-- Words left after the last pair: fault 1 at the first.
unfoldable pub finish_at : List ℕ → ℕ → Result ℕ Fault
finish_at w at = unless (eqb at (length w)) (Err (fault 1 at)) (Ok at)
