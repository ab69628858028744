-- The slot table of an accepted list is its design's: besides what it tells the order of work, each word has the first
-- slot of the cell that takes the slot.
use mathlib.Core.Path.{◌≡◌, refl, sym, ap, ◌∙◌}
use mathlib.Core.Bool.{Bool, true, false, cond}
use mathlib.Core.List.{List, [], ◌∷◌, map}
use Prim.Native.Nat.{ℕ, zero, suc, ◌≤◌, ◌<◌, ◌/◌}
use native.Mathlib.Omega.{arith}
use lib.ListN.{length, get_or, take, drop, length-map}
use lib.Seq.{take_at}
use lib.Dec.{ltb}
use borrow.Author.Tests.{le-ltb}
use Rattle.cell.specs.declared.Mode.{Mode}
use Rattle.cell.specs.Cell.{standing}
use Rattle.cell.specs.Design.{Design, Placed, total, cell_of}
use Rattle.cell.specs.Role.{role}
use Rattle.placing.specs.Slots.{covering, nowhere, takes, standing_number, mark_of, slot_words}
use Rattle.placing.proofs.CoverLaws.{walk-total, takes_all, Narrow, walk-narrow}
use Rattle.design_list.specs.Read.{read, accepted}
use Rattle.design_list.specs.Table.{table_after}
use Rattle.design_list.proofs.AcceptedLaws.{accepted-read}
use Rattle.accepted.proofs.Laid.{stages, accepted-laid, cell-takes}
use Rattle.slots.proofs.Roles.{standing-role, standing-low}
use Rattle.slots.proofs.Laws.{accepted-tells}
use Rattle.reads_table.specs.Table.{IsTable}

-- The word of a slot that is taken.
word_at : (f : Placed → ℕ) (l : List Placed) (i : ℕ) → i < length l → get_or (map f l) i 0 ≡ f (get_or l i nowhere)
word_at f [] i low = absurd (omega arith)
word_at f (c ∷ l) zero low = refl
word_at f (c ∷ l) (suc i) low = word_at f l i (omega arith)

-- Its last ten bits are of the other parts.
mark-first : (base : ℕ) (c : Placed) → Narrow c → mark_of base c / 1024 ≡ c.slot
mark-first base c narrow =
    let stands : standing_number (standing c.cell) ≤ 2 =
    rw (standing-role c.cell) (standing-low (role c.cell)) in
    let added : cond (ltb c.slot base) 0 1 ≤ 1 = go (ltb c.slot base) in
    omega arith
  where
    go : (b : Bool) → cond b 0 1 ≤ 1
    go true = omega arith
    go false = omega arith

module _ (mode : Mode) (w : List ℕ) {d : Design} {r p : ℕ} (accepts : read mode w ≡ accepted d r p) where
  size : length (slot_words d.base d.cells) ≡ total d
  size = length-map (covering d.cells) (mark_of d.base) ∙ walk-total (stages (accepted-read mode w accepts)).walk

  pub accepted-table : IsTable d (slot_words d.base d.cells)
  accepted-table = record { tells = accepted-tells mode w accepts; firsts = first; size = size }
    where
      first : (i : ℕ) → i < total d → get_or (slot_words d.base d.cells) i 0 / 1024 ≡ (cell_of d i).slot
      first i low =
          let walk = (stages (accepted-read mode w accepts)).walk in
          let covered = walk-total walk in
          let narrow = takes_all Narrow d.cells (omega arith) (walk-narrow walk) i in
          rw (
            word_at (mark_of d.base) (covering d.cells) i (omega arith),
            mark-first d.base (takes d.cells i) narrow,
          ) (ap (λ (c : Placed). c.slot) (sym (cell-takes d i (accepted-laid mode w accepts).run low)))

  -- They are the first words of a slice that `slot_table` filled.
  pub table_is : (out : List ℕ) → total d ≤ length out → IsTable d (take (total d) (table_after (read mode w) out))
  table_is out enough =
      rw (
        accepts,
        le-ltb (length out) (total d) enough,
        take_at (slot_words d.base d.cells) (drop (total d) out) (total d) size,
      ) accepted-table
