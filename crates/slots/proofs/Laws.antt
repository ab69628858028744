-- The slot table of an accepted list tells of its design: the word at each slot is that of the cell which the slot
-- belongs to, the cell's place lies on the same side of the base's end as the slot, and the word's digits give back its
-- parts. Assumes nothing.
use mathlib.Core.Path.{◌≡◌, refl, sym, ap, ◌∙◌, fun_ext}
use mathlib.Core.Bool.{Bool, true, false, cond, ◌&&◌}
use mathlib.Core.List.{List, ◌++◌}
use Prim.Native.Nat.{ℕ, ◌+◌, ◌≤◌, ◌<◌, ◌/◌, ◌%◌}
use native.Mathlib.Omega.{arith}
use native.Mathlib.Decide.{dec_lt}
use lib.ListN.{length, get_or, take, drop, length-map, get_or-append, get_or-eq_default}
use lib.Seq.{sets, sets-eq, take_at}
use lib.Dec.{ltb, eqb}
use borrow.Author.Tests.{ltb-true, ltb-false, lt-ltb, le-ltb, ne_eqb}
use Rattle.cell.specs.declared.Mode.{Mode}
use Rattle.cell.specs.Cell.{output_len, slots_of, standing}
use Rattle.cell.specs.Design.{Design, Placed, total, cell_of}
use Rattle.cell.specs.Role.{role, is_dff}
use Rattle.right.specs.Laid.{Apart, Laid}
use Rattle.placing.specs.Slots.{covering, standing_number, mark_of, slot_words}
use Rattle.placing.specs.Cover.{Walk}
use Rattle.placing.proofs.CoverLaws.{walk-total, table_at, takes_all, Narrow, walk-narrow}
use Rattle.design_list.specs.Read.{read, accepted}
use Rattle.design_list.specs.Table.{table_after}
use Rattle.design_list.proofs.AcceptedLaws.{accepted-read}
use Rattle.working_out.specs.Reading.{reads_past}
use Rattle.working_out.proofs.LayoutLaws.{Located, at, each_at, at_each}
use Rattle.accepted.proofs.Laid.{stages, accepted-laid, cell-takes}
use Rattle.nets.specs.Reads.{past_in}
use Rattle.slots.specs.Tells.{width_in, standing_of, Tells}
use Rattle.slots.proofs.Roles.{standing-role, standing-low, dff_stands}

-- ---- The digits of a slot's word.
module _ (base : ℕ) (c : Placed) (narrow : Narrow c) where
  added-low : (b : Bool) → cond b 0 1 ≤ 1
  added-low true = omega arith
  added-low false = omega arith

  stands_low : standing_number (standing c.cell) ≤ 2
  stands_low = rw (standing-role c.cell) (standing-low (role c.cell))

  mark-standing : mark_of base c % 4 ≡ standing_of (role c.cell)
  mark-standing = rw (← standing-role c.cell) (omega (arith, stands_low, added-low (ltb c.slot base)))

  mark-width : mark_of base c / 8 % 128 ≡ output_len c.cell
  mark-width = omega (arith, stands_low, added-low (ltb c.slot base))

  -- 1 in the last three bits: a Dff, and of the base.
  mark-past : eqb (mark_of base c % 8) 1 ≡ ltb c.slot base && is_dff (role c.cell)
  mark-past = go (ltb c.slot base) refl
    where
      go : (b : Bool) → ltb c.slot base ≡ b → eqb (mark_of base c % 8) 1 ≡ b && is_dff (role c.cell)
      go true b =
          let digit : mark_of base c % 8 ≡ standing_number (standing c.cell) = rw b (omega (arith, stands_low)) in
          rw (digit, standing-role c.cell) (dff_stands (role c.cell))
      go false b =
          let digit : mark_of base c % 8 ≡ standing_number (standing c.cell) + 4 = rw b (omega (arith, stands_low)) in
          ne_eqb (mark_of base c % 8) 1 (λ e. omega arith)

-- A cell's first slot is in the base exactly where each of its slots is.
same_side :
    {s e : ℕ} {cells : List Placed} (d : Design) (i : ℕ) (c : Placed) → Located s e cells i c → Apart d c →
    ltb c.slot d.base ≡ ltb i d.base
same_side d i c located apart = go (ltb c.slot d.base) refl
  where
    go : (b : Bool) → ltb c.slot d.base ≡ b → b ≡ ltb i d.base
    go true b =
        let ends : c.slot + slots_of c.cell ≤ d.base = apart (ltb-true _ _ b) in
        let high : i < c.slot + slots_of c.cell = located.high in
        sym (lt-ltb i d.base (omega arith))
    go false b =
        let starts : d.base ≤ c.slot = ltb-false _ _ b in
        let low : c.slot ≤ i = located.low in
        sym (le-ltb i d.base (omega arith))

-- ---- The table of an accepted list.
module _ (mode : Mode) (w : List ℕ) {d : Design} {r p : ℕ} (accepts : read mode w ≡ accepted d r p) where
  laid : Laid d
  laid = accepted-laid mode w accepts

  walk : Walk w d.base (total d) 0 4 d.cells r
  walk = (stages (accepted-read mode w accepts)).walk

  covered : length (covering d.cells) ≡ total d
  covered = walk-total walk

  table-length : length (slot_words d.base d.cells) ≡ total d
  table-length = length-map (covering d.cells) (mark_of d.base) ∙ covered

  word_at : (i : ℕ) → i < total d → get_or (slot_words d.base d.cells) i 0 ≡ mark_of d.base (cell_of d i)
  word_at i low =
      let all = slot_words d.base d.cells in
      let size : length all ≡ total d = table-length in
      let part : get_or (all ++ drop (0 + length all) all) i 0 ≡ get_or all i 0 =
      get_or-append all (drop (0 + length all) all) 0 i (omega arith) in
      let stored : sets all 0 all ≡ all ++ drop (0 + length all) all = sets-eq all all 0 (omega arith) in
      sym part ∙ rw stored at (table_at d.base d.cells all (omega (arith, covered)) i (omega (arith, covered)))
      ∙ ap (mark_of d.base) (sym (cell-takes d i laid.run low))

  narrow : (i : ℕ) → i < total d → Narrow (cell_of d i)
  narrow i low = rw (cell-takes d i laid.run low) (takes_all Narrow d.cells (omega arith) (walk-narrow walk) i)

  past : (i : ℕ) → past_in (slot_words d.base d.cells) i ≡ reads_past d i
  past i = go (dec_lt i (total d))
    where
      go : Dec (i < total d) → past_in (slot_words d.base d.cells) i ≡ reads_past d i
      go (yes low) =
          let apart = each_at (Apart d) d.cells 0 (total d) i laid.run (omega arith) low laid.apart in
          rw (
            word_at i low,
            mark-past d.base (cell_of d i) (narrow i low),
            same_side d i (cell_of d i) (at d laid i low) apart,
          )
      go (no high) =
          let size : length (slot_words d.base d.cells) ≡ total d = table-length in
          rw (
            get_or-eq_default (slot_words d.base d.cells) 0 {n = i} (omega arith),
            le-ltb i d.base (omega arith),
          )

  width : (i : ℕ) → i < total d → width_in (slot_words d.base d.cells) i ≡ output_len (cell_of d i).cell
  width i low = rw (word_at i low) (mark-width d.base (cell_of d i) (narrow i low))

  -- A cell's first slot belongs to it.
  width-first :
      (i : ℕ) → i < total d → width_in (slot_words d.base d.cells) (cell_of d i).slot ≡ output_len (cell_of d i).cell
  width-first i low =
      let here = at d laid i low in
      let first : (cell_of d i).slot ≤ i = here.low in
      let last : i < (cell_of d i).slot + slots_of (cell_of d i).cell = here.high in
      let same : cell_of d (cell_of d i).slot ≡ cell_of d i =
      here.whole (cell_of d i).slot (omega arith) (omega arith) in
      width (cell_of d i).slot (omega arith) ∙ ap (λ (c : Placed). output_len c.cell) same

  pub accepted-tells : Tells d (slot_words d.base d.cells)
  accepted-tells = record {
    past = past;
    widths =
        at_each (λ (c : Placed). width_in (slot_words d.base d.cells) c.slot ≡ output_len c.cell) d.cells 0
        (total d)
        laid.run (λ i first low. width-first i low);
    roles = λ i low. rw (word_at i low) (mark-standing d.base (cell_of d i) (narrow i low));
  }

  -- They are the first words of a slice that `slot_table` filled.
  pub table-tells :
      (out : List ℕ) → total d ≤ length out → Tells d (take (total d) (table_after (read mode w) out))
  table-tells out enough =
      let size : length (slot_words d.base d.cells) ≡ total d = table-length in
      rw (
        accepts,
        le-ltb (length out) (total d) enough,
        take_at (slot_words d.base d.cells) (drop (total d) out) (total d) size,
      ) accepted-tells

-- Where the code asks the table, the order of work asks the design.
pub tells-past : {d : Design} {table : List ℕ} → Tells d table → past_in table ≡ reads_past d
tells-past tells = fun_ext tells.past
