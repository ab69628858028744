-- Document 01, "A cell takes max(1, output width) slots": the cells of a right design are placed one after another,
-- without fault 11.
use mathlib.Core.Path.{◌≡◌, refl}
use mathlib.Core.Bool.{Bool, true, false, cond}
use mathlib.Core.List.{List, [], ◌∷◌, ◌++◌, flat_map}
use Prim.Native.Nat.{ℕ, zero, suc, ◌+◌, ◌≤◌, ◌<◌}
use native.Mathlib.Omega.{arith}
use native.Mathlib.Nat.{add-zero}
use lib.ListN.{length, length-append}
use lib.Dec.{ltb}
use borrow.Author.Tests.{ltb-true, lt-ltb, le-ltb, le-leb}
use Rattle.std.specs.Prelude.{Ok}
use Rattle.cell.specs.Cell.{Cell, slots_of}
use Rattle.cell.specs.Design.{Placed}
use Rattle.cell.specs.Each.{Each}
use Rattle.right.specs.Laid.{Run}
use Rattle.items.specs.Items.{Reading}
use Rattle.placing.specs.Cells.{limit_of, placed_at, cells_from}
use Rattle.valid.specs.Words.{record_of, cell_words_of}
use Rattle.valid.proofs.Stands.{Stands, stands_first, stands_rest}
use Rattle.valid.proofs.Records.{Right, record_right}
use Rattle.valid.proofs.Cells.{cell-right}

-- All items were read, up to a place.
abbrev pub read_to : {A : Type 0} → List A → ℕ → Reading A
read_to items place = record { items = items; scan = Ok place }

run-low : (cells : List Placed) (s e : ℕ) → Run s cells e → s ≤ e
run-low [] s e run = omega arith
run-low (p ∷ cells) s e run = let rest = run-low cells (s + slots_of p.cell) e run.1 in omega arith

abbrev pub placed : ℕ → Cell → Placed
placed slot cell = record { slot = slot; cell = cell }

module _ (w : List ℕ) (base total : ℕ) (few : total ≤ 4096) (short : length w ≤ 16384) where
  limit_right : (slot end : ℕ) → end ≤ total → (slot < base → end ≤ base) → end ≤ limit_of base total slot
  limit_right slot end low apart = go (ltb slot base) refl
    where
      go : (b : Bool) → ltb slot base ≡ b → end ≤ cond b base total
      go true b = apart (ltb-true slot base b)
      go false b = low

  -- A cell that begins before the base's end ends by it.
  abbrev Apart : Placed → Type 0
  Apart p = p.slot < base → p.slot + slots_of p.cell ≤ base

  pub cells_right :
      (cells : List Placed) (turns slot at : ℕ) → Run slot cells total → total ≤ slot + turns → Each Apart cells →
      Each (λ (p : Placed). Right total p.cell) cells → Stands w (length w) at (flat_map cell_words_of cells) →
      cells_from w base total turns slot at ≡ read_to cells (at + length (flat_map cell_words_of cells))
  unfolding cells_from flat_map placed_at
  cells_right [] zero slot at run enough apart right s = rw add-zero
  cells_right [] (suc turns) slot at run enough apart right s = rw (le-ltb slot total (omega arith), add-zero)
  cells_right (p ∷ cells) zero slot at run enough apart right s =
      let rest = run-low cells (slot + slots_of p.cell) total run.1 in absurd (omega arith)
  cells_right (p ∷ cells) (suc turns) slot at run enough apart right s =
      let c : Cell = p.cell in
      let here : Stands w (length w) at (record_of c) = stands_first (record_of c) (flat_map cell_words_of cells) s in
      let start : p.slot ≡ slot = run.0 in
      let rest = run-low cells (slot + slots_of c) total run.1 in
      let limit = limit_right slot (slot + slots_of c) rest (rw start at apart.0) in
      let same : placed slot c ≡ p = rw (← start) in
      let others : List ℕ = flat_map cell_words_of cells in
      let place : at + length (record_of c ++ others) ≡ at + length (record_of c) + length others =
      omega (arith, length-append (record_of c) others) in
      rw (
        lt-ltb slot total (omega arith),
        record_right w total few short c at right.0 here,
        le-leb (slot + slots_of c) (limit_of base total slot) limit,
        cell-right w total at c few short right.0 here,
        cells_right cells turns (slot + slots_of c) (at + length (record_of c)) run.1 (omega arith) apart.1
            right.1 (stands_rest (record_of c) others s),
        same,
        place,
      )
