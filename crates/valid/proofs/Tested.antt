-- What the reader tests holds of a valid design.
use Prim.Native.Nat.{ℕ, ◌≤◌}
use mathlib.Core.Path.{◌≡◌, refl, sym}
use mathlib.Core.Bool.{true}
use mathlib.Core.List.{List, [], ◌∷◌}
use native.Mathlib.Omega.{arith}
use borrow.Author.Tests.{lt-ltb, le-leb, eq-eqb}
use Rattle.logic.specs.Net.{Net}
use Rattle.cell.specs.Cell.{Cell, output_len}
use Rattle.cell.specs.Cell as C
use Rattle.cell.specs.Operation.{may_replace}
use Rattle.cell.specs.Design.{Placed, NetPair, Design, total, cell_of}
use Rattle.cell.specs.Each.{Each}
use Rattle.right.specs.Bounds.{Bounded}
use Rattle.right.specs.Nets.{nets_of}
use Rattle.right.specs.Voids.{nets_beside_clock, NoVoid}
use Rattle.right.specs.Laid.{CellLaid, MayReplace, Replaces}
use Rattle.right.specs.Valid.{Valid}
use Rattle.items.specs.Items.{replaces}
use Rattle.placing.specs.Slots.{at_slot}
use Rattle.accepted.proofs.Laid.{cell-takes}
use Rattle.valid.specs.Words.{operation_of_cell}
use Rattle.valid.proofs.Records.{Right}
use Rattle.valid.proofs.Replacements.{RightReplacement}
use Rattle.valid.proofs.Voids.{standing-not-void, Readable}

each_both :
    {A : Type 0} {P Q R : A → Type 0} (xs : List A) → ((x : A) → P x → Q x → R x) → Each P xs → Each Q xs → Each R xs
each_both [] f p q = tt
each_both (x ∷ xs) f p q = (f x p.0 q.0, each_both xs f p.1 q.1)

may_replace_lem : (c : Cell) → MayReplace c → may_replace (operation_of_cell c) ≡ true
may_replace_lem C.void m = absurd m
may_replace_lem C.note m = absurd m
may_replace_lem (C.input n) m = absurd m
may_replace_lem (C.io_buf n) m = refl
may_replace_lem (C.unary op a) m = refl
may_replace_lem (C.binary op a b) m = refl
may_replace_lem (C.mux s a b) m = refl
may_replace_lem (C.adc a b carry) m = refl
may_replace_lem (C.aig a b) m = refl
may_replace_lem (C.shift op a b stride) m = refl
may_replace_lem (C.match value enable patterns) m = refl
may_replace_lem (C.assign value enable update offset) m = refl
may_replace_lem (C.dff f) m = refl

beside_clock : (P : Net → Type 0) (c : Cell) → Each P (nets_of c) → Each P (nets_beside_clock c)
beside_clock P C.void all = all
beside_clock P C.note all = all
beside_clock P (C.input n) all = all
beside_clock P (C.io_buf n) all = all
beside_clock P (C.unary op a) all = all
beside_clock P (C.binary op a b) all = all
beside_clock P (C.mux s a b) all = all
beside_clock P (C.adc a b carry) all = all
beside_clock P (C.aig a b) all = all
beside_clock P (C.shift op value amount stride) all = all
beside_clock P (C.match value enable patterns) all = all
beside_clock P (C.assign value enable update offset) all = all
beside_clock P (C.dff f) all = all.1

module _ (d : Design) (valid : Valid d) where
  replaces-right :
      (p : Placed) → Replaces d p → (least : ℕ) → least ≤ p.slot →
      replaces (at_slot d.cells) d.base least p.slot (operation_of_cell p.cell) (output_len p.cell) ≡ true
  unfolding replaces
  replaces-right p r least above =
      let low = r.base in
      rw (
        lt-ltb p.slot d.base low,
        ← cell-takes d p.slot valid.laid.run (omega arith),
        eq-eqb (cell_of d p.slot).slot p.slot r.heads,
        standing-not-void (cell_of d p.slot).cell r.old,
        le-leb least p.slot above,
        eq-eqb (output_len (cell_of d p.slot).cell) (output_len p.cell) (sym r.width),
        may_replace_lem p.cell r.new,
      )

  cell-right : (p : Placed) → CellLaid d p → Bounded p.cell → Right (total d) p.cell
  cell-right p laid bounded = record { shaped = laid.shaped; bounded = bounded; within = laid.within }

  pub cells_are_right : Each (λ (p : Placed). Right (total d) p.cell) d.cells
  cells_are_right = each_both d.cells cell-right valid.laid.cells valid.bounds.cells

  pub replacements_are_right : Each (RightReplacement (total d) (replaces (at_slot d.cells) d.base)) d.cell_reps
  replacements_are_right =
      each_both d.cell_reps (λ p right r.
      let low = r.base in
      let few = valid.slots in
      record { low = omega arith; right = right; replaced = replaces-right p r })
      (each_both d.cell_reps cell-right valid.laid.new_cells valid.bounds.new_cells)
      valid.laid.replaces

  cell_readable :
      (p : Placed) → CellLaid d p → Each (NoVoid d) (nets_beside_clock p.cell) →
      Each (Readable d) (nets_beside_clock p.cell)
  cell_readable p laid unread =
      each_both (nets_beside_clock p.cell) (λ n within none. (within, none))
      (beside_clock _ p.cell laid.within) unread

  pub cells_readable : Each (λ (p : Placed). Each (Readable d) (nets_beside_clock p.cell)) d.cells
  cells_readable = each_both d.cells cell_readable valid.laid.cells valid.voids.cells

  pub replacements_readable : Each (λ (p : Placed). Each (Readable d) (nets_beside_clock p.cell)) d.cell_reps
  replacements_readable = each_both d.cell_reps cell_readable valid.laid.new_cells valid.voids.new_cells

  pub pairs_readable : Each (λ (p : NetPair). Readable d p.to) d.net_reps
  pairs_readable =
      each_both d.net_reps (λ p within none. (within.to, none)) valid.laid.nets valid.voids.tos
