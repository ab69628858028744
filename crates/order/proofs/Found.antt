-- The cells of an accepted design, and the new cell that is found for one.
use mathlib.Core.Path.{◌≡◌, refl, ap, ◌∙◌}
use mathlib.Core.Bool.{Bool, true, false, cond}
use mathlib.Core.Option.{some}
use mathlib.Core.List.{List, [], ◌∷◌}
use Prim.Native.Nat.{ℕ}
use native.Mathlib.Omega.{arith}
use lib.Dec.{eqb}
use borrow.Author.Tests.{eqb-true}
use Rattle.cell.specs.Cell.{Cell, output_len}
use Rattle.cell.specs.Design.{Design, Placed, total, cell_in, cell_of}
use Rattle.cell.specs.Each.{Each}
use Rattle.right.specs.Laid.{Laid, CellLaid, MayReplace, Replaces}
use Rattle.working_out.proofs.LayoutLaws.{at_each, located}
use Rattle.smt.specs.CellBits.{NotInput}
use Rattle.order.specs.Verify.{new_cell_in}

abbrev pub placed : ℕ → Cell → Placed
placed s a = record { slot = s; cell = a }

-- What holds of each replacement holds of the one that is found.
pub found : (P : Placed → Type 0) (reps : List Placed) (s : ℕ) (a : Cell) → Each P reps → new_cell_in reps s ≡ some a →
    P (placed s a)
unfolding new_cell_in
found P [] s a h e = absurd (let z : ◌≡◌ {A = ℕ} 0 1 = cc in omega arith)
found P (r ∷ reps) s a h e = go (λ q. found P reps s a h.1 q) (eqb r.slot s) refl e
  where
    go : (new_cell_in reps s ≡ some a → P (placed s a)) → (b : Bool) → eqb r.slot s ≡ b
        → cond b (some r.cell) (new_cell_in reps s) ≡ some a → P (placed s a)
    go rec true q f =
        let slot : r.slot ≡ s = eqb-true r.slot s q in
        let cell : r.cell ≡ a = cc in
        rw (← slot, ← cell) h.0
    go rec false q f = rec f

-- A cell of the design is the one that its first slot belongs to.
pub own_cells : (d : Design) → Laid d → Each (λ (p : Placed). cell_of d p.slot ≡ p) d.cells
own_cells d laid =
    at_each (λ (p : Placed). cell_of d p.slot ≡ p) d.cells 0 (total d) laid.run
    (λ i low high.
    let at = located d.cells 0 (total d) i laid.run low high in
    at.whole (cell_in d.cells i).slot (omega arith) (omega arith))

pub may_replace_lem : (a : Cell) → MayReplace a → NotInput a
may_replace_lem a m n e = rw e at m

-- The new cell that is found for a cell of the design: it is laid out, has terms, and is of the old one's width.
pub record New (d : Design) (p : Placed) (a : Cell) : Type 0 where
  pub laid : CellLaid d (placed p.slot a)
  pub replaces : Replaces d (placed p.slot a)
  pub width : output_len a ≡ output_len p.cell

pub new_found : (d : Design) → Laid d → (p : Placed) → cell_of d p.slot ≡ p → (a : Cell) →
    new_cell_in d.cell_reps p.slot ≡ some a → New d p a
new_found d laid p own a e =
    let r = found (Replaces d) d.cell_reps p.slot a laid.replaces e in
    record {
      laid = found (CellLaid d) d.cell_reps p.slot a laid.new_cells e;
      replaces = r;
      width = r.width ∙ ap (λ (q : Placed). output_len q.cell) own;
    }
