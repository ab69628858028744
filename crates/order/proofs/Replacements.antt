-- Going through the cells in slot order and taking the new cell of each meets the cell replacements of an accepted list
-- in their order, each once.
use mathlib.Core.Path.{◌≡◌, refl, sym, subst}
use mathlib.Core.Bool.{Bool, true, false, cond}
use mathlib.Core.Option.{Option, none, some}
use mathlib.Core.List.{List, [], ◌∷◌, ◌++◌}
use Prim.Native.Nat.{ℕ, ◌+◌, ◌≤◌, ◌<◌}
use native.Mathlib.Omega.{arith}
use native.Mathlib.Decide.{ℕ_discrete}
use lib.Dec.{eqb, leb, ltb}
use borrow.Author.Tests.{eq-eqb, ne_eqb, le-leb, lt-ltb, ltb-false}
use Rattle.cell.specs.Cell.{Cell, output_len, slots_of}
use Rattle.cell.specs.Design.{Design, Placed, total, is_in, cell_in}
use Rattle.cell.specs.Each.{Each}
use Rattle.cell.proofs.EachLaws.{each_map}
use Rattle.right.specs.Laid.{Run, Ascending, Laid}
use Rattle.order.specs.Verify.{new_cell_in}
use Rattle.order.proofs.Found.{placed}

abbrev pub found_at : ℕ → Option Cell → List Placed
found_at s none = []
found_at s (some a) = placed s a ∷ []

-- The new cells that the cells of an output find.
unfoldable pub in_cells : List Placed → List Placed → List Placed
in_cells reps [] = []
in_cells reps (p ∷ cells) =
    cond (eqb (output_len p.cell) 0) [] (found_at p.slot (new_cell_in reps p.slot)) ++ in_cells reps cells

-- The replacements by cells of an output.
unfoldable pub wide : List Placed → List Placed
wide [] = []
wide (r ∷ reps) = cond (eqb (output_len r.cell) 0) [] (r ∷ []) ++ wide reps

-- A replacement whose slot heads a cell of its width among cells from slot s on.
pub record Heads (cells : List Placed) (s : ℕ) (r : Placed) : Type 0 where
  pub low : s ≤ r.slot
  pub heads : (cell_in cells r.slot).slot ≡ r.slot
  pub width : output_len r.cell ≡ output_len (cell_in cells r.slot).cell

-- No replacement is found below the first.
pub none_below : (reps : List Placed) (s : ℕ) → Each (λ (r : Placed). s < r.slot) reps → new_cell_in reps s ≡ none
unfolding new_cell_in
none_below [] s h = refl
none_below (r ∷ reps) s h = rw (ne_eqb r.slot s (λ e. let l = h.0 in omega arith)) (none_below reps s h.1)

-- A replacement below all cells is passed over.
passed : (r : Placed) (reps cells : List Placed) (s e : ℕ) → r.slot < s → Run s cells e → in_cells (r ∷ reps) cells
    ≡ in_cells reps cells
unfolding in_cells new_cell_in
passed r reps [] s e l run = refl
passed r reps (p ∷ cells) s e l run =
    let at = run.0 in
    rw (
      ne_eqb r.slot p.slot (λ q. omega arith),
      passed r reps cells (s + slots_of p.cell) e (omega arith) run.1,
    )

-- Past the first cell.
beyond_first : (p : Placed) (cells : List Placed) (r : Placed) → p.slot < r.slot → Heads (p ∷ cells) p.slot r
    → Heads cells (p.slot + slots_of p.cell) r
unfolding cell_in
beyond_first p cells r l h = go (is_in p r.slot) refl
  where
    go : (b : Bool) → is_in p r.slot ≡ b → Heads cells (p.slot + slots_of p.cell) r
    go true e =
        let same : p.slot ≡ r.slot = rw e at h.heads in
        absurd (omega arith)
    go false e =
        let low : leb p.slot r.slot ≡ true = le-leb p.slot r.slot (omega arith) in
        let high : ltb r.slot (p.slot + slots_of p.cell) ≡ false = rw low at e in
        record {
          low = ltb-false r.slot (p.slot + slots_of p.cell) high;
          heads = rw e at h.heads;
          width = rw e at h.width;
        }

-- The first cell is the one that its slot finds.
first_width : (p : Placed) (cells : List Placed) (r : Placed) → r.slot ≡ p.slot → Heads (p ∷ cells) p.slot r
    → output_len r.cell ≡ output_len p.cell
unfolding cell_in
first_width p cells r e h = rw (first e) at h.width
  where
    first : r.slot ≡ p.slot → is_in p r.slot ≡ true
    first e =
        rw (le-leb p.slot r.slot (omega arith), lt-ltb r.slot (p.slot + slots_of p.cell) (omega arith))

-- Replacements above a slot.
pub above : (s : ℕ) (r : Placed) (reps : List Placed) → s ≤ r.slot → Each (λ (q : Placed). r.slot < q.slot) reps
    → Each (λ (q : Placed). s < q.slot) reps
above s r reps l h = each_map reps (λ q m. omega arith) h

module _ (p : Placed) (cells : List Placed) where
  pub later : (reps : List Placed) → Each (λ (r : Placed). p.slot < r.slot) reps →
      Each (Heads (p ∷ cells) p.slot) reps
      → Each (Heads cells (p.slot + slots_of p.cell)) reps
  later [] l h = tt
  later (r ∷ reps) l h = (beyond_first p cells r l.0 h.0, later reps l.1 h.1)

-- What is taken at the first cell: its replacement, if the first of them is.
pub at_first : (p : Placed) (r : Placed) (reps : List Placed) → r.slot ≡ p.slot → new_cell_in (r ∷ reps) p.slot
    ≡ some r.cell
unfolding new_cell_in
at_first p r reps e = rw (eq-eqb r.slot p.slot e)

cond-none : (b : Bool) → cond {A = List Placed} b [] [] ≡ []
cond-none true = refl
cond-none false = refl

pub in_order : (cells reps : List Placed) (s e : ℕ) → Run s cells e → Ascending (λ (r : Placed). r.slot) reps →
    Each (Heads cells s) reps
    → Each (λ (r : Placed). r.slot < e) reps → in_cells reps cells ≡ wide reps
unfolding in_cells wide new_cell_in
in_order [] [] s e run up h below = refl
in_order [] (r ∷ reps) s e run up h below = absurd (let l = h.0.low in let b = below.0 in omega arith)
in_order (p ∷ cells) [] s e run up h below =
    rw (cond-none (eqb (output_len p.cell) 0)) (in_order cells [] (s + slots_of p.cell) e run.1 tt tt tt)
in_order (p ∷ cells) (r ∷ reps) s e run up h below =
    go (in_order cells reps (s + slots_of p.cell) e run.1 up.1)
    (in_order cells (r ∷ reps) (s + slots_of p.cell) e run.1 up)
    (ℕ_discrete r.slot p.slot)
  where
    next : ℕ
    next = s + slots_of p.cell

    start : p.slot ≡ s
    start = run.0

    heads : Each (Heads (p ∷ cells) p.slot) (r ∷ reps)
    heads = subst (λ (k : ℕ). Each (Heads (p ∷ cells) k) (r ∷ reps)) (sym start) h

    go : (Each (Heads cells next) reps → Each (λ (r : Placed). r.slot < e) reps → in_cells reps cells ≡ wide reps)
        → (Each (Heads cells next) (r ∷ reps) → Each (λ (r : Placed). r.slot < e) (r ∷ reps) → in_cells (r ∷ reps) cells
        ≡ wide (r ∷ reps))
        → Dec (r.slot ≡ p.slot) → in_cells (r ∷ reps) (p ∷ cells) ≡ wide (r ∷ reps)
    go same more (yes q) =
        let rest = same (subst (λ (k : ℕ). Each (Heads cells (k + slots_of p.cell)) reps) start
        (later p cells reps (above p.slot r reps (omega arith) up.0) heads.1)) below.1 in
        rw (
          at_first p r reps q,
          passed r reps cells next e (omega arith) run.1,
          rest,
          ← first_width p cells r q heads.0,
          ← q,
        )
    go same more (no q) =
        let l : p.slot < r.slot = (let k = heads.0.low in omega arith) in
        let up_from : Each (λ (t : Placed). p.slot < t.slot) (r ∷ reps) =
        (l, above p.slot r reps (omega arith) up.0) in
        rw (none_below (r ∷ reps) p.slot up_from, cond-none (eqb (output_len p.cell) 0))
        (more (subst (λ (k : ℕ). Each (Heads cells (k + slots_of p.cell)) (r ∷ reps)) start
        (later p cells (r ∷ reps) up_from heads)) below)

-- For an accepted design.
pub design_in_order : (d : Design) → Laid d → in_cells d.cell_reps d.cells ≡ wide d.cell_reps
design_in_order d laid =
    in_order d.cells d.cell_reps 0 (total d) laid.run laid.slots
    (each_map d.cell_reps (λ r m. record { low = omega arith; heads = m.heads; width = m.width }) laid.replaces)
    (each_map d.cell_reps (λ r m. let b = m.base in omega arith) laid.replaces)
