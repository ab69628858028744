-- Laws of the definitions of Accepted.
use Prim.Native.Nat.{ℕ, ◌+◌, ◌≤◌}
use mathlib.Core.Path.{◌≡◌, refl}
use mathlib.Core.Bool.{Bool, true, false, cond}
use mathlib.Core.List.{List}
use native.Mathlib.Omega.{arith}
use lib.ListN.{length}
use lib.Dec.{ltb, eqb}
use borrow.Author.Tests.{ltb-false, eqb-true}
use Rattle.std.specs.Prelude.{Result, Ok, Err}
use Rattle.logic.specs.declared.Fault.{Fault}
use Rattle.cell.specs.Design.{Placed, Design}
use Rattle.cell.specs.declared.Mode.{Mode}
use Rattle.fields.specs.Field.{fault, on_read}
use Rattle.items.specs.declared.Header.{Header}
use Rattle.placing.specs.Slots.{at_slot, is_void}
use Rattle.items.specs.Items.{header_at, replaces, cell_reps_from, net_reps_from, finish_at}
use Rattle.placing.specs.Cells.{cells_of}
use Rattle.voids.specs.Voids.{voids_at}
use Rattle.design_list.specs.Read.{Read, refused, accepted, read_net_reps, read_cell_reps}
use Rattle.design_list.specs.Read.{read_cells, read}
use Rattle.items.proofs.Laws.{header_read}
use Rattle.design_list.specs.Accepted.{IsAccepted}

-- A stage was clean, and what follows it was accepted.
record Onward (s : Result ℕ Fault) (f : ℕ → Read) (d : Design) (replacements pairs : ℕ) : Type 0 where
  place : ℕ
  clean : s ≡ Ok place
  rest : f place ≡ accepted d replacements pairs

onward : (s : Result ℕ Fault) (f : ℕ → Read) {d : Design} {replacements pairs : ℕ} →
    on_read s refused f ≡ accepted d replacements pairs → Onward s f d replacements pairs
onward (Ok n) f e = record { place = n; clean = refl; rest = e }
onward (Err g) f e = let z : ◌≡◌ {A = ℕ} 0 1 = cc in absurd (omega arith)

moved :
    (mode : Mode) (w : List ℕ) {d d' : Design} {r r' p p' : ℕ} → accepted d r p ≡ accepted d' r' p' →
    IsAccepted mode w d r p →
    IsAccepted mode w d' r' p'
moved mode w {d} {d'} {r} {r'} {p} {p'} e is =
    let same-d : d ≡ d' = cc in
    let same-r : r ≡ r' = cc in
    let same-p : p ≡ p' = cc in
    rw same-p at (rw same-r at (rw same-d at is))

finish_read : (w : List ℕ) (at : ℕ) {next : ℕ} → finish_at w at ≡ Ok next → at ≡ length w
unfolding finish_at
finish_read w at {next} e = go (eqb at (length w)) refl e
  where
    go : (b : Bool) → eqb at (length w) ≡ b → cond b (Ok at) (Err (fault 1 at)) ≡ Ok next →
        at ≡ length w
    go true b e = eqb-true _ _ b
    go false b e = let z : ◌≡◌ {A = ℕ} 0 1 = cc in absurd (omega arith)

module _ (mode : Mode) (w : List ℕ) (h : Header) (short : length w ≤ 16384) (long : 4 ≤ length w)
    (head : header_at w ≡ Ok h) where
  cells : List Placed
  cells = (cells_of w h.base (h.base + h.added)).items

  reps : ℕ → List Placed
  reps replacements =
      (cell_reps_from w (h.base + h.added) (replaces (at_slot cells) h.base) h.cellreps 0 replacements).items

  design : ℕ → ℕ → Design
  design pairs replacements = record {
    mode = mode;
    base = h.base;
    added = h.added;
    cells = cells;
    cell_reps = reps replacements;
    net_reps = (net_reps_from w (h.base + h.added) h.netreps 0 pairs).items;
  }

  cells-accepted : {d : Design} {replacements pairs : ℕ} → read_cells mode w h ≡ accepted d replacements pairs →
      IsAccepted mode w d replacements pairs
  unfolding cells reps design read_cells read_cell_reps read_net_reps
  cells-accepted {d} {replacements} {pairs} e =
      let after-cells = onward (cells_of w h.base (h.base + h.added)).scan _ e in
      let after-reps =
      onward
      (cell_reps_from w (h.base + h.added) (replaces (at_slot cells) h.base) h.cellreps 0 after-cells.place
      ).scan _ after-cells.rest in
      let after-pairs =
      onward (net_reps_from w (h.base + h.added) h.netreps 0 after-reps.place).scan _ after-reps.rest in
      let after-end = onward (finish_at w after-pairs.place) _ after-pairs.rest in
      let after-voids =
      onward (voids_at w (is_void cells h.base) (length cells) h.cellreps h.netreps) _ after-end.rest in
      moved mode w after-voids.rest
      (let whole : IsAccepted mode w (design after-reps.place after-cells.place) after-cells.place
      after-reps.place = record {
        header = h;
        end = after-pairs.place;
        last = after-voids.place;
        short = short;
        long = long;
        low = header_read w head;
        header_read = head;
        same-mode = refl;
        same_base = refl;
        same-added = refl;
        cells-read = after-cells.clean;
        cells_are = refl;
        reps_read = after-reps.clean;
        reps_are = refl;
        pairs-read = after-pairs.clean;
        pairs_are = refl;
        ended = finish_read w after-pairs.place after-end.clean;
        voids-read = after-voids.clean;
      } in whole)

pub accepted-read : (mode : Mode) (w : List ℕ) {d : Design} {replacements pairs : ℕ} →
    read mode w ≡ accepted d replacements pairs → IsAccepted mode w d replacements pairs
unfolding read
accepted-read mode w {d} {replacements} {pairs} e = go (ltb 16384 (length w)) (ltb (length w) 4) refl refl e
  where
    opened :
        length w ≤ 16384 → 4 ≤ length w → (o : Result Header Fault) → header_at w ≡ o →
        on_read o refused (read_cells mode w) ≡ accepted d replacements pairs →
        IsAccepted mode w d replacements pairs
    opened short long (Err f) o e = let z : ◌≡◌ {A = ℕ} 0 1 = cc in absurd (omega arith)
    opened short long (Ok h) o e = cells-accepted mode w h short long o e

    go :
        (over under : Bool) → ltb 16384 (length w) ≡ over → ltb (length w) 4 ≡ under →
        cond over (refused (fault 4 16384))
        (cond under (refused (fault 1 (length w))) (on_read (header_at w) refused (read_cells mode w)))
        ≡ accepted d replacements pairs → IsAccepted mode w d replacements pairs
    go true under o u e = let z : ◌≡◌ {A = ℕ} 0 1 = cc in absurd (omega arith)
    go false true o u e = let z : ◌≡◌ {A = ℕ} 0 1 = cc in absurd (omega arith)
    go false false o u e = opened (ltb-false _ _ o) (ltb-false _ _ u) (header_at w) refl e
