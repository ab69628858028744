-- Where the walk stands among the cells of an accepted list: the cells that are left and the cell replacements that are
-- left, which are those at or above the slot (they ascend, and each heads a base cell). A turn takes one cell, and with
-- it the next replacement if that is the cell's.
use mathlib.Core.Path.{◌≡◌, refl, sym, ◌∙◌}
use mathlib.Core.Bool.{true}
use mathlib.Core.List.{List, [], ◌∷◌, ◌++◌}
use Prim.Native.Nat.{ℕ, ◌+◌, ◌≤◌, ◌<◌, max}
use native.Mathlib.Omega.{arith}
use native.Mathlib.Decide.{ℕ_discrete}
use borrow.Author.Tests.{eq-eqb, ne_eqb, lt-ltb, le-ltb}
use Rattle.cell.specs.declared.Mode.{Mode}
use Rattle.cell.specs.Cell.{Cell, output_len, slots_of}
use Rattle.cell.specs.Design.{Design, Placed, total}
use Rattle.cell.specs.declared.Operation.{Operation}
use Rattle.cell.specs.Each.{Each}
use Rattle.cell.proofs.EachLaws.{each_map}
use Rattle.right.specs.Laid.{Ascending}
use Rattle.cell_reader.specs.Parse.{number_in, cell_at, end_at}
use Rattle.cell_reader.specs.Accepted.{IsRecord}
use Rattle.placing.specs.Slots.{at_slot}
use Rattle.items.specs.Items.{new_cell}
use Rattle.placing.proofs.Laws.{limit_low}
use Rattle.placing.specs.Cover.{Walk, done, placed}
use Rattle.design_list.specs.Read.{read, accepted}
use Rattle.design_list.proofs.AcceptedLaws.{accepted-read}
use Rattle.accepted.proofs.Cells.{cell-read}
use Rattle.accepted.proofs.Replacements.{Climb, climb_ascends, IsReplacement}
use Rattle.accepted.proofs.Replacements as R
use Rattle.accepted.proofs.Laid.{stages, accepted-laid}
use Rattle.nets.specs.Reads.{past_in}
use Rattle.order.specs.Verify.{each_cell, new_cell_in}
use Rattle.order.proofs.Replacements.{Heads, none_below, above, later}
use Rattle.slots.specs.Tells.{width_in, Tells}
use Rattle.slots.proofs.Laws.{tells-past}
use Rattle.replaced_cells.specs.Cursor.{is_next, new_at, rep_after, Readable}
use Rattle.replaced_cells.proofs.CursorLaws.{next-inside}
use Rattle.walk_cell.specs.Steps.{steps_at}

-- The cell replacements from a place up to `end`, the slots of their cells from `least` on.
abbrev pub NewCells : Design → List ℕ → ℕ → ℕ → List Placed → ℕ → Type 0
NewCells d w = Climb (IsReplacement w (total d) (at_slot d.cells) d.base) (new_cell w)

-- The replacements from a place on are all that are left for the cells from a slot on: each heads one of them.
pub record Cursor (d : Design) (w : List ℕ) (end : ℕ) (cells : List Placed) (slot rep : ℕ) : Type 0 where
  pub reps : List Placed
  pub least : ℕ
  pub climb : NewCells d w least rep reps end
  pub headed : Each (Heads cells slot) reps
  pub same : (i : ℕ) → slot ≤ i → new_cell_in d.cell_reps i ≡ new_cell_in reps i

-- A record that was read.
pub readable : {w : List ℕ} {total at : ℕ} {op : Operation} {width next : ℕ} → IsRecord w total at op width next →
    Readable w at
readable is =
    let ends = is.ends in
    let fits = is.fits in
    record { inside = is.inside; ends = omega arith; bounded = (cell-read is).bounded; shaped = (cell-read is).shaped }

module _ (d : Design) (w : List ℕ) where
  -- Every replacement takes a place.
  reps_low : {least rep end : ℕ} {reps : List Placed} → NewCells d w least rep reps end → rep ≤ end
  reps_low (R.done ended) = omega arith
  reps_low (R.taken is rest) = let low = reps_low rest in let ends = is.record_is.ends in omega arith

  reps_ascend : {least rep end : ℕ} {reps : List Placed} → NewCells d w least rep reps end →
      Ascending (λ (q : Placed). q.slot) reps
  reps_ascend climb =
      (climb_ascends _ _ (λ (q : Placed). q.slot) (λ least at above next is. (is.replaced.ascends, is.up)) climb).1

  module _ (end : ℕ) (a : Cell) (cells : List Placed) (slot : ℕ) where
    abbrev here : Placed
    here = record { slot = slot; cell = a }

    -- The replacement that is found for the first cell is the next one, if that has its slot.
    next_found : {least rep : ℕ} {reps : List Placed} → NewCells d w least rep reps end →
        Each (Heads (here ∷ cells) slot) reps
        → new_cell_in reps slot ≡ new_at w end rep slot
    unfolding new_cell_in
    next_found (R.done {at = rep} ended) headed = rw (le-ltb rep end (omega arith))
    next_found (R.taken {at = rep} {items = reps} is rest) headed = go (ℕ_discrete (number_in w rep) slot)
      where
        inside : rep < end
        inside = let low = reps_low rest in let ends = is.record_is.ends in omega arith

        up : Each (λ (q : Placed). number_in w rep < q.slot) reps
        up = (reps_ascend (R.taken is rest)).0

        go : Dec (number_in w rep ≡ slot) → new_cell_in (new_cell w rep ∷ reps) slot ≡ new_at w end rep slot
        go (yes e) = rw (lt-ltb rep end inside, eq-eqb (number_in w rep) slot e)
        go (no n) =
            let low = headed.0.low in
            let higher : Each (λ (q : Placed). slot < q.slot) (new_cell w rep ∷ reps) =
            (omega arith, above slot (new_cell w rep) reps (omega arith) up) in
            rw (lt-ltb rep end inside, ne_eqb (number_in w rep) slot n) (none_below reps slot higher.1)

    -- Past the first cell: the next replacement is taken if it has the cell's slot; those left head the later cells.
    cursor_in : {least rep : ℕ} {reps : List Placed} → NewCells d w least rep reps end →
        Each (Heads (here ∷ cells) slot) reps
        → ((i : ℕ) → slot ≤ i → new_cell_in d.cell_reps i ≡ new_cell_in reps i) →
        Cursor d w end cells (slot + slots_of a) (rep_after w end rep slot)
    unfolding new_cell_in
    cursor_in (R.done {least = least} {at = rep} ended) headed same =
        rw (le-ltb rep end (omega arith)) record {
          reps = [];
          least = least;
          climb = R.done ended;
          headed = tt;
          same = λ i low. same i (omega arith);
        }
    cursor_in (R.taken {least = least} {at = rep} {above = top} {next = next} {items = reps} is rest) headed same =
        go (ℕ_discrete (number_in w rep) slot)
      where
        inside : rep < end
        inside = let low = reps_low rest in let ends = is.record_is.ends in omega arith

        up : Each (λ (q : Placed). number_in w rep < q.slot) reps
        up = (reps_ascend (R.taken is rest)).0

        go : Dec (number_in w rep ≡ slot) → Cursor d w end cells (slot + slots_of a) (rep_after w end rep slot)
        go (yes e) =
            rw (lt-ltb rep end inside, eq-eqb (number_in w rep) slot e, ← is.record_is.ends) record {
              reps = reps;
              least = top;
              climb = rest;
              headed = later here cells reps (above slot (new_cell w rep) reps (omega arith) up) headed.1;
              same = λ i low. same i (omega arith) ∙ rw (ne_eqb (number_in w rep) i (λ f. omega arith));
            }
        go (no n) =
            let low = headed.0.low in
            rw (lt-ltb rep end inside, ne_eqb (number_in w rep) slot n) record {
              reps = new_cell w rep ∷ reps;
              least = least;
              climb = R.taken is rest;
              headed = later here cells (new_cell w rep ∷ reps)
                  (omega arith, above slot (new_cell w rep) reps (omega arith) up) headed;
              same = λ i low. same i (omega arith);
            }

    pub new-cell-is : {rep : ℕ} → Cursor d w end (here ∷ cells) slot rep → new_cell_in d.cell_reps slot
        ≡ new_at w end rep slot
    new-cell-is cursor = cursor.same slot (omega arith) ∙ next_found cursor.climb cursor.headed

    pub cursor_turn : {rep : ℕ} → Cursor d w end (here ∷ cells) slot rep →
        Cursor d w end cells (slot + slots_of a) (rep_after w end rep slot)
    cursor_turn cursor = cursor_in cursor.climb cursor.headed cursor.same

-- ---- the cells and the cursor together

-- The cells from a slot and a place on, each as wide as the slot table says, and the cursor of the replacements.
pub record Place (d : Design) (w table : List ℕ) (replacements pairs slot at rep : ℕ) : Type 0 where
  pub cells : List Placed
  pub walk : Walk w d.base (total d) slot at cells replacements
  pub widths : Each (λ (p : Placed). width_in table p.slot ≡ output_len p.cell) cells
  pub cursor : Cursor d w pairs cells slot rep

-- Where a cell is left: its record, and its slots.
pub record Here (w table : List ℕ) (slot at : ℕ) : Type 0 where
  pub readable : Readable w at
  pub narrow : width_in table slot ≤ 64
  pub after : slot + max 1 (width_in table slot) ≤ 4096

module _ (mode : Mode) (w : List ℕ) {table : List ℕ} {d : Design} {replacements pairs : ℕ}
    (accepts : read mode w ≡ accepted d replacements pairs) (tells : Tells d table) where
  unfoldable pub place-start : Place d w table replacements pairs 0 4 replacements
  place-start =
      let all = stages (accepted-read mode w accepts) in
      let laid = accepted-laid mode w accepts in
      record {
        cells = d.cells;
        walk = all.walk;
        widths = tells.widths;
        cursor = record {
          reps = d.cell_reps;
          least = 0;
          climb = all.reps;
          headed = each_map d.cell_reps (λ r m. record { low = omega arith; heads = m.heads; width = m.width })
              laid.replaces;
          same = λ i low. refl;
        };
      }

  here_in : {slot at : ℕ} {cells : List Placed} → Walk w d.base (total d) slot at cells replacements
      → Each (λ (p : Placed). width_in table p.slot ≡ output_len p.cell) cells → slot < total d →
      Here w table slot at
  here_in (done full ended) widths inside = absurd (omega arith)
  here_in {slot} {at} (placed {width = width} inside' is more) widths inside =
      let rec = is.record_is in
      let same : width_in table slot ≡ width = widths.0 ∙ sym rec.same_width in
      let last = limit_low w d.base (total d) slot (omega arith) is.within in
      record {
        readable = readable rec;
        narrow = let low = rec.low-width in omega arith;
        after = let ends = is.ends in let low = (accepted-read mode w accepts).low in omega arith;
      }

  pub here-cell : {slot at rep : ℕ} → Place d w table replacements pairs slot at rep → slot < total d →
      Here w table slot at
  here-cell place inside = here_in place.walk place.widths inside

  new_in : {least rep : ℕ} {reps : List Placed} → NewCells d w least rep reps pairs → rep < pairs → Readable w (rep + 1)
  new_in (R.done ended) inside = absurd (omega arith)
  new_in (R.taken is rest) inside = readable is.record_is

  pub here-new : {slot at rep : ℕ} → Place d w table replacements pairs slot at rep → is_next w pairs rep slot ≡ true →
      Readable w (rep + 1)
  here-new {slot} {at} {rep} place next = new_in place.cursor.climb (next-inside w pairs rep slot next)

  -- A turn: the steps of the first cell that is left, and the place after it.
  pub record Turn (cells : List Placed) (slot at rep : ℕ) : Type 0 where
    pub next : Place d w table replacements pairs (slot + max 1 (width_in table slot)) (end_at w at)
        (rep_after w pairs rep slot)
    pub step : each_cell d cells
        ≡ steps_at (past_in table) slot (width_in table slot) (cell_at w at) (new_at w pairs rep slot) ++ each_cell d
        next.cells

  turn_in : {slot at rep : ℕ} {cells : List Placed} → Walk w d.base (total d) slot at cells replacements
      → Each (λ (p : Placed). width_in table p.slot ≡ output_len p.cell) cells → Cursor d w pairs cells slot rep →
      slot < total d
      → Turn cells slot at rep
  unfolding each_cell
  turn_in (done full ended) widths cursor inside = absurd (omega arith)
  turn_in {slot} {at} {rep} (placed {width = width} {after = after} {next = next} {cells = cells} inside' is more)
      widths cursor inside =
      let rec = is.record_is in
      let same : width_in table slot ≡ output_len (cell_at w at) = widths.0 in
      let wide : width ≡ width_in table slot = rec.same_width ∙ sym same in
      record {
        next = record {
          cells = cells;
          walk = rw (← wide, ← is.ends, ← rec.ends) more;
          widths = widths.1;
          cursor = rw same (cursor_turn d w pairs (cell_at w at) cells slot cursor);
        };
        step = rw (tells-past tells, same, ← new-cell-is d w pairs (cell_at w at) cells slot cursor);
      }

  pub cell_turn : {slot at rep : ℕ} (place : Place d w table replacements pairs slot at rep) → slot < total d →
      Turn place.cells slot at rep
  cell_turn place inside = turn_in place.walk place.widths place.cursor inside

  end_in : {slot at : ℕ} {cells : List Placed} → Walk w d.base (total d) slot at cells replacements → total d ≤ slot
      → each_cell d cells ≡ []
  unfolding each_cell
  end_in (done full ended) past = refl
  end_in (placed inside is more) past = absurd (omega arith)

  pub cells-end : {slot at rep : ℕ} (place : Place d w table replacements pairs slot at rep) → total d ≤ slot →
      each_cell d place.cells ≡ []
  cells-end place past = end_in place.walk past
