-- The loop over the cells: where it stands, and that the steps that are left complete those of all cells; and both
-- loops together.
use mathlib.Core.Path.{◌≡◌}
use mathlib.Core.Bool.{true}
use mathlib.Core.List.{List}
use Prim.Native.Nat.{ℕ, ◌+◌, ◌%◌, ◌≤◌, ◌<◌, max}
use native.Mathlib.Omega.{arith}
use lib.ListN.{length}
use Rattle.cell.specs.declared.Mode.{Mode}
use Rattle.cell.specs.Design.{Design, total}
use Rattle.cell_reader.specs.Parse.{cell_at, end_at}
use Rattle.design_list.specs.Read.{read, accepted}
use Rattle.builder.specs.declared.Counts.{Counts}
use Rattle.nets.specs.Reads.{past_in}
use Rattle.order.specs.Verify.{each_cell, each_pair, steps}
use Rattle.slots.specs.Tells.{width_in, Tells}
use Rattle.net_pairs.specs.declared.Walked.{Walked}
use Rattle.net_pairs.specs.Does.{obliged_in, Does}
use Rattle.walk.specs.Works.{most_obligations, Works}
use Rattle.replaced_cells.specs.Cursor.{is_next, new_at, rep_after, Readable}
use Rattle.walk_cell.specs.Steps.{steps_at}
use Rattle.net_pairs.proofs.Does.{does_append, Left, left-start, left_turn, left_end}
use Rattle.walk.proofs.Cells.{Place, place-start, here-cell, here-new, cell_turn, cells-end}
use Rattle.walk.proofs.Room.{obligations-few, kept-first}

-- Along the cells.
pub record Along (d : Design) (w table : List ℕ) (replacements pairs slot at rep : ℕ)
    (calls₀ names₀ marks₀ eqs₀ : List ℕ) (s₀ : Walked) (calls names marks eqs : List ℕ) (s : Walked) : Type 0 where
  pub place : Place d w table replacements pairs slot at rep
  pub left : Left (each_cell d d.cells) (each_cell d place.cells) calls₀ names₀ marks₀ eqs₀ s₀ calls names marks eqs
      s

module _ (mode : Mode) (w : List ℕ) {table : List ℕ} {d : Design} {replacements pairs : ℕ}
    (accepts : read mode w ≡ accepted d replacements pairs) (tells : Tells d table) where
  pub along_start : (calls names marks eqs : List ℕ) (s : Walked)
      → Along d w table replacements pairs 0 4 replacements calls names marks eqs s calls names marks eqs s
  unfolding place-start
  along_start calls names marks eqs s =
      record { place = place-start mode w accepts tells; left = left-start _ calls names marks eqs s }

  pub along_turn : {slot at rep : ℕ}
      {calls₀ names₀ marks₀ eqs₀ calls names marks eqs calls₁ names₁ marks₁ eqs₁ : List ℕ} {s₀ s s₁ : Walked}
      → Along d w table replacements pairs slot at rep calls₀ names₀ marks₀ eqs₀ s₀ calls names marks eqs s →
      slot < total d
      → Does (steps_at (past_in table) slot (width_in table slot) (cell_at w at) (new_at w pairs rep slot)) calls names marks
      eqs s calls₁ names₁ marks₁ eqs₁ s₁
      → Along d w table replacements pairs (slot + max 1 (width_in table slot)) (end_at w at) (rep_after w pairs rep slot)
      calls₀ names₀ marks₀ eqs₀ s₀ calls₁ names₁ marks₁ eqs₁ s₁
  along_turn {slot} {at} {rep} along inside does =
      let turn = cell_turn mode w accepts tells along.place inside in
      record {
        place = turn.next;
        left = left_turn (steps_at (past_in table) slot (width_in table slot) (cell_at w at) (new_at w pairs rep slot))
            (each_cell d turn.next.cells)
            (rw turn.step at along.left) does;
      }

  -- A turn in the code's terms: the slot's number is the index, and what each call answers.
  pub along_step : {index number k at at₁ rep rep₁ : ℕ}
      {calls₀ names₀ marks₀ eqs₀ calls names marks eqs calls₁ names₁ marks₁ eqs₁ : List ℕ} {s₀ s s₁ : Walked}
      → Along d w table replacements pairs index at rep calls₀ names₀ marks₀ eqs₀ s₀ calls names marks eqs s →
      index < total d → number ≡ index % 4294967296
      → (Readable w at → (is_next w pairs rep number ≡ true → Readable w (rep + 1)) → width_in table number ≤ 64 →
      number + width_in table number + 1 < 536870911
      → Does (steps_at (past_in table) number (width_in table number) (cell_at w at) (new_at w pairs rep number)) calls names
      marks eqs s calls₁ names₁ marks₁ eqs₁ s₁)
      → (at < length w → at₁ ≡ end_at w at)
      → ((is_next w pairs rep number ≡ true → Readable w (rep + 1)) → rep₁ ≡ rep_after w pairs rep number) → k
      ≡ max 1 (width_in table number)
      → Along d w table replacements pairs (index + k) at₁ rep₁ calls₀ names₀ marks₀ eqs₀ s₀ calls₁ names₁ marks₁ eqs₁
      s₁
  along_step {index} {number} {k} {at} {at₁} {rep} {rep₁} along inside same does next after size =
      let here = here-cell mode w accepts tells along.place inside in
      let last = here.after in
      let is : number ≡ index = omega arith in
      let new = here-new mode w accepts tells along.place in
      let low = here.narrow in
      let step = rw is at (does here.readable (rw is new) (rw is low) (rw is (omega arith))) in
      rw (rw is at size, next here.readable.inside, rw is at (after (rw is new))) (along_turn along inside step)

  pub along_end : {slot at rep : ℕ} {calls₀ names₀ marks₀ eqs₀ calls names marks eqs : List ℕ} {s₀ s : Walked}
      → Along d w table replacements pairs slot at rep calls₀ names₀ marks₀ eqs₀ s₀ calls names marks eqs s →
      total d ≤ slot
      → Does (each_cell d d.cells) calls₀ names₀ marks₀ eqs₀ s₀ calls names marks eqs s
  along_end along past = left_end (rw (cells-end mode w accepts tells along.place past) at along.left)

-- The cells and then the net replacements are the whole order of work, and the obligations' terms stand first in the
-- table.
pub works : (mode : Mode) (w : List ℕ) {d : Design} {replacements pairs : ℕ} →
    read mode w ≡ accepted d replacements pairs →
    {calls names marks eqs calls₁ names₁ marks₁ eqs₁ calls₂ names₂ marks₂ eqs₂ : List ℕ} {c : Counts} {s₁ s₂ : Walked}
    → Does (each_cell d d.cells) calls names marks eqs (record { counts = c; obligations = 0 }) calls₁ names₁ marks₁
    eqs₁ s₁
    → Does (each_pair d d.net_reps) calls₁ names₁ marks₁ eqs₁ s₁ calls₂ names₂ marks₂ eqs₂ s₂
    → Works d calls names marks eqs c calls₂ names₂ marks₂ eqs₂ s₂
works mode w {d} accepts {eqs = eqs} cells pairs =
    let whole = does_append (each_cell d d.cells) (each_pair d d.net_reps) cells pairs in
    let few : obliged_in (steps d) ≤ most_obligations d = obligations-few mode w accepts in
    let many = whole.many in
    record {
      terms = whole.terms;
      did = whole.did;
      first = λ room. kept-first (whole.kept (omega arith)) (omega arith);
      few = λ room. let kept = (whole.kept (omega arith)).many in omega arith;
    }
