-- How many obligations an accepted list has: at most one for each cell and two for each net replacement, so at most
-- 12,288.
use mathlib.Core.Path.{◌≡◌, refl, ap, ◌∙◌}
use mathlib.Core.Bool.{Bool, true, false, cond}
use mathlib.Core.Option.{Option, none, some}
use mathlib.Core.List.{List, [], ◌∷◌}
use Prim.Native.Nat.{ℕ, ◌+◌, ◌*◌, ◌-◌, ◌≤◌}
use native.Mathlib.Omega.{arith}
use lib.Dec.{eqb}
use lib.ListN.{length, take}
use lib.Seq.{sets-eq, take_at}
use Rattle.std.specs.Prelude.{Result, Ok, Err}
use Rattle.logic.specs.declared.Fault.{Fault}
use Rattle.cell.specs.declared.Mode.{Mode}
use Rattle.cell.specs.declared.Mode.TheVariants.{Ported, Inductive}
use Rattle.cell.specs.Cell.{Cell, output_len, slots_of}
use Rattle.cell.specs.Design.{Design, Placed, NetPair, total}
use Rattle.right.specs.Laid.{Run}
use Rattle.fields.specs.Field.{on_number, number_at}
use Rattle.fields.proofs.AcceptedLaws.{number_read}
use Rattle.items.specs.declared.Header.{Header}
use Rattle.items.specs.Items.{counts_at, header_at, net_pair, pair_at}
use Rattle.design_list.specs.Read.{read, accepted}
use Rattle.design_list.proofs.AcceptedLaws.{accepted-read}
use Rattle.working_out.specs.Reading.{Pair, equal, of_void, of_dffs, ordinary, reads_past, pair_of}
use Rattle.accepted.proofs.Replacements.{climb_read, IsPair, pair_read}
use Rattle.accepted.proofs.Laid.{accepted-laid}
use Rattle.order.specs.Verify.{Step, add_cell, with_new, cell_steps, pair_steps, each_cell, each_pair, steps, new_cell_in}
use Rattle.net_pairs.specs.Does.{obliged_in, Kept}
use Rattle.walk.specs.Works.{most_obligations}
use Rattle.walk_cell.specs.Steps.{steps_at}
use Rattle.net_pairs.proofs.Does.{obliged_append}
use Rattle.walk_cell.proofs.Steps.{added_none}

-- ---- how many obligations

cell_obliges : (past : ℕ → Bool) (slot width : ℕ) (a : Cell) (new : Option Cell) →
    obliged_in (steps_at past slot width a new) ≤ 1
unfolding obliged_in
cell_obliges past slot width a new = go (eqb width 0) new
  where
    first : Step
    first = add_cell past slot width a

    more : (new : Option Cell) → obliged_in (with_new past slot width new) ≤ 1
    more none = omega arith
    more (some b) = omega arith

    go : (b : Bool) (new : Option Cell) → obliged_in (cond b [] (first ∷ with_new past slot width new)) ≤ 1
    go true new = omega arith
    go false new =
        let quiet : obliged_in (first ∷ []) ≡ 0 = added_none past slot a width in
        let split = obliged_append (first ∷ []) (with_new past slot width new) in
        let few = more new in
        omega arith

pair_obliges : (past : ℕ → Bool) (mode : Mode) (kind : Pair) (p : NetPair) → obliged_in (pair_steps past mode kind p) ≤ 2
unfolding obliged_in
pair_obliges past mode equal p = omega arith
pair_obliges past mode of_void p = omega arith
pair_obliges past Ported of_dffs p = omega arith
pair_obliges past Inductive of_dffs p = omega arith
pair_obliges past mode ordinary p = omega arith

cells_oblige : (d : Design) (cells : List Placed) → obliged_in (each_cell d cells) ≤ length cells
unfolding obliged_in each_cell
cells_oblige d [] = omega arith
cells_oblige d (p ∷ cells) =
    let first =
    cell_obliges (reads_past d) p.slot (output_len p.cell) p.cell (new_cell_in d.cell_reps p.slot) in
    let more = cells_oblige d cells in
    rw (obliged_append (cell_steps d p) (each_cell d cells)) (omega arith)

pairs_oblige : (d : Design) (pairs : List NetPair) → obliged_in (each_pair d pairs) ≤ 2 * length pairs
unfolding obliged_in each_pair
pairs_oblige d [] = omega arith
pairs_oblige d (p ∷ pairs) =
    let first = pair_obliges (reads_past d) d.mode (pair_of d p) p in
    let more = pairs_oblige d pairs in
    rw (obliged_append (pair_steps (reads_past d) d.mode (pair_of d p) p) (each_pair d pairs)) (omega arith)

-- ---- how many cells and pairs

run_length : (s e : ℕ) (cells : List Placed) → Run s cells e → s + length cells ≤ e
run_length s e [] run = omega arith
run_length s e (p ∷ cells) run = let more = run_length (s + slots_of p.cell) e cells run.1 in omega arith

-- A header that was read has at most 4,096 net replacements.
header-pairs : (w : List ℕ) {h : Header} → header_at w ≡ Ok h → h.netreps ≤ 4096
unfolding header_at counts_at
header-pairs w {h} read = base_read (number_at w 4096 4 0) read
  where
    counts : (base added : ℕ) (n₁ n₂ : Result (ℕ × ℕ) Fault) → number_at w 4096 4 3 ≡ n₂ →
        on_number n₁ Err (λ (cellreps _ : ℕ). on_number n₂ Err (λ (netreps _ : ℕ).
        Ok record { base = base; added = added; cellreps = cellreps; netreps = netreps })) ≡ Ok h →
        h.netreps ≤ 4096
    counts base added (Err f) n₂ n e = let z : ◌≡◌ {A = ℕ} 0 1 = cc in absurd (omega arith)
    counts base added (Ok (a, b)) (Err f) n e = let z : ◌≡◌ {A = ℕ} 0 1 = cc in absurd (omega arith)
    counts base added (Ok (a, b)) (Ok (k, next)) n e =
        let same : record { base = base; added = added; cellreps = a; netreps = k } ≡ h = cc in
        rw (← same) (number_read w 4096 4 3 n).bounded

    added-read : (base : ℕ) (n : Result (ℕ × ℕ) Fault) → on_number n Err (λ (added _ : ℕ). counts_at w base added) ≡ Ok h →
        h.netreps ≤ 4096
    added-read base (Err f) e = let z : ◌≡◌ {A = ℕ} 0 1 = cc in absurd (omega arith)
    added-read base (Ok (added, next)) e = counts base added (number_at w 4096 4 2) (number_at w 4096 4 3) refl e

    base_read : (n : Result (ℕ × ℕ) Fault) →
        on_number n Err (λ (base _ : ℕ).
        on_number (number_at w (4096 - base) 4 1) Err (λ (added _ : ℕ). counts_at w base added)) ≡ Ok h →
        h.netreps ≤ 4096
    base_read (Err f) e = let z : ◌≡◌ {A = ℕ} 0 1 = cc in absurd (omega arith)
    base_read (Ok (base, next)) e = added-read base (number_at w (4096 - base) 4 1) e

module _ (mode : Mode) (w : List ℕ) {d : Design} {replacements pairs : ℕ}
    (accepts : read mode w ≡ accepted d replacements pairs) where
  pub obligations-few : obliged_in (steps d) ≤ most_obligations d
  obligations-few =
      let cells = run_length 0 (total d) d.cells (accepted-laid mode w accepts).run in
      let first = cells_oblige d d.cells in
      let then = pairs_oblige d d.net_reps in
      rw (obliged_append (each_cell d d.cells) (each_pair d d.net_reps)) (omega arith)

  -- At most 4,096 slots and as many net replacements.
  pub most_low : most_obligations d ≤ 12288
  most_low =
      let is = accepted-read mode w accepts in
      let slots = is.low in
      let run =
      climb_read (IsPair w (total d)) (net_pair w) (pair_at w (total d)) (pair_read w (total d)) is.header.netreps
      0 pairs is.end is.pairs-read in
      let few : length d.net_reps ≡ is.header.netreps = ap length is.pairs_are ∙ run.many in
      let low = header-pairs w is.header_read in
      omega arith

-- The terms kept from 0 on are the first words of the table.
pub kept-first : {eqs terms eqs' : List ℕ} {n : ℕ} → Kept eqs 0 terms eqs' n → length terms ≤ length eqs → take n eqs'
    ≡ terms
kept-first {eqs} {terms} {eqs'} {n} kept room =
    let many = kept.many in
    rw (kept.words, sets-eq terms eqs 0 (omega arith)) (take_at terms _ n (omega arith))
