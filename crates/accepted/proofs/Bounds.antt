-- The design that an accepted list stands for keeps document 01's bounds, and its words are the list's.
use mathlib.Core.Path.{◌≡◌}
use mathlib.Core.List.{List}
use Prim.Native.Nat.{ℕ, ◌+◌}
use native.Mathlib.Omega.{arith}
use lib.ListN.{length}
use Rattle.cell.specs.declared.Mode.{Mode}
use Rattle.cell.specs.Design.{Placed, NetPair, Design, total}
use Rattle.cell.specs.declared.Operation.{Operation}
use Rattle.right.specs.Bounds.{Bounded, Bounds}
use Rattle.cell_reader.specs.Parse.{cell_at}
use Rattle.cell_reader.specs.Accepted.{IsRecord}
use Rattle.placing.specs.Cover.{Walk, done, placed}
use Rattle.design_list.specs.Read.{read, accepted}
use Rattle.design_list.proofs.AcceptedLaws.{accepted-read}
use Rattle.bound.specs.Costs.{sum_by}
use Rattle.bound.proofs.CostsLaws.{sum-each}
use Rattle.bound.specs.Words.{record_words, design_words}
use Rattle.accepted.proofs.Cells.{cell-read}
use Rattle.accepted.proofs.Replacements.{climb_each, climb_words}
use Rattle.accepted.proofs.Laid.{walk-each, stages}

abbrev BoundedAt : Placed → Type 0
BoundedAt p = Bounded p.cell

pub accepted-bounds : (mode : Mode) (w : List ℕ) {d : Design} {r p : ℕ} → read mode w ≡ accepted d r p → Bounds d
accepted-bounds mode w e =
    let all = stages (accepted-read mode w e) in
    record {
      cells = walk-each BoundedAt (λ slot at op width after next is. (cell-read is.record_is).bounded) all.walk;
      new_cells = climb_each _ _ BoundedAt (λ least at above next is. (cell-read is.record_is).bounded) all.reps;
    }

-- A record that was read ends after the words of its cell.
record_words_lem :
    {w : List ℕ} {total at : ℕ} {op : Operation} {width next : ℕ} → IsRecord w total at op width next →
    next ≡ at + record_words (cell_at w at)
record_words_lem is = let ends = (cell-read is).words in omega arith

walk-words :
    {w : List ℕ} {base total slot at end : ℕ} {cells : List Placed} → Walk w base total slot at cells end →
    end ≡ at + sum_by (λ (q : Placed). record_words q.cell) cells
unfolding sum_by
walk-words (done full ended) = omega arith
walk-words (placed inside is rest) =
    let here = record_words_lem is.record_is in let later = walk-words rest in omega arith

-- An accepted list has exactly the words of its design.
pub accepted-words : (mode : Mode) (w : List ℕ) {d : Design} {r p : ℕ} → read mode w ≡ accepted d r p →
    length w ≡ design_words d
accepted-words mode w {d} e =
    let all = stages (accepted-read mode w e) in
    let cells = walk-words all.walk in
    let reps =
    climb_words _ _ (λ (q : Placed). 1 + record_words q.cell)
    (λ least at above next is. let ends = record_words_lem is.record_is in omega arith) all.reps in
    let pairs = climb_words _ _ (λ (_ : NetPair). 2) (λ least at above next is. is.after) all.nets in
    let twice = sum-each 2 d.net_reps in
    omega arith
