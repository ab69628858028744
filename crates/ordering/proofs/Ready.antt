-- An accepted list with its table: how many flags and words there are, and that what they answer is the list's answer.
use mathlib.Core.Path.{◌≡◌, refl, sym, ap, ◌∙◌}
use mathlib.Core.List.{List, ◌∷◌}
use Prim.Native.Nat.{ℕ, zero, suc, ◌≤◌}
use native.Mathlib.Omega.{arith}
use native.Mathlib.Nat.{le_of_suc-le-suc}
use lib.ListN.{length, take, replicate, length-replicate}
use lib.Seq.{sets-eq, take_at}
use Rattle.cell.specs.declared.Mode.{Mode}
use Rattle.cell.specs.Design.{total}
use Rattle.design_list.specs.declared.Extent.{Extent}
use Rattle.design_list.specs.Read.{read}
use Rattle.design_list.proofs.AcceptedLaws.{accepted-read}
use Rattle.accepted.proofs.Laid.{accepted-laid}
use Rattle.loops.specs.Graph.{edges_of, node_flags}
use Rattle.reads_table.specs.Fills.{Filled}
use Rattle.std.specs.Prelude.{Ok}
use Rattle.ordering.specs.declared.Ordering.{Ordering}
use Rattle.ordering.specs.Words.{OrdersBy, Ready}
use Rattle.ordering.specs.Answer.{Orders}
use Rattle.ordering.proofs.Answers.{orders_of}

-- A table of zeros for the slots.
pub zeros : length {A = ℕ} (replicate 4096 0) ≡ 4096
zeros = length-replicate {A = ℕ} 4096 0

take-zeros : (n m : ℕ) → n ≤ m → take n (replicate {A = ℕ} m 0) ≡ replicate n 0
take-zeros zero m h = refl
take-zeros (suc n) zero h = absurd (omega arith)
take-zeros (suc n) (suc m) h = ap (λ (l : List ℕ). 0 ∷ l) (take-zeros n m (le_of_suc-le-suc h))

module _ {mode : Mode} {w : List ℕ} {x : Extent} {table : List ℕ} (ready : Ready mode w x table) where
  pub table-low : length table ≤ 4096
  table-low = let low = (accepted-read mode w ready.is).low in let size = ready.tabled.size in omega arith

  -- A flag of 0 for each slot.
  pub zeros_taken : take (length table) (replicate {A = ℕ} 4096 0) ≡ replicate (total ready.d) 0
  zeros_taken = take-zeros (length table) 4096 table-low ∙ ap (λ (n : ℕ). replicate n 0) ready.tabled.size

  -- The first words are those of the reads.
  edges_are : {edges' : List ℕ} {count : ℕ} → Filled ready.d (replicate 16384 0) edges' count
      → take count edges' ≡ edges_of ready.d
  edges_are {edges'} {count} filled =
      let few = filled.few in
      let many = filled.many in
      let room = length-replicate {A = ℕ} 16384 0 in
      ap (take count) (filled.slice ∙ sets-eq (edges_of ready.d) (replicate 16384 0) 0 (omega arith))
      ∙ take_at (edges_of ready.d) _ count (sym many)

  -- What the words and flags answer is the list's answer.
  pub ready_orders : {edges' flags slots slots' : List ℕ} {count : ℕ} {a : Ordering}
      → Filled ready.d (replicate 16384 0) edges' count → flags ≡ node_flags ready.d → length table ≤ length slots
      → OrdersBy (take count edges') flags slots slots' a → Orders (read mode w) slots slots' (Ok a)
  ready_orders filled flagged room by =
      let low = (accepted-read mode w ready.is).low in
      let size = ready.tabled.size in
      rw ready.is
      (orders_of ready.d (accepted-laid mode w ready.is) low (omega arith) (rw (edges_are filled, flagged) at by))
