-- What `slot_table` answers of a list, to the order: an accepted list with its table, or a refusal.
use mathlib.Core.Path.{◌≡◌, refl, sym, ap, subst, ◌∙◌}
use mathlib.Core.List.{List}
use Prim.Native.Nat.{ℕ, ◌+◌, ◌≤◌}
use native.Mathlib.Omega.{arith}
use lib.ListN.{length, take, length-take}
use borrow.Author.Tests.{le-ltb}
use Rattle.logic.specs.declared.Fault.{Fault}
use Rattle.cell.specs.declared.Mode.{Mode}
use Rattle.cell.specs.Design.{Design, total}
use Rattle.design_list.specs.declared.Extent.{Extent}
use Rattle.design_list.specs.Read.{Read, refused, accepted, read, answer}
use Rattle.design_list.specs.Table.{Tabled, table_answer, table_after}
use Rattle.design_list.proofs.AcceptedLaws.{accepted-read}
use Rattle.reads_table.specs.Table.{IsTable}
use Rattle.reads_table.proofs.Tables.{table_is}
use Rattle.std.specs.Prelude.{Err, Result, Ok}
use Rattle.ordering.specs.Words.{Ready}
use Rattle.ordering.specs.Answer.{Orders}

pub taken_within : (n m : ℕ) (l : List ℕ) → n ≤ m → length (take n l) ≤ m
taken_within n m l h = let taken = length-take n l in omega arith

-- The design of an accepted list.
record Listed (mode : Mode) (w : List ℕ) (x : Extent) : Type 0 where
  d : Design
  is : read mode w ≡ accepted d x.replacements x.pairs
  slots : x.base + x.added ≡ total d

module _ (mode : Mode) (w : List ℕ) {before after : List ℕ} {a : Result Extent Fault} (long : length before ≡ 4096)
    (tabled : Tabled (read mode w) before after a) where
  listed : {x : Extent} → a ≡ Ok x → Listed mode w x
  listed {x} filled = go (read mode w) refl (sym tabled.same ∙ filled)
    where
      go : (r : Read) → read mode w ≡ r → table_answer (answer r) (length before) ≡ Ok x → Listed mode w x
      go (refused e) is same = let z : ◌≡◌ {A = ℕ} 0 1 = cc in absurd (omega arith)
      go (accepted d reps pairs) is same =
          let low = (accepted-read mode w is).low in
          let filled = rw (le-ltb (length before) (total d) (omega arith)) at same in
          let same-x : record {
            base = d.base;
            added = d.added;
            cells = length d.cells;
            cellreps = length d.cell_reps;
            netreps = length d.net_reps;
            replacements = reps;
            pairs = pairs;
          } ≡ x = cc in
          record { d = d; is = rw (← same-x) is; slots = rw (← same-x) refl }

  pub slots-low : {x : Extent} → a ≡ Ok x → x.base + x.added ≤ 4096
  slots-low filled =
      let known = listed filled in
      let low = (accepted-read mode w known.is).low in
      let same = known.slots in
      omega arith

  -- An accepted list is ready with the words of its slots.
  pub ready_of : {x : Extent} → a ≡ Ok x → Ready mode w x (take (x.base + x.added) after)
  ready_of {x} filled =
      let known = listed filled in
      let low = (accepted-read mode w known.is).low in
      let words : take (total known.d) (table_after (read mode w) before) ≡ take (x.base + x.added) after =
      ap (take (total known.d)) (sym tabled.slice) ∙ ap (λ (n : ℕ). take n after) (sym known.slots) in
      record {
        d = known.d;
        is = known.is;
        tabled = subst (IsTable known.d) words (table_is mode w known.is before (omega arith));
      }

  -- What `slot_table` refuses is refused.
  pub refused_orders : {e : Fault} (slots : List ℕ) → a ≡ Err e → Orders (read mode w) slots slots (Err e)
  refused_orders {e} slots refuse = go (read mode w) refl (sym tabled.same ∙ refuse)
    where
      go : (r : Read) → read mode w ≡ r → table_answer (answer r) (length before) ≡ Err e
          → Orders r slots slots (Err e)
      go (refused f) is same = let same-e : f ≡ e = cc in record { answer = rw same-e; slice = refl }
      go (accepted d reps pairs) is same =
          let low = (accepted-read mode w is).low in
          let filled = rw (le-ltb (length before) (total d) (omega arith)) at same in
          let z : ◌≡◌ {A = ℕ} 0 1 = cc in absurd (omega arith)
