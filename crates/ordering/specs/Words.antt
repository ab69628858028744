-- Document 02, change 4. The answer by the words of the reads and the flags of the nodes.
use Rattle.std.specs.Prelude.{◌≡◌, Bool, not, cond, List, ℕ, length}
use Rattle.std.proofs.lemmas.List.Edits.{sets}
use Rattle.cell.specs.Design.{Design}
use Rattle.cell.specs.declared.Mode.{Mode}
use Rattle.design_list.specs.declared.Extent.{Extent}
use Rattle.design_list.specs.Read.{read, accepted}
use Rattle.working_out.specs.Order.{is_some, lowest}
use Rattle.loops.specs.Edges.{done_in, clear_all, order_in}
use Rattle.loop_walk.specs.Named.{loop_in}
use Rattle.reads_table.specs.Table.{IsTable}
use Rattle.ordering.specs.declared.Ordering.{Ordering}
use Rattle.ordering.specs.declared.Ordering.TheVariants.{Ordered, Looped}

-- Is a node left that is not done?
unfoldable pub any_left : List ℕ → Bool
any_left flags = is_some (lowest (length flags) (λ a. not (done_in flags a)))

module _ (edges flags : List ℕ) where
  -- The flags after the order, and whether a node never got ready.
  abbrev pub left_over : List ℕ
  left_over = clear_all flags (order_in edges flags)

  -- The slots that are written, and the answer.
  abbrev pub slots_by : List ℕ
  slots_by = cond (any_left left_over) (loop_in edges left_over) (order_in edges flags)

  abbrev pub answer_by : Ordering
  answer_by =
      cond (any_left left_over) (Looped (length (loop_in edges left_over))) (Ordered (length (order_in edges flags)))

  pub record OrdersBy (slots slots' : List ℕ) (a : Ordering) : Type 0 where
    pub answer : a ≡ answer_by
    pub slice : slots' ≡ sets slots 0 slots_by

-- An accepted list with the table of its slots.
pub record Ready (mode : Mode) (w : List ℕ) (x : Extent) (table : List ℕ) : Type 0 where
  pub d : Design
  pub is : read mode w ≡ accepted d x.replacements x.pairs
  pub tabled : IsTable d table
