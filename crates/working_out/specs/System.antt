-- Document 01, "Reading nets". A system of equations over slots, for any type of values: a slot is a source, or belongs
-- to a node, named by its first slot. Working out fills the nodes in the order of their reads.
use Rattle.std.specs.Prelude.{Bool, false, not, cond, ◌&&◌, ◌||◌, List, [], ◌∷◌, ℕ, eqb}
use Rattle.std.proofs.Math.Option.{Option}
use Rattle.working_out.specs.Order.{option}

-- Does an element of a list pass a test?
unfoldable pub any : (ℕ → Bool) → List ℕ → Bool
any p [] = false
any p (x ∷ l) = p x || any p l

-- owner i: the node that slot i belongs to, none for a source.
module _ (owner : ℕ → Option ℕ) where
  -- Does slot i belong to node a?
  unfoldable pub owns : ℕ → ℕ → Bool
  owns a i = option (owner i) false (λ b. eqb b a)

  -- A number is a node where the slot of that number belongs to the node of that name.
  abbrev pub is_node : ℕ → Bool
  is_node a = owns a a

  -- At the start just the numbers that are no nodes are done.
  abbrev pub start : ℕ → Bool
  start a = not (is_node a)

  module _ (current : ℕ → List ℕ) where
    -- Node a reads node b: one of the slots that a reads currently belongs to b.
    unfoldable pub reads : ℕ → ℕ → Bool
    reads a b = is_node a && any (owns b) (current a)

-- The values of one node's slots worked out, of the values before; then of every node of a list in turn.
module _ {A : Type 0} (owner : ℕ → Option ℕ) (F : ℕ → (ℕ → A) → A) where
  unfoldable pub fill : ℕ → (ℕ → A) → ℕ → A
  fill a val i = cond (owns owner a i) (F i val) (val i)

  unfoldable pub work_out : List ℕ → (ℕ → A) → ℕ → A
  work_out [] val = val
  work_out (a ∷ l) val = work_out l (fill a val)
