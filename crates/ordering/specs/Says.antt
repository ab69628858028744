-- Document 02, change 4: what an answer other than a refusal says of the slots that the slice begins with, by the
-- relation of document 01's current reads alone.
use Rattle.std.specs.Prelude.{◌≡◌, List, ℕ, ◌≤◌, length, take, Result, Ok, Err}
use Rattle.logic.specs.declared.Fault.{Fault}
use Rattle.cell.specs.Design.{Design, total}
use Rattle.cell.specs.declared.Mode.{Mode}
use Rattle.design_list.specs.Read.{read, accepted}
use Rattle.working_out.specs.Loop.{reads, Loop}
use Rattle.working_out.specs.Reading.{node_of}
use Rattle.working_out.specs.System.{is_node}
use Rattle.loops.specs.Is.{IsOrder, IsLoop}
use Rattle.ordering.specs.declared.Ordering.{Ordering}
use Rattle.ordering.specs.declared.Ordering.TheVariants.{Ordered, Looped}

-- An order, and there is no loop; or a loop.
abbrev pub Found : Design → List ℕ → Result Ordering Fault → Type 0
Found d slots (Ok (Ordered n)) = IsOrder (reads d) (is_node (node_of d)) (take n slots) × (Loop d → ⊥)
Found d slots (Ok (Looped n)) = IsLoop (reads d) (take n slots) × Loop d
Found d slots (Err e) = ⊥

-- What is said of every accepted list whose slice has a word for each slot.
abbrev pub OrderSays : List ℕ → List ℕ → Result Ordering Fault → Type 0
OrderSays w slots r =
    (mode : Mode) (d : Design) (replacements pairs : ℕ) → read mode w ≡ accepted d replacements pairs
    → total d ≤ length slots → Found d slots r
