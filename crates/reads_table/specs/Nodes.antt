-- Document 02, change 4: the nodes of a design in the order of its list, and the flags that they get.
use Rattle.std.specs.Prelude.{Bool, true, false, not, cond, ◌&&◌, List, [], ◌∷◌, ◌++◌, ℕ, eqb, set}
use Rattle.logic.specs.Net.{driver_of_net, driver_of}
use Rattle.logic.specs.declared.Driver.{Driver}
use Rattle.logic.specs.declared.Driver.TheVariants.{Constant, Output, NoNet}
use Rattle.cell.specs.declared.Operation.{Operation}
use Rattle.cell.specs.declared.Operation.TheVariants as O
use Rattle.cell.specs.Design.{Design, Placed, NetPair}
use Rattle.cell_reader.specs.Parse.{op_at}
use Rattle.working_out.specs.Reading.{Pair, equal, of_void, of_dffs, ordinary, pair_of, asserted}
use Rattle.slots.specs.Tells.{width_in}
use Rattle.slots.specs.Pairs.{pair_in}

-- Has a cell of the operation outputs by a rule? Not a Void, and not where they are given.
abbrev pub has_rule : Operation → Bool
has_rule O.Void = false
has_rule O.Note = true
has_rule O.IoBuf = false
has_rule O.Input = false
has_rule (O.Unary operator) = true
has_rule (O.Binary operator) = true
has_rule O.Mux = true
has_rule O.Adc = true
has_rule O.Aig = true
has_rule (O.Shift operator) = true
has_rule O.Match = true
has_rule O.Assign = true
has_rule O.Dff = true

-- Is the cell of the record at a place asserted, by its operation and the width at its slot?
abbrev pub asserted_in : List ℕ → List ℕ → ℕ → ℕ → Bool
asserted_in w table at i = has_rule (op_at w at) && not (eqb (width_in table i) 0)

-- The asserted cells, by first slot.
unfoldable pub cell_nodes : List Placed → List ℕ
cell_nodes [] = []
cell_nodes (p ∷ cells) = cond (asserted p.cell) (p.slot ∷ []) [] ++ cell_nodes cells

-- What a net replacement of a kind makes a node: its `from`, if that is a Void's; no net for the other kinds.
abbrev pub void_by : Driver → Pair → Driver
void_by from equal = NoNet
void_by from of_void = from
void_by from of_dffs = NoNet
void_by from ordinary = NoNet

-- The slots of a driver.
abbrev pub slots_in : Driver → List ℕ
slots_in (Constant t) = []
slots_in (Output i) = i.0 ∷ []
slots_in NoNet = []

-- The replaced Void of a net replacement by the numbers of its nets.
abbrev pub void_in : List ℕ → ℕ → ℕ → Driver
void_in table from to = void_by (driver_of from) (pair_in table from to)

-- The replaced Voids.
unfoldable pub pair_nodes : Design → List NetPair → List ℕ
pair_nodes d [] = []
pair_nodes d (p ∷ pairs) = slots_in (void_by (driver_of_net p.from) (pair_of d p)) ++ pair_nodes d pairs

-- The flags with a 1 at every node of a list.
unfoldable pub flag_all : List ℕ → List ℕ → List ℕ
flag_all flags [] = flags
flag_all flags (a ∷ l) = flag_all (set flags a 1) l
