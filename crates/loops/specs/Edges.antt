-- Document 02, change 4. Reads between nodes as words, and which nodes are not done as flags.
use Rattle.std.specs.Prelude.{Bool, List, [], ◌∷◌, ℕ, ◌+◌, ◌*◌, ◌/◌, ◌%◌, get_or, length, set, eqb}
use Rattle.working_out.specs.Graph.{undone}
use Rattle.working_out.specs.Graph as g
use Rattle.working_out.specs.System.{any}

-- A word for each read: 4,096 × the node that reads + the node read, both by first slot.
abbrev pub edge : ℕ → ℕ → ℕ
edge a b = a * 4096 + b

abbrev pub reader_of : ℕ → ℕ
reader_of e = e / 4096

abbrev pub read_of : ℕ → ℕ
read_of e = e % 4096

-- Does node a read node b, by the words?
unfoldable pub has_edge : List ℕ → ℕ → ℕ → Bool
has_edge edges a b = any (eqb (edge a b)) edges

-- A node is done where its flag is 0; a number without a flag is no node.
unfoldable pub done_in : List ℕ → ℕ → Bool
done_in flags a = eqb (get_or flags a 0) 0

-- The flags with every node of a list done.
unfoldable pub clear_all : List ℕ → List ℕ → List ℕ
clear_all flags [] = flags
clear_all flags (a ∷ l) = clear_all (set flags a 0) l

-- The order of the nodes that are not done, by words and flags: the lowest ready one always next.
abbrev pub order_in : List ℕ → List ℕ → List ℕ
order_in edges flags = g.order (length flags) (has_edge edges) (undone (length flags) (done_in flags)) (done_in flags)
