-- Document 02, change 4. What the tables hold while the order is worked out: the reads linked by the node read, how
-- many reads each node waits for, and the set of the nodes that are ready.
use Rattle.std.specs.Prelude.{◌≡◌, Bool, not, ◌&&◌, ◌||◌, List, ℕ, ◌<◌, ◌≤◌, get_or, length, eqb, ltb}
use Rattle.loops.specs.Edges.{done_in}
use Rattle.lowest_set.specs.Tree.{Holds}
use Rattle.topological.specs.Waiting.{read_at, last_of}

-- A table with a word for each number below 4,096.
pub record Words (words : List ℕ) (value : ℕ → ℕ) : Type 0 where
  pub size : length words ≡ 4096
  pub at : (i : ℕ) → i < 4096 → get_or words i 0 ≡ value i

-- The first k edges linked: for each edge the one before it that reads the same node, for each node the last that reads
-- it, each as one more than its place.
pub record Links (edges link head : List ℕ) (k : ℕ) : Type 0 where
  pub few : length edges ≤ 16384
  pub size : length link ≡ 16384
  pub links : (p : ℕ) → p < k → get_or link p 0 ≡ last_of edges (read_at edges p) p
  pub heads : Words head (λ b. last_of edges b k)

-- The nodes that are not done and have nothing left to wait for.
unfoldable pub ready_by : (ℕ → Bool) → (ℕ → ℕ) → ℕ → Bool
ready_by done left a = not (done a) && eqb (left a) 0

-- A set with a number more where a test says so.
unfoldable pub joined : (ℕ → Bool) → Bool → ℕ → ℕ → Bool
joined members test a b = (test && eqb b a) || members b

-- The numbers of a set below k.
unfoldable pub up_to : ℕ → (ℕ → Bool) → ℕ → Bool
up_to k members b = ltb b k && members b

-- How many reads each node waits for, and the nodes that are ready.
pub record Counts (flags : List ℕ) (left : ℕ → ℕ) (waits tree : List ℕ) : Type 0 where
  pub words : Words waits left
  pub ready : Holds tree (ready_by (done_in flags) left)
