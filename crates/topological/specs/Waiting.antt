-- Document 02, change 4. Counts and links over the words of the reads: how many reads a node still waits for, and the
-- reads of one node, each with the one before it.
use Rattle.std.specs.Prelude.{Bool, not, cond, ◌&&◌, List, ℕ, zero, suc, ◌+◌, get_or, length, eqb}
use Rattle.loops.specs.Edges.{reader_of, read_of}

-- How many numbers below k pass a test.
unfoldable pub count : ℕ → (ℕ → Bool) → ℕ
count zero test = 0
count (suc k) test = cond (test k) 1 0 + count k test

-- The node that reads, by the p-th edge, and the node read.
abbrev pub reader_at : List ℕ → ℕ → ℕ
reader_at edges p = reader_of (get_or edges p 0)

abbrev pub read_at : List ℕ → ℕ → ℕ
read_at edges p = read_of (get_or edges p 0)

-- How many of the first k edges have node a read a node that is not done.
unfoldable pub waiting : List ℕ → (ℕ → Bool) → ℕ → ℕ → ℕ
waiting edges done k a = count k (λ p. eqb (reader_at edges p) a && not (done (read_at edges p)))

-- How many of the first k edges have node a read node b.
unfoldable pub pending : List ℕ → ℕ → ℕ → ℕ → ℕ
pending edges b k a = count k (λ p. eqb (reader_at edges p) a && eqb (read_at edges p) b)

-- One more than the place of the last of the first k edges that read node b; 0 where none does.
unfoldable pub last_of : List ℕ → ℕ → ℕ → ℕ
last_of edges b zero = 0
last_of edges b (suc k) = cond (eqb (read_at edges k) b) (suc k) (last_of edges b k)

-- How many reads node a waits for, while the reads of node b by the first k edges are not yet taken off.
unfoldable pub still_waiting : List ℕ → (ℕ → Bool) → ℕ → ℕ → ℕ → ℕ
still_waiting edges done b k a = waiting edges done (length edges) a + pending edges b k a

-- One more for a number.
unfoldable pub one_more : (ℕ → ℕ) → ℕ → ℕ → ℕ
one_more left a b = cond (eqb a b) 1 0 + left b
