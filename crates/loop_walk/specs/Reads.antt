-- The table of the lowest reads: for each node the lowest node read that is not done, n where there is none.
use Rattle.std.specs.Prelude.{Bool, cond, not, ◌&&◌, List, ℕ, ◌<◌, length, get_or, set, ltb}
use Rattle.loops.specs.Edges.{has_edge, done_in, reader_of, read_of}
use Rattle.loop_walk.specs.First.{First}

-- Does node a read node b, by the words, and is b not done?
abbrev pub waits_for : List ℕ → List ℕ → ℕ → ℕ → Bool
waits_for edges flags a b = has_edge edges a b && not (done_in flags b)

-- What one read changes: a lower node that is not done is noted for the node that reads it.
unfoldable pub noted : List ℕ → List ℕ → ℕ → List ℕ
noted flags next e =
    cond (done_in flags (read_of e)) next
    (cond (ltb (read_of e) (get_or next (reader_of e) 0)) (set next (reader_of e) (read_of e)) next)

-- The table has the lowest reads of every node below 4,096.
abbrev pub LowestReads : List ℕ → List ℕ → List ℕ → Type 0
LowestReads edges flags next =
    (a : ℕ) → a < 4096 → First (length flags) (waits_for edges flags a) (get_or next a 0)
