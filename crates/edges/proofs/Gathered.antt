-- Where the words of a design's reads stand: a word of all cells is one of an asserted cell's and the other way round,
-- and a word of all net replacements is one of a replaced Void's and the other way round. For any test of words.
use mathlib.Core.Path.{◌≡◌, refl}
use mathlib.Core.Bool.{Bool, true, false, cond, false≢true}
use mathlib.Core.List.{List, [], ◌∷◌, ◌++◌}
use Prim.Native.Nat.{ℕ}
use Rattle.logic.specs.Net.{Net, constant, slot}
use Rattle.cell.specs.Design.{Design, Placed, NetPair}
use Rattle.cell.specs.Each.{Each}
use Rattle.cell.proofs.EachLaws.{each_map}
use Rattle.rules.specs.Reads.{current_net, current_reads}
use Rattle.working_out.specs.System.{any}
use Rattle.working_out.specs.Reading.{Pair, equal, of_void, of_dffs, ordinary, pair_of, reads_past, asserted}
use Rattle.working_out.proofs.Replaced.{OfPair}
use Rattle.loops.specs.Graph.{edges_from, cell_edges, void_edges, of_pair, pair_edges}
use Rattle.edges.proofs.AnyLaws.{any_either, any-first, any-second}

module _ (d : Design) (p : ℕ → Bool) where
  -- The words of a cell, if it is asserted, and of a Void, if it is replaced.
  abbrev pub cell_words : Placed → List ℕ
  cell_words c = edges_from d c.slot (current_reads (reads_past d) c.cell)

  abbrev pub void_words : ℕ → Net → List ℕ
  void_words i to = edges_from d i (current_net (reads_past d) to)

  -- C follows from a word of the cell, or of the Void, that passes the test.
  abbrev pub FromCell : Type 0 → Placed → Type 0
  FromCell C c = asserted c.cell ≡ true → any p (cell_words c) ≡ true → C

  abbrev pub FromVoid : Type 0 → ℕ → Net → Type 0
  FromVoid C i to = any p (void_words i to) ≡ true → C

  -- What follows from a word of each asserted cell follows from a word of all cells.
  pub of_cells : (C : Type 0) (cells : List Placed) → Each (FromCell C) cells → any p (cell_edges d cells) ≡ true → C
  unfolding any cell_edges
  of_cells C [] each e = absurd (false≢true e)
  of_cells C (c ∷ cells) each e = go (of_cells C cells each.1) (asserted c.cell) refl e
    where
      go : (any p (cell_edges d cells) ≡ true → C) → (b : Bool) → asserted c.cell ≡ b
          → any p (cond b (cell_words c) [] ++ cell_edges d cells) ≡ true → C
      go rec true q f = any_either p (cell_words c) (cell_edges d cells) f (each.0 q) rec
      go rec false q f = rec f

  -- A word of an asserted cell is one of all cells.
  pub in_cells_lem : (cells : List Placed) → Each (FromCell (any p (cell_edges d cells) ≡ true)) cells
  unfolding cell_edges
  in_cells_lem [] = tt
  in_cells_lem (c ∷ cells) = (
    λ a w. rw a (any-first p (cell_words c) (cell_edges d cells) w),
    each_map cells (λ k f a w. any-second p (cond (asserted c.cell) (cell_words c) []) (cell_edges d cells) (f a w))
        (in_cells_lem cells),
  )

  -- The words of one net replacement are those of the Void that it replaces, if it does.
  of_pair_lem : (C : Type 0) (q : NetPair) → OfPair d (FromVoid C) q → any p (of_pair d q (pair_of d q)) ≡ true → C
  unfolding any
  of_pair_lem C q h = go (pair_of d q) refl
    where
      void : pair_of d q ≡ of_void → (from : Net) → q.from ≡ from → any p (void_edges d from q.to) ≡ true → C
      void k (constant t) from e = absurd (false≢true e)
      void k (slot i) from e = h k i from e

      go : (k : Pair) → pair_of d q ≡ k → any p (of_pair d q k) ≡ true → C
      go equal k e = absurd (false≢true e)
      go of_void k e = void k q.from refl e
      go of_dffs k e = absurd (false≢true e)
      go ordinary k e = absurd (false≢true e)

  -- What follows from a word of each replaced Void follows from a word of all net replacements.
  pub of_pairs : (C : Type 0) (pairs : List NetPair) → Each (OfPair d (FromVoid C)) pairs
      → any p (pair_edges d pairs) ≡ true → C
  unfolding any pair_edges
  of_pairs C [] each e = absurd (false≢true e)
  of_pairs C (q ∷ pairs) each e =
      any_either p (of_pair d q (pair_of d q)) (pair_edges d pairs) e (of_pair_lem C q each.0) (of_pairs C pairs each.1)

  -- A word of a replaced Void is one of all net replacements.
  pub in_pairs : (pairs : List NetPair) → Each (OfPair d (FromVoid (any p (pair_edges d pairs) ≡ true))) pairs
  unfolding pair_edges
  in_pairs [] = tt
  in_pairs (q ∷ pairs) = (
    λ k i from w. any-first p (of_pair d q (pair_of d q)) (pair_edges d pairs) (rw (k, from) w),
    each_map pairs (λ r f k i from w. any-second p (of_pair d q (pair_of d q)) (pair_edges d pairs) (f k i from w))
        (in_pairs pairs),
  )
