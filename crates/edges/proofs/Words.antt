-- The words of the reads of one node: a word for node a that reads node b stands among them just where the node is a
-- and a slot that it reads belongs to b.
use mathlib.Core.Path.{◌≡◌, sym, ap, ◌∙◌}
use mathlib.Core.Bool.{true, false, false≢true}
use mathlib.Core.Option.{some}
use mathlib.Core.List.{List, [], ◌∷◌}
use Prim.Native.Nat.{ℕ, ◌≤◌, ◌<◌}
use native.Mathlib.Omega.{arith}
use lib.Dec.{eqb, eqb→eq}
use Rattle.cell.specs.Design.{Design, total, cell_of}
use Rattle.right.specs.Laid.{Laid}
use Rattle.working_out.specs.System.{any, owns, start}
use Rattle.working_out.specs.Reading.{node_of}
use Rattle.working_out.proofs.OrderLaws.{eqb_same, not-false}
use Rattle.working_out.proofs.SystemLaws.{owns_own, own_owns}
use Rattle.working_out.proofs.LayoutLaws.{at, belongs, source-same, source-some}
use Rattle.loops.specs.Edges.{edge}
use Rattle.loops.specs.Graph.{edges_from}
use Rattle.edges.proofs.AnyLaws.{either, or-first, or-second}
use Rattle.edges.proofs.Low.{Low}

-- A word says who reads and who is read.
pub edge_same : (a b s t : ℕ) → b < 4096 → t < 4096 → edge a b ≡ edge s t → (s ≡ a) × (t ≡ b)
edge_same a b s t l h e = omega arith

-- Each read of a slot of b has the word.
module _ (d : Design) (a b : ℕ) where
  read_word : (i : ℕ) → owns (node_of d) b i ≡ true → eqb (edge a b) (edge a (cell_of d i).slot) ≡ true
  read_word i e = rw (belongs d i b (own_owns (node_of d) b i e)).named (eqb_same (edge a b))

  pub reads_word : (l : List ℕ) → any (owns (node_of d) b) l ≡ true → any (eqb (edge a b)) (edges_from d a l) ≡ true
  unfolding any
  reads_word [] e = absurd (false≢true e)
  reads_word (i ∷ l) e =
      either (owns (node_of d) b i) (any (owns (node_of d) b) l) e
      (λ q. or-first (eqb (edge a b) (edge a (cell_of d i).slot)) _ (read_word i q))
      (λ q. or-second (eqb (edge a b) (edge a (cell_of d i).slot)) _ (reads_word l q))

-- Each word is of a read of a slot of b, where b is a node and the slots read are the design's.
module _ (d : Design) (laid : Laid d) (few : total d ≤ 4096) (a b : ℕ) (low : b < total d)
    (node : start (node_of d) b ≡ false) where
  -- A slot of the cell that starts at node b belongs to b.
  of_cell_lem : (i : ℕ) → i < total d → (cell_of d i).slot ≡ b → owns (node_of d) b i ≡ true
  of_cell_lem i l first =
      let own = own_owns (node_of d) b b (not-false (owns (node_of d) b b) node) in
      let p = at d laid i l in
      let starts = p.low in
      let ends = p.high in
      let same = source-same d laid i b l (omega arith) (omega arith) in
      owns_own (node_of d) b i (source-some d i (sym same ∙ (belongs d b b own).node) ∙ ap some first)

  word_read : (s i : ℕ) → i < total d → eqb (edge a b) (edge s (cell_of d i).slot) ≡ true
      → (s ≡ a) × (owns (node_of d) b i ≡ true)
  word_read s i l e =
      let starts = (at d laid i l).low in
      let equal = eqb→eq (edge a b) (edge s (cell_of d i).slot) (rw e tt) in
      let is = edge_same a b s (cell_of d i).slot (omega arith) (omega arith) equal in
      (is.0, of_cell_lem i l is.1)

  pub words-read : (s : ℕ) (l : List ℕ) → Low (total d) l → any (eqb (edge a b)) (edges_from d s l) ≡ true
      → (s ≡ a) × (any (owns (node_of d) b) l ≡ true)
  unfolding any
  words-read s [] h e = absurd (false≢true e)
  words-read s (i ∷ l) h e =
      either (eqb (edge a b) (edge s (cell_of d i).slot)) (any (eqb (edge a b)) (edges_from d s l)) e
      (λ q. let r = word_read s i h.0 q in (r.0, or-first (owns (node_of d) b i) _ r.1))
      (λ q. let r = words-read s l h.1 q in (r.0, or-second (owns (node_of d) b i) _ r.1))
