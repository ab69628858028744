-- The tests of the obliged steps are, in order, whether the obligations hold.
use mathlib.Core.Path.{◌≡◌, refl, sym, ap, ap₂, ◌∙◌, subst}
use mathlib.Core.Bool.{Bool, true, false, not, cond, not-not}
use mathlib.Core.Option.{Option, none, some}
use mathlib.Core.List.{List, [], ◌∷◌, ◌++◌, map, map-append}
use Prim.Native.Nat.{ℕ, ◌<◌}
use lib.Dec.{eqb}
use borrow.Author.Tests.{eqb-false}
use Rattle.cell.specs.declared.Mode.{Mode}
use Rattle.cell.specs.declared.Mode.TheVariants.{Ported, Inductive}
use Rattle.cell.specs.Cell.{Cell, output_len}
use Rattle.cell.specs.Design.{Design, Placed, NetPair, cell_of}
use Rattle.cell.specs.Each.{Each}
use Rattle.right.specs.Shape.{Shaped}
use Rattle.right.specs.Laid.{Laid}
use Rattle.rules.specs.CellRule.{Trits}
use Rattle.working_out.specs.Reading.{reads_past, Pair, equal, of_void, of_dffs, ordinary, pair_of}
use Rattle.working_out.specs.Obligations.{Obligation, current, as_read, cell_obligations, net_obligations, of_pair}
use Rattle.working_out.specs.Obligations.{obligations, broken}
use Rattle.working_out.specs.Obligations as o
use Rattle.smt.specs.Builder.{curr_value, output_nets}
use Rattle.smt.specs.Formula.{NetBits}
use Rattle.smt.specs.CellBits.{NotInput}
use Rattle.smt.specs.CellShows.{trits_of}
use Rattle.smt.proofs.CellShowsLaws.{value-shows, cell-bits_show}
use Rattle.order.specs.Verify.{Step, declared, asserted, obliged, claim, add_cell, is_input, new_cell_in}
use Rattle.order.proofs.Found.{placed, own_cells, may_replace_lem, new_found}
use Rattle.order.proofs.Replacements.{found_at, in_cells, wide, design_in_order}
use Rattle.order.specs.Meant.{Meant, meant_add, meant_new, meant_cell, meant_cells, meant_pair, meant_pairs, meant_steps}
use Rattle.order.specs.Meant.{new_test, net_test, current_test}
use Rattle.order.proofs.MeantLaws.{ask, asks}
use Rattle.order.proofs.StepsMean.{positive}
use Rattle.order.proofs.Shown.{refines-shown, current-shows, outputs_show}

pub asks_append : (b : NetBits) (k l : List Meant) → asks b (k ++ l) ≡ asks b k ++ asks b l
unfolding asks
asks_append b [] l = refl
asks_append b (m ∷ k) l = ap (ask m.step (m.test b)) (asks_append b k l) ∙ go m.step (m.test b)
  where
    go : (s : Step) (t : Bool) → ask s t (asks b k ++ asks b l) ≡ ask s t (asks b k) ++ asks b l
    go (declared q) t = refl
    go (asserted q) t = refl
    go (obliged q) t = refl

module _ (d : Design) (b : NetBits) where
  abbrev θ : Trits
  θ = trits_of b

  -- An obligation holds.
  abbrev pub holds : Obligation → Bool
  holds x = not (broken d θ x)

  -- ---- net replacements

  net_holds : (p : NetPair) → net_test (reads_past d) p.from p.to b ≡ holds (as_read p)
  net_holds p =
      refines-shown (current-shows d b (p.from ∷ [])) (value-shows (reads_past d) b (p.to ∷ [])) ∙ sym (not-not _)

  current_holds : (p : NetPair) → current_test (reads_past d) p.from p.to b ≡ holds (current p)
  current_holds p = refines-shown (current-shows d b (p.from ∷ [])) (current-shows d b (p.to ∷ []))
      ∙ sym (not-not _)

  pair-judged : (mode : Mode) (k : Pair) (p : NetPair) →
      asks b (meant_pair (reads_past d) mode k p) ≡ map holds (of_pair mode k p)
  unfolding asks
  pair-judged mode equal p = refl
  pair-judged mode of_void p = refl
  pair-judged Ported of_dffs p = ap₂ (λ (x y : Bool). x ∷ y ∷ []) (current_holds p) (net_holds p)
  pair-judged Inductive of_dffs p = ap (λ (x : Bool). x ∷ []) (current_holds p)
  pair-judged mode ordinary p = ap (λ (x : Bool). x ∷ []) (net_holds p)

  pairs-judged : (pairs : List NetPair) → asks b (meant_pairs d pairs) ≡ map holds (net_obligations d pairs)
  unfolding meant_pairs net_obligations
  pairs-judged [] = unfold asks in refl
  pairs-judged (p ∷ pairs) =
      asks_append b (meant_pair (reads_past d) d.mode (pair_of d p) p) (meant_pairs d pairs)
      ∙ ap₂ ◌++◌ (pair-judged d.mode (pair_of d p) p) (pairs-judged pairs)
      ∙ sym (map-append holds (of_pair d.mode (pair_of d p) p) (net_obligations d pairs))

  -- ---- cell replacements

  cell_holds : (s : ℕ) (a : Cell) → Shaped a → NotInput a → 0 < output_len a → new_test (reads_past d) s (output_len a) a b
      ≡ holds (o.cell (placed s a))
  cell_holds s a shaped terms wide =
      refines-shown (outputs_show d b s (output_len a)) (cell-bits_show (reads_past d) b s a shaped terms wide)
      ∙ sym (not-not _)

  module _ (laid : Laid d) where
    new-judged : (p : Placed) → cell_of d p.slot ≡ p → 0 < output_len p.cell → (x : Option Cell) →
        new_cell_in d.cell_reps p.slot ≡ x
        → asks b (meant_new (reads_past d) p.slot (output_len p.cell) x)
        ≡ map (λ r. holds (o.cell r)) (found_at p.slot x)
    unfolding asks
    new-judged p own Some-out none e = refl
    new-judged p own Some-out (some a) e =
        let n = new_found d laid p own a e in
        ap (λ (t : Bool). t ∷ [])
        (subst (λ (w : ℕ). new_test (reads_past d) p.slot w a b ≡ holds (o.cell (placed p.slot a))) n.width
        (cell_holds p.slot a n.laid.shaped (may_replace_lem a n.replaces.new) (rw n.width Some-out)))

    -- Adding a cell asks nothing.
    add_asks : (s w : ℕ) (a : Cell) (l : List Bool) (t : Bool) → ask (add_cell (reads_past d) s w a) t l ≡ l
    add_asks s w a l t = go (is_input a)
      where
        go : (i : Bool) →
            ask (cond i (declared (curr_value (output_nets s w))) (asserted (claim (reads_past d) s w a))) t l ≡ l
        go true = refl
        go false = refl

    cell-judged : (p : Placed) → cell_of d p.slot ≡ p
        → asks b (meant_cell d p)
        ≡ map (λ r. holds (o.cell r))
        (cond (eqb (output_len p.cell) 0) [] (found_at p.slot (new_cell_in d.cell_reps p.slot)))
    cell-judged p own = go (eqb (output_len p.cell) 0) refl
      where
        go : (z : Bool) → eqb (output_len p.cell) 0 ≡ z
            → asks b (cond z [] (meant_add (reads_past d) p.slot (output_len p.cell) p.cell
            ∷ meant_new (reads_past d) p.slot (output_len p.cell) (new_cell_in d.cell_reps p.slot)))
            ≡ map (λ r. holds (o.cell r)) (cond z [] (found_at p.slot (new_cell_in d.cell_reps p.slot)))
        go true e = unfold asks in refl
        go false e =
            let wide = positive (output_len p.cell) (eqb-false (output_len p.cell) 0 e) in
            first ∙ new-judged p own wide (new_cell_in d.cell_reps p.slot) refl
          where
            first : asks b (meant_add (reads_past d) p.slot (output_len p.cell) p.cell
                ∷ meant_new (reads_past d) p.slot (output_len p.cell) (new_cell_in d.cell_reps p.slot))
                ≡ asks b (meant_new (reads_past d) p.slot (output_len p.cell) (new_cell_in d.cell_reps p.slot))
            first = unfold asks in add_asks p.slot (output_len p.cell) p.cell _ _

    cells-judged : (cells : List Placed) → Each (λ (p : Placed). cell_of d p.slot ≡ p) cells
        → asks b (meant_cells d cells) ≡ map (λ r. holds (o.cell r)) (in_cells d.cell_reps cells)
    unfolding meant_cells in_cells
    cells-judged [] own = unfold asks in refl
    cells-judged (p ∷ cells) own =
        asks_append b (meant_cell d p) (meant_cells d cells)
        ∙ ap₂ ◌++◌ (cell-judged p own.0) (cells-judged cells own.1)
        ∙ sym (map-append (λ r. holds (o.cell r))
        (cond (eqb (output_len p.cell) 0) [] (found_at p.slot (new_cell_in d.cell_reps p.slot)))
        (in_cells d.cell_reps cells))

    -- Those of the cell replacements are the obligations of cells.
    of_cells : (reps : List Placed) → map (λ r. holds (o.cell r)) (wide reps) ≡ map holds (cell_obligations reps)
    unfolding wide cell_obligations
    of_cells [] = refl
    of_cells (r ∷ reps) = go (eqb (output_len r.cell) 0) (of_cells reps)
      where
        go : (z : Bool) → map (λ r. holds (o.cell r)) (wide reps) ≡ map holds (cell_obligations reps)
            → map (λ r. holds (o.cell r)) (cond z [] (r ∷ []) ++ wide reps)
            ≡ map holds (cond z [] (o.cell r ∷ []) ++ cell_obligations reps)
        go true e = e
        go false e = ap (λ (l : List Bool). holds (o.cell r) ∷ l) e

    pub steps-judged : asks b (meant_steps d) ≡ map holds (obligations d)
    steps-judged =
        asks_append b (meant_cells d d.cells) (meant_pairs d d.net_reps)
        ∙ ap₂ ◌++◌
        (cells-judged d.cells (own_cells d laid) ∙ ap (map (λ r. holds (o.cell r))) (design_in_order d laid)
        ∙ of_cells d.cell_reps)
        (pairs-judged d.net_reps)
        ∙ sym (map-append holds (cell_obligations d.cell_reps) (net_obligations d d.net_reps))
