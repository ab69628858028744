-- From bits to trits: nets whose bits pass the asserted tests show trits that solve the design's equations, and the
-- test of an obligation is false exactly when the obligation is broken.
use mathlib.Core.Path.{◌≡◌, refl, sym, ap, ◌∙◌}
use mathlib.Core.Bool.{Bool, true, false, ◌&&◌}
use mathlib.Core.List.{List, [], ◌∷◌, ◌++◌, map}
use Prim.Native.Nat.{ℕ, ◌+◌}
use native.Mathlib.Omega.{arith}
use lib.Dec.{eqb}
use borrow.Author.Tests.{ne_eqb}
use lib.ListN.{length}
use Rattle.logic.specs.Table.{zip_with}
use Rattle.logic.proofs.TableLaws.{map-tab, length-tab}
use Rattle.logic.specs.Trit.{shows}
use Rattle.logic.specs.Net.{Net, slot}
use Rattle.logic.specs.declared.Trit.{Trit}
use Rattle.bitvec.specs.Bits.{Bits}
use Rattle.engine.specs.Meaning.{all}
use Rattle.cell.specs.Cell.{Cell, output_len}
use Rattle.cell.specs.Design.{Design, Placed, NetPair}
use Rattle.cell.specs.Each.{Each}
use Rattle.right.specs.Shape.{Shaped}
use Rattle.right.specs.Laid.{CellLaid}
use Rattle.rules.specs.Trits.{refines}
use Rattle.rules.specs.CellRule.{Trits, of_net, outputs}
use Rattle.working_out.specs.Reading.{reads_past, asserted, of_void, pair_of}
use Rattle.working_out.specs.Loop.{buf_of}
use Rattle.working_out.specs.Equations.{CellShown, VoidShown}
use Rattle.working_out.specs.WorkingOut.{trit_rule, Solves}
use Rattle.working_out.specs.Obligations.{all_refine}
use Rattle.smt.specs.Prog.{curr}
use Rattle.smt.specs.Builder.{output_nets}
use Rattle.smt.specs.Formula.{TritBits, tb, NetBits, refines_bits}
use Rattle.smt.proofs.Refines.{same_bits_lem, refines-shows}
use Rattle.smt.proofs.Shows.{Shown, BitsShow, empty, lane, shown-is}
use Rattle.smt.specs.CellBits.{curr_bits, net_bit, cell_bits}
use Rattle.smt.specs.CellShows.{trits_of}
use Rattle.smt.proofs.CellShowsLaws.{read-shows, value-shows, cell-bits_show}
use Rattle.order.proofs.Asserted.{asserted-not-input, asserted-some, asserted_claimed}
use Rattle.order.specs.Verify.{new_cell_in}
use Rattle.order.specs.Meant.{Meant, meant_add, meant_new, meant_cell, meant_cells, meant_pair, meant_pairs, meant_steps}
use Rattle.order.specs.Meant.{claim_test, void_test}
use Rattle.order.proofs.MeantLaws.{SaidOf}

-- ---- tv_refines: false exactly where some bit of from is defined and to is not the same trit

pub refines-shown : {n : ℕ} {x y u w : Bits} {ts us : List Trit} → Shown n x y ts → Shown n u w us
    → refines_bits (tb x y) (tb u w) ≡ all_refine ts us
unfolding all_refine
refines-shown p q = refines-shows p q ∙ trits p q
  where
    trits : {n : ℕ} {x y u w : Bits} {ts us : List Trit} → Shown n x y ts → Shown n u w us → all (zip_with refines ts us)
        ≡ all_refine ts us
    trits empty empty = refl
    trits (lane a b p) (lane u w q) = ap (λ (r : Bool). refines (shows a b) (shows u w) && r) (trits p q)

-- ---- what nets show

module _ (d : Design) (b : NetBits) where
  abbrev θ : Trits
  θ = trits_of b

  pub current-shows : (nets : List Net) →
      BitsShow (length nets) (curr_bits (reads_past d) b nets) (map (of_net θ.now) nets)
  current-shows = read-shows b (λ i. curr) θ.now (λ i. refl)

  -- The outputs of a cell.
  outputs-nets : (s w : ℕ) → map (of_net θ.now) (output_nets s w) ≡ map θ.now (outputs s w)
  outputs-nets s w = map-tab (of_net θ.now) w (λ (i : ℕ). slot (s + i)) ∙ sym (map-tab θ.now w (λ (i : ℕ). s + i))

  pub outputs_show : (s w : ℕ) → BitsShow w (curr_bits (reads_past d) b (output_nets s w)) (map θ.now (outputs s w))
  outputs_show s w = rw (length-tab w (λ (i : ℕ). slot (s + i)), outputs-nets s w) at (current-shows (output_nets s w))

  cell-shown : (s : ℕ) (a : Cell) → Shaped a → asserted a ≡ true → claim_test (reads_past d) s (output_len a) a b ≡ true
      → map θ.now (outputs s (output_len a)) ≡ trit_rule d θ.was s a θ.now
  cell-shown s a shaped h said =
      let same =
      same_bits_lem (curr_bits (reads_past d) b (output_nets s (output_len a))) (cell_bits (reads_past d) b s (output_len a) a)
      said in
      let rule = cell-bits_show (reads_past d) b s a shaped (asserted-not-input a h) (asserted-some a h) in
      sym (shown-is (outputs_show s (output_len a))) ∙ ap (λ (t : TritBits). zip_with shows t.x t.y) same
      ∙ shown-is rule

  void-shown : (i : ℕ) (to : Net) → void_test (reads_past d) (slot i) to b ≡ true → θ.now i ∷ []
      ≡ trit_rule d θ.was i (buf_of to) θ.now
  void-shown i to said =
      let same = same_bits_lem (curr_bits (reads_past d) b (slot i ∷ [])) (net_bit (reads_past d) b to) said in
      sym (shown-is (current-shows (slot i ∷ []))) ∙ ap (λ (t : TritBits). zip_with shows t.x t.y) same
      ∙ shown-is (value-shows (reads_past d) b (to ∷ []))

  -- ---- the equations

  pub left : (k l : List Meant) → Each (SaidOf b) (k ++ l) → Each (SaidOf b) k
  left [] l h = tt
  left (m ∷ k) l h = (h.0, left k l h.1)

  pub right : (k l : List Meant) → Each (SaidOf b) (k ++ l) → Each (SaidOf b) l
  right [] l h = h
  right (m ∷ k) l h = right k l h.1

  claim_said : (p : Placed) → asserted p.cell ≡ true → Each (SaidOf b) (meant_cell d p)
      → claim_test (reads_past d) p.slot (output_len p.cell) p.cell b ≡ true
  claim_said p h said =
      let w : eqb (output_len p.cell) 0 ≡ false =
      ne_eqb (output_len p.cell) 0 (λ e. let l = asserted-some p.cell h in omega arith) in
      let add : Each (SaidOf b) (meant_add (reads_past d) p.slot (output_len p.cell) p.cell
      ∷ meant_new (reads_past d) p.slot (output_len p.cell) (new_cell_in d.cell_reps p.slot)) = rw w at said in
      rw (asserted_claimed p.cell h) at add.0

  cells-shown : (cells : List Placed) → Each (CellLaid d) cells → Each (SaidOf b) (meant_cells d cells)
      → Each (CellShown (trit_rule d θ.was) d θ.now) cells
  unfolding meant_cells
  cells-shown [] laid said = tt
  cells-shown (p ∷ cells) laid said = (
    λ h. cell-shown p.slot p.cell laid.0.shaped h (claim_said p h (left (meant_cell d p) _ said)),
    cells-shown cells laid.1 (right (meant_cell d p) _ said),
  )

  void_said : (p : NetPair) → pair_of d p ≡ of_void → Each (SaidOf b) (meant_pair (reads_past d) d.mode (pair_of d p) p)
      → void_test (reads_past d) p.from p.to b ≡ true
  void_said p e said =
      let one : Each (SaidOf b) (meant_pair (reads_past d) d.mode of_void p) = rw e at said in
      one.0

  voids-shown : (pairs : List NetPair) → Each (SaidOf b) (meant_pairs d pairs) →
      Each (VoidShown (trit_rule d θ.was) d θ.now) pairs
  unfolding meant_pairs
  voids-shown [] said = tt
  voids-shown (p ∷ pairs) said = (
    λ e i from. void-shown i p.to
        (rw from at (void_said p e (left (meant_pair (reads_past d) d.mode (pair_of d p) p) _ said))),
    voids-shown pairs (right (meant_pair (reads_past d) d.mode (pair_of d p) p) _ said),
  )

  -- Nets whose bits pass the asserted tests show trits that solve the equations.
  pub tests_solve : Each (CellLaid d) d.cells → Each (SaidOf b) (meant_steps d) → Solves d θ θ.now
  tests_solve laid said = record {
    sources = λ i e. refl;
    cells = cells-shown d.cells laid (left (meant_cells d d.cells) _ said);
    voids = voids-shown d.net_reps (right (meant_cells d d.cells) _ said);
  }
