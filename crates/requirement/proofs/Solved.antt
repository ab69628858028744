-- For given trits, alike on joined flip-flops, bits of the nets that show them on the sources and pass every asserted
-- test: hidden bits 0 on the sources, and the rest worked out.
use mathlib.Core.Path.{◌≡◌, refl, sym, ap, ap₂, ◌∙◌}
use mathlib.Core.Bool.{Bool, true, false, not, cond, ◌&&◌, true≢false}
use mathlib.Core.Option.{Option, none, some}
use mathlib.Core.List.{List, [], ◌∷◌, map}
use Prim.Native.Nat.{ℕ, ◌+◌, ◌<◌, ◌≤◌}
use native.Mathlib.Omega.{arith}
use lib.Dec.{eqb, ltb}
use borrow.Author.Tests.{eqb-false, ne_eqb}
use lib.ListN.{length}
use Rattle.logic.proofs.TableLaws.{map-tab, tab_ext}
use Rattle.logic.specs.Trit.{shows, x_of, y_of}
use Rattle.logic.specs.Net.{Net, constant, slot}
use Rattle.logic.specs.declared.Trit.{Trit}
use Rattle.logic.specs.declared.Trit.TheVariants.{Zero, One, Undef}
use Rattle.cell.specs.declared.Mode.{Mode}
use Rattle.cell.specs.Cell.{Cell, output_len, slots_of}
use Rattle.cell.specs.Cell as c
use Rattle.cell.specs.Design.{Design, Placed, NetPair, total, cell_of}
use Rattle.cell.specs.Role.{role}
use Rattle.cell.specs.Role as roles
use Rattle.cell.specs.Each.{Each}
use Rattle.cell.proofs.EachLaws.{each_append, each_ported}
use Rattle.right.specs.Laid.{Laid, CellLaid}
use Rattle.rules.specs.CellRule.{Trits, of_net}
use Rattle.working_out.specs.Reading.{same_net, reads_past, source, Pair, equal, of_void, of_dffs, ordinary, pair_of, Alike}
use Rattle.working_out.specs.Reading as reading
use Rattle.working_out.proofs.LayoutLaws.{at_each, located}
use Rattle.working_out.specs.Loop.{has_loop}
use Rattle.working_out.specs.Equations.{CellShown, VoidShown, Solution, worked_out_by}
use Rattle.working_out.proofs.Solutions.{worked_out_by_lem}
use Rattle.smt.specs.Prog.{curr, Half, is_undef, is_one}
use Rattle.smt.specs.Builder.{curr_value, output_nets}
use Rattle.smt.specs.Formula.{TritBits, tb, NetBits, bit_of, read_bits, same_bits}
use Rattle.smt.proofs.Refines.{same_refl}
use Rattle.smt.specs.CellBits.{age_of, curr_bits, past_bits, value_bits, net_bit, cell_bits}
use Rattle.smt.specs.CellShows.{trits_of}
use Rattle.smt.proofs.CellShowsLaws.{cell-bits_show}
use Rattle.requirement.proofs.BitRule.{BitPair, pair, bits_of, pairs, bit_rule, bit_wide, bit_local, outputs-bits}
use Rattle.order.proofs.Asserted.{asserted-not-input, asserted-some}
use Rattle.order.specs.Verify.{declared, asserted, is_input, claim, new_cell_in}
use Rattle.order.specs.Meant.{meant_add, meant_new, meant_cell, meant_cells, meant_pair, meant_pairs, meant_steps, claim_test}
use Rattle.order.specs.Meant.{void_test, join_test}
use Rattle.order.proofs.MeantLaws.{Said, SaidOf}
use Rattle.order.proofs.StepsMean.{positive}

-- The bits of a given trit.
abbrev pub bits_of_trit : Trit → BitPair
bits_of_trit t = pair (x_of t) (y_of t)

pub trit_of_bits : (t : Trit) → shows (x_of t) (y_of t) ≡ t
trit_of_bits Zero = refl
trit_of_bits One = refl
trit_of_bits Undef = refl

-- Equal vectors pass the test of equality.
equal_pass : (a b : TritBits) → a ≡ b → same_bits a b ≡ true
equal_pass a b e = rw e (same_refl b)

wide_asserted : (w : ℕ) → 0 < w → not (eqb w 0) ≡ true
wide_asserted w l = rw (ne_eqb w 0 (λ e. omega arith))

-- A cell with an output that is claimed is asserted, or an IoBuf.
data Claimed (a : Cell) : Type 0 where
  is_asserted : reading.asserted a ≡ true → Claimed a
  is_io_buf : role a ≡ roles.given →
      ((b : NetBits) (rp : ℕ → Bool) (s w : ℕ) → cell_bits rp b s w a ≡ value_bits rp b (output_nets s w)) → Claimed a

claimed_kind : (a : Cell) → 0 < output_len a → is_input a ≡ false → Claimed a
claimed_kind c.void l i = absurd (omega arith)
claimed_kind c.note l i = absurd (omega arith)
claimed_kind (c.input n) l i = absurd (true≢false i)
claimed_kind (c.io_buf n) l i = is_io_buf refl (λ b rp s w. refl)
claimed_kind (c.unary op x) l i = is_asserted (wide_asserted (length x) l)
claimed_kind (c.binary op x y) l i = is_asserted (wide_asserted (c.binary_width op (length x)) l)
claimed_kind (c.mux s x y) l i = is_asserted (wide_asserted (length x) l)
claimed_kind (c.adc x y carry) l i = is_asserted (wide_asserted (length x + 1) l)
claimed_kind (c.aig x y) l i = is_asserted refl
claimed_kind (c.shift op value amount stride) l i = is_asserted (wide_asserted (length value) l)
claimed_kind (c.match value enable patterns) l i = is_asserted (wide_asserted (length patterns) l)
claimed_kind (c.assign value enable update offset) l i = is_asserted (wide_asserted (length value) l)
claimed_kind (c.dff f) l i = is_asserted (wide_asserted (length f.dat) l)

-- A cell of the design is the cell of each of its slots.
pub whole_cells : (d : Design) → Laid d →
    Each (λ (p : Placed). (j : ℕ) → p.slot ≤ j → j < p.slot + slots_of p.cell → cell_of d j ≡ p) d.cells
whole_cells d laid =
    at_each _ d.cells 0 (total d) laid.run
    (λ i low high. (located d.cells 0 (total d) i laid.run low high).whole)

and-false : (a : Bool) → (a && false) ≡ false
and-false true = refl
and-false false = refl

-- A pair of a Void's is from a slot.
void-from : (d : Design) (p : NetPair) → pair_of d p ≡ of_void → (i : ℕ) × (p.from ≡ slot i)
void-from d p e = go p.from refl
  where
    never : (s : Bool) → cond s equal ordinary ≡ of_void → ⊥
    never true q = let z : ◌≡◌ {A = ℕ} 0 1 = cc in omega arith
    never false q = let z : ◌≡◌ {A = ℕ} 0 1 = cc in omega arith

    go : (n : Net) → p.from ≡ n → (i : ℕ) × (p.from ≡ slot i)
    go (constant t) q = absurd (never (same_net (constant t) p.to) (rw q at e))
    go (slot i) q = (i, q)

-- A slot of an IoBuf reads its current trit.
given-current : (d : Design) (p : Placed) (j : ℕ) → cell_of d j ≡ p → role p.cell ≡ roles.given → reads_past d j
    ≡ false
given-current d p j own e = rw (own, e) (and-false (ltb j d.base))

module _ (d : Design) (laid : Laid d) (no_loop : has_loop d ≡ false) (g : Trits) where
  abbrev pub was : ℕ → BitPair
  was i = bits_of_trit (g.was i)

  abbrev pub given : ℕ → BitPair
  given i = bits_of_trit (g.now i)

  unfoldable pub now : ℕ → BitPair
  now = worked_out_by (bit_rule d was) d (pair false false) given

  -- The bits of all nets.
  abbrev pub solved : NetBits
  solved = bits_of now was

  solution : Solution (bit_rule d was) d given now
  unfolding now
  solution =
      worked_out_by_lem d laid no_loop (bit_rule d was) (pair false false) (bit_wide d was)
      (bit_local d was) given

  -- They show the given trits on the sources.
  pub solved_now : (i : ℕ) → source d i ≡ true → (trits_of solved).now i ≡ g.now i
  solved_now i e = ap (λ (p : BitPair). shows p.x p.y) (solution.sources i e) ∙ trit_of_bits (g.now i)

  pub solved_was : (i : ℕ) → (trits_of solved).was i ≡ g.was i
  solved_was i = trit_of_bits (g.was i)

  -- ---- every asserted test passes

  cell-passes : (p : Placed) → CellLaid d p → CellShown (bit_rule d was) d now p → reading.asserted p.cell ≡ true
      → claim_test (reads_past d) p.slot (output_len p.cell) p.cell solved ≡ true
  cell-passes p cl shown h =
      equal_pass _ _ (outputs-bits now was p.slot (output_len p.cell)
      (cell-bits_show (reads_past d) solved p.slot p.cell cl.shaped (asserted-not-input p.cell h)
      (asserted-some p.cell h)) (shown h))

  iobuf_reads : (p : Placed) → ((j : ℕ) → p.slot ≤ j → j < p.slot + slots_of p.cell → cell_of d j ≡ p) →
      role p.cell ≡ roles.given
      → curr_bits (reads_past d) solved (output_nets p.slot (output_len p.cell))
      ≡ value_bits (reads_past d) solved (output_nets p.slot (output_len p.cell))
  unfolding read_bits
  iobuf_reads p own e = ap₂ tb (lanes is_undef) (lanes is_one)
    where
      at : (h : Half) (i : ℕ) → i < output_len p.cell
          → bit_of solved (λ _. curr) h (slot (p.slot + i))
          ≡ bit_of solved (age_of (reads_past d) solved) h (slot (p.slot + i))
      at is_undef i l = rw (given-current d p (p.slot + i) (own (p.slot + i) (omega arith) (omega arith)) e)
      at is_one i l = rw (given-current d p (p.slot + i) (own (p.slot + i) (omega arith) (omega arith)) e)

      lanes : (h : Half) → map (bit_of solved (λ _. curr) h) (output_nets p.slot (output_len p.cell))
          ≡ map (bit_of solved (age_of (reads_past d) solved) h) (output_nets p.slot (output_len p.cell))
      lanes h =
          map-tab _ (output_len p.cell) (λ (i : ℕ). slot (p.slot + i)) ∙ tab_ext (output_len p.cell) _ _ (at h)
          ∙ sym (map-tab _ (output_len p.cell) (λ (i : ℕ). slot (p.slot + i)))

  claim-passes : (p : Placed) → CellLaid d p → CellShown (bit_rule d was) d now p
      → ((j : ℕ) → p.slot ≤ j → j < p.slot + slots_of p.cell → cell_of d j ≡ p) → 0 < output_len p.cell →
      is_input p.cell ≡ false
      → claim_test (reads_past d) p.slot (output_len p.cell) p.cell solved ≡ true
  claim-passes p cl shown own wide i = go (claimed_kind p.cell wide i)
    where
      go : Claimed p.cell → claim_test (reads_past d) p.slot (output_len p.cell) p.cell solved ≡ true
      go (is_asserted h) = cell-passes p cl shown h
      go (is_io_buf r is) =
          equal_pass _ _ (iobuf_reads p own r ∙ sym (is solved (reads_past d) p.slot (output_len p.cell)))

  -- A new cell's step is an obligation, and says nothing.
  new_said : (s w : ℕ) (o : Option Cell) → Each (SaidOf solved) (meant_new (reads_past d) s w o)
  new_said s w none = tt
  new_said s w (some a) = (tt, tt)

  cell_said : (p : Placed) → CellLaid d p → CellShown (bit_rule d was) d now p
      → ((j : ℕ) → p.slot ≤ j → j < p.slot + slots_of p.cell → cell_of d j ≡ p) →
      Each (SaidOf solved) (meant_cell d p)
  cell_said p cl shown own = go (eqb (output_len p.cell) 0) refl
    where
      add : 0 < output_len p.cell → (i : Bool) → is_input p.cell ≡ i
          → Said solved
          (cond i (declared (curr_value (output_nets p.slot (output_len p.cell))))
          (asserted (claim (reads_past d) p.slot (output_len p.cell) p.cell)))
          (claim_test (reads_past d) p.slot (output_len p.cell) p.cell)
      add wide true e = tt
      add wide false e = claim-passes p cl shown own wide e

      go : (z : Bool) → eqb (output_len p.cell) 0 ≡ z
          → Each (SaidOf solved) (cond z [] (meant_add (reads_past d) p.slot (output_len p.cell) p.cell
          ∷ meant_new (reads_past d) p.slot (output_len p.cell) (new_cell_in d.cell_reps p.slot)))
      go true e = tt
      go false e = (
        add (positive (output_len p.cell) (eqb-false (output_len p.cell) 0 e)) (is_input p.cell) refl,
        new_said p.slot (output_len p.cell) (new_cell_in d.cell_reps p.slot),
      )

  cells_said : (cells : List Placed) → Each (CellLaid d) cells → Each (CellShown (bit_rule d was) d now) cells
      → Each (λ (p : Placed). (j : ℕ) → p.slot ≤ j → j < p.slot + slots_of p.cell → cell_of d j ≡ p) cells →
      Each (SaidOf solved) (meant_cells d cells)
  unfolding meant_cells
  cells_said [] cl shown own = tt
  cells_said (p ∷ cells) cl shown own =
      each_append (SaidOf solved) (meant_cell d p) (meant_cells d cells) (cell_said p cl.0 shown.0 own.0)
      (cells_said cells cl.1 shown.1 own.1)

  -- ---- joined pasts have the same bits

  past-bits : (n : Net) → past_bits (reads_past d) solved (n ∷ [])
      ≡ tb (x_of (of_net g.was n) ∷ []) (y_of (of_net g.was n) ∷ [])
  unfolding read_bits
  past-bits (constant t) = refl
  past-bits (slot i) = refl

  join_passes : (from to : Net) → of_net g.was from ≡ of_net g.was to → join_test (reads_past d) from to solved ≡ true
  join_passes from to e =
      equal_pass _ _ (past-bits from ∙ ap (λ (t : Trit). tb (x_of t ∷ []) (y_of t ∷ [])) e ∙ sym (past-bits to))

  -- ---- a replaced Void has the bits of its replacement's `to` as read

  void-passes : (p : NetPair) → pair_of d p ≡ of_void → VoidShown (bit_rule d was) d now p →
      void_test (reads_past d) p.from p.to solved ≡ true
  unfolding read_bits pairs
  void-passes p e shown = go (void-from d p e)
    where
      first : (n q : BitPair) → n ∷ [] ≡ q ∷ [] → n ≡ q
      first n q h = cc

      at : (i : ℕ) → p.from ≡ slot i → curr_bits (reads_past d) solved (p.from ∷ [])
          ≡ net_bit (reads_past d) solved p.to
      at i q = rw q (ap (λ (n : BitPair). tb (n.x ∷ []) (n.y ∷ [])) (first (now i) _ (shown e i q)))

      go : (i : ℕ) × (p.from ≡ slot i) → void_test (reads_past d) p.from p.to solved ≡ true
      go s = equal_pass _ _ (at s.0 s.1)

  pair_said : (mode : Mode) (k : Pair) (p : NetPair) → pair_of d p ≡ k → VoidShown (bit_rule d was) d now p
      → (reading.Joined d p → of_net g.was p.from ≡ of_net g.was p.to) →
      Each (SaidOf solved) (meant_pair (reads_past d) mode k p)
  pair_said mode equal p e shown alike = tt
  pair_said mode of_void p e shown alike = (void-passes p e shown, tt)
  pair_said mode of_dffs p e shown alike =
      (join_passes p.from p.to (alike e), (tt, each_ported (SaidOf solved) mode _ (tt, tt)))
  pair_said mode ordinary p e shown alike = (tt, tt)

  pairs_said : (pairs : List NetPair) → Each (VoidShown (bit_rule d was) d now) pairs
      → Each (λ (p : NetPair). reading.Joined d p → of_net g.was p.from ≡ of_net g.was p.to) pairs →
      Each (SaidOf solved) (meant_pairs d pairs)
  unfolding meant_pairs
  pairs_said [] shown alike = tt
  pairs_said (p ∷ rest) shown alike =
      each_append (SaidOf solved) (meant_pair (reads_past d) d.mode (pair_of d p) p) (meant_pairs d rest)
      (pair_said d.mode (pair_of d p) p refl shown.0 alike.0)
      (pairs_said rest shown.1 alike.1)

  -- The solved bits pass every asserted test.
  pub solved_said : Alike d g → Each (SaidOf solved) (meant_steps d)
  solved_said alike =
      each_append (SaidOf solved) (meant_cells d d.cells) (meant_pairs d d.net_reps)
      (cells_said d.cells laid.cells solution.cells (whole_cells d laid))
      (pairs_said d.net_reps solution.voids alike)
