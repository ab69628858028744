-- The calls of every step of an accepted design fit: arguments are earlier terms of the sorts that SMT-LIB asks, and
-- widths are at most 64.
use mathlib.Core.Path.{◌≡◌, refl, sym, ap, ◌∙◌}
use mathlib.Core.Bool.{Bool, true, false, cond, true≢false}
use mathlib.Core.Option.{Option, none, some}
use mathlib.Core.List.{List, [], ◌∷◌}
use Prim.Native.Nat.{ℕ, ◌+◌, ◌≤◌, ◌<◌}
use native.Mathlib.Omega.{arith}
use lib.Dec.{eqb}
use borrow.Author.Tests.{eqb-false}
use Rattle.logic.proofs.TableLaws.{length-tab}
use Rattle.logic.specs.Net.{Net, constant, slot}
use Rattle.cell.specs.declared.Mode.{Mode}
use Rattle.cell.specs.Cell.{Cell, output_len, slots_of}
use Rattle.cell.specs.Cell as c
use Rattle.cell.specs.Design.{Design, Placed, NetPair, total, cell_of}
use Rattle.cell.specs.Each.{Each}
use Rattle.cell.proofs.EachLaws.{each_map, each_append, each_ported}
use Rattle.right.specs.Bounds.{Bounded, Bounds}
use Rattle.right.specs.Nets as layout
use Rattle.right.specs.Nets.{nets_of}
use Rattle.right.specs.Shape.{Shaped}
use Rattle.right.specs.Laid.{Laid, CellLaid, PairWithin}
use Rattle.engine.specs.Sorts.{Sort}
use Rattle.working_out.specs.Reading.{reads_past, Pair, equal, of_void, of_dffs, ordinary, pair_of}
use Rattle.working_out.proofs.LayoutLaws.{at_each, located}
use Rattle.smt.specs.Prog.{curr, past}
use Rattle.smt.specs.Builder.{curr_net, past_net, curr_value, output_nets, net, cell}
use Rattle.smt.specs.CellBits.{NotInput}
use Rattle.soundness.proofs.Safe.{safe, safe_mono, safe_seq, Truth, Width, Within, TritsOf, later, net_of_safe}
use Rattle.soundness.proofs.Safe.{value_of_safe, tv_eq_safe, tv_refines_safe}
use Rattle.soundness.proofs.CellSafe.{net_safe, cell_safe, output-within}
use Rattle.order.specs.Verify.{declared, asserted, is_input, claim, new_cell, replace_net, replace_void_net, join_pasts}
use Rattle.order.specs.Verify.{currents, new_cell_in}
use Rattle.order.proofs.Found.{found, own_cells, may_replace_lem, new_found}
use Rattle.order.specs.Meant.{meant_add, meant_new, meant_net, meant_cell, meant_cells, meant_pair, meant_pairs, meant_steps}
use Rattle.order.proofs.StepsMean.{positive}
use Rattle.requirement.proofs.WorkMeets.{StepSafe, Safe}

-- An output is at most 64 wide.
pub output-narrow : (a : Cell) → Bounded a → output_len a ≤ 64
output-narrow c.void b = omega arith
output-narrow c.note b = omega arith
output-narrow (c.input n) b = omega arith
output-narrow (c.io_buf n) b = omega arith
output-narrow (c.unary op a) b = omega arith
output-narrow (c.binary c.and x y) b = omega arith
output-narrow (c.binary c.or x y) b = omega arith
output-narrow (c.binary c.xor x y) b = omega arith
output-narrow (c.binary c.mul x y) b = omega arith
output-narrow (c.binary c.eq x y) b = omega arith
output-narrow (c.binary c.ult x y) b = omega arith
output-narrow (c.binary c.slt x y) b = omega arith
output-narrow (c.binary c.udiv x y) b = omega arith
output-narrow (c.binary c.umod x y) b = omega arith
output-narrow (c.binary c.sdiv_trunc x y) b = omega arith
output-narrow (c.binary c.smod_trunc x y) b = omega arith
output-narrow (c.mux s x y) b = omega arith
output-narrow (c.adc x y carry) b = omega arith
output-narrow (c.aig x y) b = omega arith
output-narrow (c.shift op value amount stride) b = let l = b.0 in omega arith
output-narrow (c.match value enable patterns) b = let l = b.1 in omega arith
output-narrow (c.assign value enable update offset) b = let l = b.0 in omega arith
output-narrow (c.dff f) b = omega arith

module _ (slots : ℕ) (σ : ℕ → Sort) where
  within : (n : Net) → layout.Within slots n → Within slots σ n
  within (constant t) h = tt
  within (slot i) h = h

  out_safe : (n s w : ℕ) → Width w → s + w ≤ slots → safe slots σ n (curr_value (output_nets s w)) (TritsOf slots σ w)
  out_safe n s w h l =
      rw (length-tab w (λ (i : ℕ). slot (s + i))) at
      (value_of_safe slots σ curr_net (λ n m i. net_of_safe slots σ n curr m i) n (output_nets s w)
      (rw (length-tab w (λ (i : ℕ). slot (s + i))) h)
      (output-within slots σ (λ _. false) s w l))

  module _ (rp : ℕ → Bool) where
    claim_safe : (n s : ℕ) (a : Cell) → Shaped a → NotInput a → 0 < output_len a → Bounded a →
        Each (Within slots σ) (nets_of a) → s + output_len a ≤ slots
        → safe slots σ n (claim rp s (output_len a) a) (λ k r. Truth k σ r)
    unfolding claim
    claim_safe n s a shaped terms wide b nets l =
        let w : Width (output_len a) = (wide, output-narrow a b) in
        safe_seq slots σ n (cell rp s (output_len a) a) _ _ _ (cell_safe slots σ rp n s a shaped terms wide b nets l)
        λ i t li g.
        safe_seq slots σ i (curr_value (output_nets s (output_len a))) _ _ _ (out_safe i s (output_len a) w l) λ j o lj h.
        tv_eq_safe slots σ j (output_len a) o t w h (later slots σ (output_len a) i j t lj g)

    new_safe : (n s : ℕ) (a : Cell) → Shaped a → NotInput a → 0 < output_len a → Bounded a →
        Each (Within slots σ) (nets_of a) → s + output_len a ≤ slots
        → safe slots σ n (new_cell rp s (output_len a) a) (λ k r. Truth k σ r)
    unfolding new_cell
    new_safe n s a shaped terms wide b nets l =
        let w : Width (output_len a) = (wide, output-narrow a b) in
        safe_seq slots σ n (cell rp s (output_len a) a) _ _ _ (cell_safe slots σ rp n s a shaped terms wide b nets l)
        λ i t li g.
        safe_seq slots σ i (curr_value (output_nets s (output_len a))) _ _ _ (out_safe i s (output_len a) w l) λ j o lj h.
        tv_refines_safe slots σ j (output_len a) o t w h (later slots σ (output_len a) i j t lj g)

    replace_net_safe : (n : ℕ) (from to : Net) → Within slots σ from → Within slots σ to →
        safe slots σ n (replace_net rp from to) (λ k r. Truth k σ r)
    unfolding replace_net
    replace_net_safe n from to f t =
        safe_seq slots σ n (curr_net from) _ _ _ (net_of_safe slots σ n curr from f) λ i a li g.
        safe_seq slots σ i (net rp to) _ _ _ (net_safe slots σ rp i to t) λ j b lj h.
        tv_refines_safe slots σ j 1 a b (omega arith) (later slots σ 1 i j a lj g) h

    replace_void_net_safe : (n : ℕ) (from to : Net) → Within slots σ from → Within slots σ to →
        safe slots σ n (replace_void_net rp from to) (λ k r. Truth k σ r)
    unfolding replace_void_net
    replace_void_net_safe n from to f t =
        safe_seq slots σ n (curr_net from) _ _ _ (net_of_safe slots σ n curr from f) λ i a li g.
        safe_seq slots σ i (net rp to) _ _ _ (net_safe slots σ rp i to t) λ j b lj h.
        tv_eq_safe slots σ j 1 a b (omega arith) (later slots σ 1 i j a lj g) h

  join_pasts_safe : (n : ℕ) (from to : Net) → Within slots σ from → Within slots σ to →
      safe slots σ n (join_pasts from to) (λ k r. Truth k σ r)
  unfolding join_pasts
  join_pasts_safe n from to f t =
      safe_seq slots σ n (past_net from) _ _ _ (net_of_safe slots σ n past from f) λ i a li g.
      safe_seq slots σ i (past_net to) _ _ _ (net_of_safe slots σ i past to t) λ j b lj h.
      tv_eq_safe slots σ j 1 a b (omega arith) (later slots σ 1 i j a lj g) h

  currents_safe : (n : ℕ) (from to : Net) → Within slots σ from → Within slots σ to →
      safe slots σ n (currents from to) (λ k r. Truth k σ r)
  unfolding currents
  currents_safe n from to f t =
      safe_seq slots σ n (curr_net from) _ _ _ (net_of_safe slots σ n curr from f) λ i a li g.
      safe_seq slots σ i (curr_net to) _ _ _ (net_of_safe slots σ i curr to t) λ j b lj h.
      tv_refines_safe slots σ j 1 a b (omega arith) (later slots σ 1 i j a lj g) h

-- A cell of the design ends within its slots.
ends : (d : Design) → Laid d → Each (λ (p : Placed). p.slot + slots_of p.cell ≤ total d) d.cells
ends d laid =
    at_each (λ (p : Placed). p.slot + slots_of p.cell ≤ total d) d.cells 0 (total d) laid.run
    (λ i low high. (located d.cells 0 (total d) i laid.run low high).before)

module _ (d : Design) (laid : Laid d) (bounds : Bounds d) where
  nets-within : (σ : ℕ → Sort) (nets : List Net) → Each (layout.Within (total d)) nets → Each (Within (total d) σ) nets
  nets-within σ nets h = each_map nets (λ n w. within (total d) σ n w) h

  add_safe : (p : Placed) → CellLaid d p → Bounded p.cell → 0 < output_len p.cell →
      p.slot + slots_of p.cell ≤ total d
      → Safe (total d) (meant_add (reads_past d) p.slot (output_len p.cell) p.cell)
  add_safe p cl b wide end = record { fits = λ σ n. go σ n (is_input p.cell) refl }
    where
      in_slots : p.slot + output_len p.cell ≤ total d
      in_slots = omega arith

      go : (σ : ℕ → Sort) (n : ℕ) (i : Bool) → is_input p.cell ≡ i
          → StepSafe (total d) σ n
          (cond i (declared (curr_value (output_nets p.slot (output_len p.cell))))
          (asserted (claim (reads_past d) p.slot (output_len p.cell) p.cell)))
      go σ n true e =
          safe_mono (total d) σ n (curr_value (output_nets p.slot (output_len p.cell))) _ _ (λ i a l q. tt)
          (out_safe (total d) σ n p.slot (output_len p.cell) (wide, output-narrow p.cell b) in_slots)
      go σ n false e =
          claim_safe (total d) σ (reads_past d) n p.slot p.cell cl.shaped
          (λ k q. true≢false (sym (ap is_input q) ∙ e)) wide b
          (nets-within σ (nets_of p.cell) cl.within) in_slots

  new-is_safe : (p : Placed) → cell_of d p.slot ≡ p → 0 < output_len p.cell → p.slot + slots_of p.cell ≤ total d
      → (o : Option Cell)
      → new_cell_in d.cell_reps p.slot ≡ o →
      Each (Safe (total d)) (meant_new (reads_past d) p.slot (output_len p.cell) o)
  new-is_safe p own wide end none e = tt
  new-is_safe p own wide end (some a) e =
      let n = new_found d laid p own a e in
      let b = found (λ (q : Placed). Bounded q.cell) d.cell_reps p.slot a bounds.new_cells e in
      let w = n.width in (
        record {
          fits = λ σ k. rw w
              at (new_safe (total d) σ (reads_past d) k p.slot a n.laid.shaped (may_replace_lem a n.replaces.new)
              (rw w wide) b
              (nets-within σ (nets_of a) n.laid.within) (rw w (omega arith)));
        },
        tt,
      )

  cell-is_safe : (p : Placed) → cell_of d p.slot ≡ p → CellLaid d p → Bounded p.cell →
      p.slot + slots_of p.cell ≤ total d
      → Each (Safe (total d)) (meant_cell d p)
  cell-is_safe p own cl b end = go (eqb (output_len p.cell) 0) refl
    where
      go : (z : Bool) → eqb (output_len p.cell) 0 ≡ z
          → Each (Safe (total d)) (cond z [] (meant_add (reads_past d) p.slot (output_len p.cell) p.cell
          ∷ meant_new (reads_past d) p.slot (output_len p.cell) (new_cell_in d.cell_reps p.slot)))
      go true e = tt
      go false e =
          let wide = positive (output_len p.cell) (eqb-false (output_len p.cell) 0 e) in
          (add_safe p cl b wide end, new-is_safe p own wide end (new_cell_in d.cell_reps p.slot) refl)

  cells_safe : (cells : List Placed) → Each (λ (p : Placed). cell_of d p.slot ≡ p) cells → Each (CellLaid d) cells
      → Each (λ (p : Placed). Bounded p.cell) cells →
      Each (λ (p : Placed). p.slot + slots_of p.cell ≤ total d) cells
      → Each (Safe (total d)) (meant_cells d cells)
  unfolding meant_cells
  cells_safe [] own cl b end = tt
  cells_safe (p ∷ cells) own cl b end =
      each_append (Safe (total d)) (meant_cell d p) (meant_cells d cells)
      (cell-is_safe p own.0 cl.0 b.0 end.0) (cells_safe cells own.1 cl.1 b.1 end.1)

  ordinary_safe : (p : NetPair) → PairWithin d p → Each (Safe (total d)) (meant_net (reads_past d) p)
  ordinary_safe p w = (
    record {
      fits =
          λ σ n. replace_net_safe (total d) σ (reads_past d) n p.from p.to (within (total d) σ p.from w.from)
          (within (total d) σ p.to w.to);
    },
    tt,
  )

  pair_safe : (mode : Mode) (k : Pair) (p : NetPair) → PairWithin d p →
      Each (Safe (total d)) (meant_pair (reads_past d) mode k p)
  pair_safe mode equal p w = tt
  pair_safe mode of_void p w = (
    record {
      fits =
          λ σ n. replace_void_net_safe (total d) σ (reads_past d) n p.from p.to
          (within (total d) σ p.from w.from) (within (total d) σ p.to w.to);
    },
    tt,
  )
  pair_safe mode of_dffs p w = (
    record {
      fits =
          λ σ n. join_pasts_safe (total d) σ n p.from p.to (within (total d) σ p.from w.from)
          (within (total d) σ p.to w.to);
    },
    (
      record {
        fits =
            λ σ n. currents_safe (total d) σ n p.from p.to (within (total d) σ p.from w.from)
            (within (total d) σ p.to w.to);
      },
      each_ported (Safe (total d)) mode (meant_net (reads_past d) p) (ordinary_safe p w),
    ),
  )
  pair_safe mode ordinary p w = ordinary_safe p w

  pairs_safe : (pairs : List NetPair) → Each (PairWithin d) pairs → Each (Safe (total d)) (meant_pairs d pairs)
  unfolding meant_pairs
  pairs_safe [] w = tt
  pairs_safe (p ∷ pairs) w =
      each_append (Safe (total d)) (meant_pair (reads_past d) d.mode (pair_of d p) p) (meant_pairs d pairs)
      (pair_safe d.mode (pair_of d p) p w.0) (pairs_safe pairs w.1)

  pub steps_safe : Each (Safe (total d)) (meant_steps d)
  steps_safe =
      each_append (Safe (total d)) (meant_cells d d.cells) (meant_pairs d d.net_reps)
      (cells_safe d.cells (own_cells d laid) laid.cells bounds.cells (ends d laid))
      (pairs_safe d.net_reps laid.nets)
