-- The steps of the order of work, each with its test: what its term says of the nets' bits.
use mathlib.Core.Path.{◌≡◌, refl, sym, ap, ap₂, ◌∙◌}
use mathlib.Core.Bool.{Bool, true, false, cond, not, true≢false}
use mathlib.Core.Option.{Option, none, some}
use mathlib.Core.List.{List, [], ◌∷◌, ◌++◌, map-append}
use Prim.Native.Nat.{ℕ, ◌+◌, ◌<◌}
use native.Mathlib.Omega.{arith}
use lib.Dec.{eqb}
use borrow.Author.Tests.{eqb-false}
use Rattle.logic.proofs.TableLaws.{length-tab}
use Rattle.logic.specs.Net.{Net, slot}
use Rattle.cell.specs.declared.Mode.{Mode}
use Rattle.cell.specs.declared.Mode.TheVariants.{Ported, Inductive}
use Rattle.cell.specs.Cell.{Cell, output_len}
use Rattle.cell.specs.Design.{Design, Placed, NetPair, cell_of}
use Rattle.cell.specs.Each.{Each}
use Rattle.cell.proofs.EachLaws.{each_append, each_ported}
use Rattle.right.specs.Shape.{Shaped}
use Rattle.right.specs.Laid.{Laid, CellLaid}
use Rattle.engine.specs.Meaning.{Value, bool, as_bool, all, Assignment}
use Rattle.working_out.specs.Reading.{reads_past, Pair, equal, of_void, of_dffs, ordinary, pair_of}
use Rattle.smt.specs.Prog.{◌>>=◌, curr, past}
use Rattle.smt.specs.Builder.{curr_net, past_net, curr_value, output_nets, net, cell}
use Rattle.smt.specs.Formula.{net_bits}
use Rattle.smt.specs.Wp.{wp}
use Rattle.smt.proofs.WpLaws.{wp_mono, wp_seq}
use Rattle.smt.proofs.Terms.{Is, net_of-wp, value_of-wp, tv_eq-wp, tv_refines-wp}
use Rattle.smt.specs.CellBits.{NotInput, curr_bits}
use Rattle.smt.proofs.CellBitsLaws.{net-wp, cell-wp}
use Rattle.order.proofs.Found.{own_cells, may_replace_lem, new_found}
use Rattle.order.specs.Meant.{Meant, claim_test, new_test, net_test, void_test, join_test, current_test, meant_add}
use Rattle.order.specs.Meant.{meant_new, meant_pair, meant_cell, meant_cells, meant_pairs, meant_steps, Says, StepIs}
use Rattle.order.specs.Meant.{MeantIs}
use Rattle.order.proofs.MeantLaws.{steps_of, truths}
use Rattle.order.specs.Verify.{Step, declared, asserted, is_input, claim, add_cell, new_cell, replace_net}
use Rattle.order.specs.Verify.{replace_void_net, join_pasts, currents, new_cell_in, with_new, cell_steps, pair_steps}
use Rattle.order.specs.Verify.{each_cell, each_pair, steps, query}

-- ---- these are the steps

new-steps : (rp : ℕ → Bool) (s w : ℕ) (o : Option Cell) → steps_of (meant_new rp s w o) ≡ with_new rp s w o
new-steps rp s w none = refl
new-steps rp s w (some a) = refl

cell-steps : (d : Design) (p : Placed) → steps_of (meant_cell d p) ≡ cell_steps d p
cell-steps d p = go (eqb (output_len p.cell) 0)
  where
    rp : ℕ → Bool
    rp = reads_past d

    go : (b : Bool) → steps_of (cond b [] (meant_add rp p.slot (output_len p.cell) p.cell
        ∷ meant_new rp p.slot (output_len p.cell) (new_cell_in d.cell_reps p.slot)))
        ≡ cond b [] (add_cell rp p.slot (output_len p.cell) p.cell
        ∷ with_new rp p.slot (output_len p.cell) (new_cell_in d.cell_reps p.slot))
    go true = refl
    go false = ap (λ (l : List Step). add_cell rp p.slot (output_len p.cell) p.cell ∷ l)
        (new-steps rp p.slot (output_len p.cell) (new_cell_in d.cell_reps p.slot))

pair-steps : (rp : ℕ → Bool) (mode : Mode) (k : Pair) (p : NetPair) →
    steps_of (meant_pair rp mode k p) ≡ pair_steps rp mode k p
pair-steps rp mode equal p = refl
pair-steps rp mode of_void p = refl
pair-steps rp Ported of_dffs p = refl
pair-steps rp Inductive of_dffs p = refl
pair-steps rp mode ordinary p = refl

cells-steps : (d : Design) (cells : List Placed) → steps_of (meant_cells d cells) ≡ each_cell d cells
unfolding meant_cells each_cell
cells-steps d [] = refl
cells-steps d (p ∷ cells) =
    map-append (λ (m : Meant). m.step) (meant_cell d p) (meant_cells d cells)
    ∙ ap₂ ◌++◌ (cell-steps d p) (cells-steps d cells)

pairs-steps : (d : Design) (pairs : List NetPair) → steps_of (meant_pairs d pairs) ≡ each_pair d pairs
unfolding meant_pairs each_pair
pairs-steps d [] = refl
pairs-steps d (p ∷ pairs) =
    map-append (λ (m : Meant). m.step) (meant_pair (reads_past d) d.mode (pair_of d p) p) (meant_pairs d pairs)
    ∙ ap₂ ◌++◌ (pair-steps (reads_past d) d.mode (pair_of d p) p) (pairs-steps d pairs)

pub steps_are : (d : Design) → steps_of (meant_steps d) ≡ steps d
steps_are d =
    map-append (λ (m : Meant). m.step) (meant_cells d d.cells) (meant_pairs d d.net_reps)
    ∙ ap₂ ◌++◌ (cells-steps d d.cells) (pairs-steps d d.net_reps)

-- ---- what each step's term is

module _ (ρ : Assignment) (v : ℕ → Value) where
  out_wp : (rp : ℕ → Bool) (s w : ℕ) → 0 < w
      → wp ρ v (curr_value (output_nets s w)) (λ r. Is ρ v r (curr_bits rp (net_bits ρ) (output_nets s w)))
  out_wp rp s w wide =
      value_of-wp ρ v curr_net (λ i. curr) (net_of-wp ρ v curr) (output_nets s w)
      (rw (length-tab w (λ (i : ℕ). slot (s + i))) wide)

  module _ (rp : ℕ → Bool) where
    claim-is : (s : ℕ) (a : Cell) → Shaped a → NotInput a → 0 < output_len a
        → wp ρ v (claim rp s (output_len a) a) (Says ρ v (claim_test rp s (output_len a) a))
    unfolding claim
    claim-is s a shaped terms wide =
        wp_seq ρ v (cell rp s (output_len a) a) _ _ _ (cell-wp rp ρ v s a shaped terms wide) λ t ht.
        wp_seq ρ v (curr_value (output_nets s (output_len a))) _ _ _ (out_wp rp s (output_len a) wide) λ o ho.
        tv_eq-wp ρ v o t _ _ ho ht

    pub new_is : (s : ℕ) (a : Cell) → Shaped a → NotInput a → 0 < output_len a
        → wp ρ v (new_cell rp s (output_len a) a) (Says ρ v (new_test rp s (output_len a) a))
    unfolding new_cell
    new_is s a shaped terms wide =
        wp_seq ρ v (cell rp s (output_len a) a) _ _ _ (cell-wp rp ρ v s a shaped terms wide) λ t ht.
        wp_seq ρ v (curr_value (output_nets s (output_len a))) _ _ _ (out_wp rp s (output_len a) wide) λ o ho.
        tv_refines-wp ρ v o t _ _ ho ht

    net-is : (from to : Net) → wp ρ v (replace_net rp from to) (Says ρ v (net_test rp from to))
    unfolding replace_net
    net-is from to =
        wp_seq ρ v (curr_net from) _ _ _ (net_of-wp ρ v curr from) λ a ha.
        wp_seq ρ v (net rp to) _ _ _ (net-wp rp ρ v to) λ b hb. tv_refines-wp ρ v a b _ _ ha hb

    void-is : (from to : Net) → wp ρ v (replace_void_net rp from to) (Says ρ v (void_test rp from to))
    unfolding replace_void_net
    void-is from to =
        wp_seq ρ v (curr_net from) _ _ _ (net_of-wp ρ v curr from) λ a ha.
        wp_seq ρ v (net rp to) _ _ _ (net-wp rp ρ v to) λ b hb. tv_eq-wp ρ v a b _ _ ha hb

    join_is : (from to : Net) → wp ρ v (join_pasts from to) (Says ρ v (join_test rp from to))
    unfolding join_pasts
    join_is from to =
        wp_seq ρ v (past_net from) _ _ _ (net_of-wp ρ v past from) λ a ha.
        wp_seq ρ v (past_net to) _ _ _ (net_of-wp ρ v past to) λ b hb. tv_eq-wp ρ v a b _ _ ha hb

    current-is : (from to : Net) → wp ρ v (currents from to) (Says ρ v (current_test rp from to))
    unfolding currents
    current-is from to =
        wp_seq ρ v (curr_net from) _ _ _ (net_of-wp ρ v curr from) λ a ha.
        wp_seq ρ v (curr_net to) _ _ _ (net_of-wp ρ v curr to) λ b hb. tv_refines-wp ρ v a b _ _ ha hb

    -- An Input is only declared; any other cell with an output is claimed.
    add_is : (s : ℕ) (a : Cell) → Shaped a → 0 < output_len a → MeantIs ρ v (meant_add rp s (output_len a) a)
    add_is s a shaped wide = go (is_input a) refl
      where
        w : ℕ
        w = output_len a

        go : (b : Bool) → is_input a ≡ b →
            StepIs ρ v
            (cond b (declared (curr_value (output_nets s (output_len a)))) (asserted (claim rp s (output_len a) a)))
            (claim_test rp s (output_len a) a)
        go true e =
            wp_mono ρ v (curr_value (output_nets s (output_len a))) _ _ (λ r _. tt) (out_wp rp s (output_len a) wide)
        go false e = claim-is s a shaped (λ n q. true≢false (sym (ap is_input q) ∙ e)) wide

  -- The query is false just where every obligation's term is true.
  pub query-is : (l : List ℕ) → wp ρ v (query l) (λ r. v r ≡ bool (not (all (truths v l))))
  unfolding query truths ◌>>=◌
  query-is l = λ k e r q. q ∙ ap (λ (x : Value). bool (not (as_bool x))) e

-- ---- every step of an accepted design

pub positive : (n : ℕ) → (n ≡ 0 → ⊥) → 0 < n
positive n ne = omega arith

module _ (d : Design) (laid : Laid d) (ρ : Assignment) (v : ℕ → Value) where
  new_means : (p : Placed) → cell_of d p.slot ≡ p → 0 < output_len p.cell → (o : Option Cell) →
      new_cell_in d.cell_reps p.slot ≡ o
      → Each (MeantIs ρ v) (meant_new (reads_past d) p.slot (output_len p.cell) o)
  new_means p own wide none e = tt
  new_means p own wide (some a) e =
      let n = new_found d laid p own a e in (
        rw n.width
            at (new_is ρ v (reads_past d) p.slot a n.laid.shaped (may_replace_lem a n.replaces.new)
            (rw n.width wide)),
        tt,
      )

  cell_means : (p : Placed) → cell_of d p.slot ≡ p → Shaped p.cell → Each (MeantIs ρ v) (meant_cell d p)
  cell_means p own shaped = go (eqb (output_len p.cell) 0) refl
    where
      go : (b : Bool) → eqb (output_len p.cell) 0 ≡ b
          → Each (MeantIs ρ v) (cond b [] (meant_add (reads_past d) p.slot (output_len p.cell) p.cell
          ∷ meant_new (reads_past d) p.slot (output_len p.cell) (new_cell_in d.cell_reps p.slot)))
      go true e = tt
      go false e =
          let wide = positive (output_len p.cell) (eqb-false (output_len p.cell) 0 e) in (
            add_is ρ v (reads_past d) p.slot p.cell shaped wide,
            new_means p own wide (new_cell_in d.cell_reps p.slot) refl,
          )

  cells_mean : (cells : List Placed) → Each (λ (p : Placed). cell_of d p.slot ≡ p) cells → Each (CellLaid d) cells
      → Each (MeantIs ρ v) (meant_cells d cells)
  unfolding meant_cells
  cells_mean [] own laid = tt
  cells_mean (p ∷ cells) own laid =
      each_append (MeantIs ρ v) (meant_cell d p) (meant_cells d cells) (cell_means p own.0 laid.0.shaped)
      (cells_mean cells own.1 laid.1)

  pair_means : (mode : Mode) (k : Pair) (p : NetPair) → Each (MeantIs ρ v) (meant_pair (reads_past d) mode k p)
  pair_means mode equal p = tt
  pair_means mode of_void p = (void-is ρ v (reads_past d) p.from p.to, tt)
  pair_means mode of_dffs p = (
    join_is ρ v (reads_past d) p.from p.to,
    (
      current-is ρ v (reads_past d) p.from p.to,
      each_ported (MeantIs ρ v) mode _ (net-is ρ v (reads_past d) p.from p.to, tt),
    ),
  )
  pair_means mode ordinary p = (net-is ρ v (reads_past d) p.from p.to, tt)

  pairs_mean : (pairs : List NetPair) → Each (MeantIs ρ v) (meant_pairs d pairs)
  unfolding meant_pairs
  pairs_mean [] = tt
  pairs_mean (p ∷ pairs) =
      each_append (MeantIs ρ v) (meant_pair (reads_past d) d.mode (pair_of d p) p) (meant_pairs d pairs)
      (pair_means d.mode (pair_of d p) p) (pairs_mean pairs)

  pub steps_mean : Each (MeantIs ρ v) (meant_steps d)
  steps_mean =
      each_append (MeantIs ρ v) (meant_cells d d.cells) (meant_pairs d d.net_reps)
      (cells_mean d.cells (own_cells d laid) laid.cells)
      (pairs_mean d.net_reps)
