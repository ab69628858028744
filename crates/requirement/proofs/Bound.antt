-- An accepted list makes at most 8,192 call words for each of its own words.
use mathlib.Core.Path.{◌≡◌, refl, sym, ap, subst}
use mathlib.Core.Bool.{Bool, true, false, cond}
use mathlib.Core.Option.{Option, none, some}
use mathlib.Core.List.{List, [], ◌∷◌, ◌++◌, map}
use Prim.Native.Nat.{ℕ, suc, ◌+◌, ◌*◌, ◌≤◌}
use native.Mathlib.Omega.{arith}
use lib.Dec.{eqb}
use lib.ListN.{length, length-map, length-append}
use Rattle.logic.specs.Word.{term_word}
use Rattle.logic.specs.Net.{Net}
use Rattle.cell.specs.declared.Mode.{Mode}
use Rattle.cell.specs.Cell.{Cell, output_len}
use Rattle.cell.specs.Cell as c
use Rattle.cell.specs.Design.{Design, Placed, NetPair, total, cell_of}
use Rattle.cell.specs.Each.{Each}
use Rattle.right.specs.Bounds.{Bounded, Bounds}
use Rattle.right.specs.Shape.{Shaped}
use Rattle.right.specs.Laid.{Laid, CellLaid}
use Rattle.engine.specs.Meaning.{terms}
use Rattle.engine.specs.Encode.{encode}
use Rattle.working_out.specs.Reading.{reads_past, Pair, equal, of_void, of_dffs, ordinary, pair_of}
use Rattle.smt.specs.Prog.{curr, past}
use Rattle.smt.specs.Builder.{curr_value, output_nets}
use Rattle.bound.proofs.CostsLaws.{CostsOnly, encode_append}
use Rattle.bound.specs.Costs.{sum_by}
use Rattle.bound.proofs.Builder.{tv_eq_costs, tv_refines_costs, net_of_costs, net_costs}
use Rattle.bound.proofs.Cells.{then}
use Rattle.bound.proofs.CellCosts.{out_costs, cell_costs}
use Rattle.bound.specs.Words.{record_words, design_words}
use Rattle.order.specs.Verify.{Step, declared, asserted, obliged, is_input, claim, add_cell, new_cell, replace_net}
use Rattle.order.specs.Verify.{replace_void_net, join_pasts, currents, new_cell_in, with_new, cell_steps, pair_steps, each_cell}
use Rattle.order.specs.Verify.{each_pair, steps, work, start, verify}
use Rattle.order.proofs.Found.{found, own_cells, new_found}
use Rattle.order.proofs.Replacements.{found_at, in_cells, wide, design_in_order}
use Rattle.requirement.proofs.StepsSafe.{output-narrow}
use Rattle.requirement.proofs.Within.{Within, nothing, step, more, both, ported_within, work-words}
use Rattle.requirement.proofs.Within.{assert-step, oblige_step}
use Rattle.requirement.proofs.Exists.{but, asked}
use Rattle.order.proofs.StepsMean.{steps_are}
use Rattle.requirement.proofs.Theorem.{verify-is}
use Rattle.requirement.specs.Requirement3.{query_calls}

module _ (rp : ℕ → Bool) where
  claim_costs : (s : ℕ) (a : Cell) → Shaped a → Bounded a →
      CostsOnly (5100 * record_words a + (output_len a * 16 + 9)) (claim rp s (output_len a) a)
  unfolding claim
  claim_costs s a shaped b =
      then _ _ _ _ (cell_costs rp s a shaped b) λ t. then (output_len a * 16) 9 _ _ (out_costs s (output_len a)) λ o.
      tv_eq_costs o t

  new_costs : (s : ℕ) (a : Cell) → Shaped a → Bounded a →
      CostsOnly (5100 * record_words a + (output_len a * 16 + 20)) (new_cell rp s (output_len a) a)
  unfolding new_cell
  new_costs s a shaped b =
      then _ _ _ _ (cell_costs rp s a shaped b) λ t. then (output_len a * 16) 20 _ _ (out_costs s (output_len a)) λ o.
      tv_refines_costs o t

  replace_net_costs : (from to : Net) → CostsOnly 40 (replace_net rp from to)
  unfolding replace_net
  replace_net_costs from to =
      then 10 30 _ _ (net_of_costs curr from) λ a. then 10 20 _ _ (net_costs rp to) λ b. tv_refines_costs a b

  replace_void_net_costs : (from to : Net) → CostsOnly 29 (replace_void_net rp from to)
  unfolding replace_void_net
  replace_void_net_costs from to =
      then 10 19 _ _ (net_of_costs curr from) λ a. then 10 9 _ _ (net_costs rp to) λ b. tv_eq_costs a b

join_pasts_costs : (from to : Net) → CostsOnly 29 (join_pasts from to)
unfolding join_pasts
join_pasts_costs from to =
    then 10 19 _ _ (net_of_costs past from) λ a. then 10 9 _ _ (net_of_costs past to) λ b. tv_eq_costs a b

currents_costs : (from to : Net) → CostsOnly 40 (currents from to)
unfolding currents
currents_costs from to =
    then 10 30 _ _ (net_of_costs curr from) λ a. then 10 20 _ _ (net_of_costs curr to) λ b. tv_refines_costs a b

net-within : (rp : ℕ → Bool) (p : NetPair) → Within 41 (obliged (replace_net rp p.from p.to) ∷ [])
net-within rp p = oblige_step 41 40 _ _ (omega arith) (replace_net_costs rp p.from p.to) nothing

pair-within : (rp : ℕ → Bool) (mode : Mode) (k : Pair) (p : NetPair) → Within 113 (pair_steps rp mode k p)
pair-within rp mode equal p = nothing
pair-within rp mode of_void p = assert-step 113 29 _ _ (omega arith) (replace_void_net_costs rp p.from p.to) nothing
pair-within rp mode of_dffs p =
    assert-step 113 29 _ _ (omega arith) (join_pasts_costs p.from p.to)
    (oblige_step 82 40 _ _ (omega arith) (currents_costs p.from p.to) (ported_within mode (net-within rp p)))
pair-within rp mode ordinary p = more (omega arith) (net-within rp p)

pairs-within : (d : Design) (pairs : List NetPair) → Within (113 * length pairs) (each_pair d pairs)
unfolding each_pair
pairs-within d [] = nothing
pairs-within d (p ∷ pairs) =
    more (omega arith) (both (pair-within (reads_past d) d.mode (pair_of d p) p) (pairs-within d pairs))

-- A record is a word at least, and an output at most 64 wide.
record_some : (a : Cell) → 1 ≤ record_words a
record_some c.void = omega arith
record_some c.note = omega arith
record_some (c.input n) = omega arith
record_some (c.io_buf n) = omega arith
record_some (c.unary op x) = omega arith
record_some (c.binary op x y) = omega arith
record_some (c.mux s x y) = omega arith
record_some (c.adc x y carry) = omega arith
record_some (c.aig x y) = omega arith
record_some (c.shift op value amount stride) = omega arith
record_some (c.match value enable patterns) = omega arith
record_some (c.assign value enable update offset) = omega arith
record_some (c.dff f) = omega arith

-- What a replacement costs.
abbrev new_cost : Placed → ℕ
new_cost r = 6200 * record_words r.cell

abbrev cell_cost : Placed → ℕ
cell_cost p = 6200 * record_words p.cell

module _ (d : Design) (laid : Laid d) (bounds : Bounds d) where
  add_within : (p : Placed) → CellLaid d p → Bounded p.cell →
      Within (cell_cost p) (add_cell (reads_past d) p.slot (output_len p.cell) p.cell ∷ [])
  add_within p cl b = go (output-narrow p.cell b) (record_some p.cell) (is_input p.cell)
    where
      go : output_len p.cell ≤ 64 → 1 ≤ record_words p.cell → (i : Bool) →
          Within (cell_cost p)
          (cond i (declared (curr_value (output_nets p.slot (output_len p.cell))))
          (asserted (claim (reads_past d) p.slot (output_len p.cell) p.cell)) ∷ [])
      go narrow words true =
          step {n = cell_cost p} {s = declared (curr_value (output_nets p.slot (output_len p.cell)))}
          (output_len p.cell * 16) (omega arith)
          (out_costs p.slot (output_len p.cell)) nothing
      go narrow words false =
          assert-step (cell_cost p) (5100 * record_words p.cell + (output_len p.cell * 16 + 9)) _ _ (omega arith)
          (claim_costs (reads_past d) p.slot p.cell cl.shaped b) nothing

  new-within : (p : Placed) → cell_of d p.slot ≡ p → (o : Option Cell) → new_cell_in d.cell_reps p.slot ≡ o
      → Within (sum_by new_cost (found_at p.slot o)) (with_new (reads_past d) p.slot (output_len p.cell) o)
  unfolding sum_by
  new-within p own none e = nothing
  new-within p own (some a) e =
      let n = new_found d laid p own a e in
      let b = found (λ (q : Placed). Bounded q.cell) d.cell_reps p.slot a bounds.new_cells e in
      let words = record_some a in
      let narrow = output-narrow a b in
      oblige_step (6200 * record_words a + 0) (5100 * record_words a + (output_len a * 16 + 20)) _ _ (omega arith)
      (subst (λ (w : ℕ). CostsOnly (5100 * record_words a + (output_len a * 16 + 20))
      (new_cell (reads_past d) p.slot w a)) n.width
      (new_costs (reads_past d) p.slot a n.laid.shaped b)) nothing

  cell-within : (p : Placed) → cell_of d p.slot ≡ p → CellLaid d p → Bounded p.cell
      → Within (cell_cost p + sum_by new_cost
      (cond (eqb (output_len p.cell) 0) [] (found_at p.slot (new_cell_in d.cell_reps p.slot))))
      (cell_steps d p)
  cell-within p own cl b = go (eqb (output_len p.cell) 0)
    where
      go : (z : Bool) →
          Within (cell_cost p + sum_by new_cost (cond z [] (found_at p.slot (new_cell_in d.cell_reps p.slot))))
          (cond z []
          (add_cell (reads_past d) p.slot (output_len p.cell) p.cell ∷ with_new (reads_past d) p.slot
          (output_len p.cell) (new_cell_in d.cell_reps p.slot)))
      go true = nothing
      go false = both (add_within p cl b) (new-within p own (new_cell_in d.cell_reps p.slot) refl)

  sum_append : (k l : List Placed) → sum_by new_cost (k ++ l) ≡ sum_by new_cost k + sum_by new_cost l
  unfolding sum_by
  sum_append [] l = omega arith
  sum_append (p ∷ k) l = let h = sum_append k l in omega arith

  cells-within : (cells : List Placed) → Each (λ (p : Placed). cell_of d p.slot ≡ p) cells → Each (CellLaid d) cells
      → Each (λ (p : Placed). Bounded p.cell) cells →
      Within (sum_by cell_cost cells + sum_by new_cost (in_cells d.cell_reps cells)) (each_cell d cells)
  unfolding each_cell in_cells sum_by
  cells-within [] own cl b = nothing
  cells-within (p ∷ cells) own cl b =
      let sum =
      sum_append (cond (eqb (output_len p.cell) 0) [] (found_at p.slot (new_cell_in d.cell_reps p.slot)))
      (in_cells d.cell_reps cells) in
      more (omega arith) (both (cell-within p own.0 cl.0 b.0) (cells-within cells own.1 cl.1 b.1))

  -- Each replacement is met once at most.
  wide_sum : (reps : List Placed) → sum_by new_cost (wide reps) ≤ sum_by new_cost reps
  unfolding wide sum_by
  wide_sum [] = omega arith
  wide_sum (r ∷ reps) = go (eqb (output_len r.cell) 0) (wide_sum reps)
    where
      go : (z : Bool) → sum_by new_cost (wide reps) ≤ sum_by new_cost reps →
          sum_by new_cost (cond z [] (r ∷ []) ++ wide reps) ≤ new_cost r + sum_by new_cost reps
      go true h = omega arith
      go false h = omega arith

  scaled : (l : List Placed) → sum_by cell_cost l ≡ 6200 * sum_by (λ (p : Placed). record_words p.cell) l
  unfolding sum_by
  scaled [] = omega arith
  scaled (p ∷ l) = let h = scaled l in omega arith

  with_slot : (l : List Placed) →
      sum_by (λ (p : Placed). record_words p.cell) l ≤ sum_by (λ (p : Placed). 1 + record_words p.cell) l
  unfolding sum_by
  with_slot [] = omega arith
  with_slot (p ∷ l) = let h = with_slot l in omega arith

  steps-within : Within (8100 * design_words d) (steps d)
  steps-within =
      let met = ap (sum_by new_cost) (design_in_order d laid) in
      let once = wide_sum d.cell_reps in
      let cells = scaled d.cells in
      let reps = scaled d.cell_reps in
      let slots = with_slot d.cell_reps in
      more (omega arith)
      (both (cells-within d.cells (own_cells d laid) laid.cells bounds.cells)
      (pairs-within d d.net_reps))

  query-words : (n : ℕ) (l : List ℕ) → length (encode (query_calls n l)) ≤ length l + 6
  unfolding encode
  query-words n [] = omega arith
  query-words n (o ∷ l) =
      rw (
        length-append (map term_word l) (1073741858 ∷ term_word n ∷ 1073741878 ∷ term_word (suc n) ∷ 1073741847 ∷ []),
        length-map l term_word,
      )
      (omega arith)

  pub verify-words : length (encode (verify d)) ≤ 8192 * design_words d
  unfolding but asked
  verify-words =
      let steps-words : length (encode (but d)) + length (asked d) ≤ 8100 * design_words d =
      subst (λ (l : List Step). length (encode (work l (start (total d))).calls) + length
      (work l (start (total d))).res ≤ 8100 * design_words d)
      (sym (steps_are d)) (work-words steps-within (start (total d))) in
      let last = query-words (terms (but d)) (asked d) in
      let sum = encode_append (but d) (query_calls (terms (but d)) (asked d)) in
      rw (verify-is d) (omega arith)
