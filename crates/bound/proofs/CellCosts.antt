-- What a cell's terms, its claim and its obligation cost, for each word of its record.
use mathlib.Core.Path.{subst}
use mathlib.Core.Bool.{Bool}
use mathlib.Core.List.{List, [], ◌∷◌, ◌++◌}
use Prim.Native.Nat.{ℕ, ◌+◌, ◌-◌, ◌*◌, ◌≤◌}
use native.Mathlib.Omega.{arith}
use lib.ListN.{length, take, drop, length-append, length-take, length-drop}
use Rattle.logic.proofs.TableLaws.{length-tab}
use Rattle.logic.specs.Net.{Net, slot}
use Rattle.logic.specs.declared.Trit.{Trit}
use Rattle.cell.specs.Cell.{Cell, output_len}
use Rattle.cell.specs.Cell as c
use Rattle.cell.specs.Each.{Each}
use Rattle.right.specs.Bounds.{Bounded}
use Rattle.right.specs.Shape.{Shaped}
use Rattle.smt.specs.Prog.{curr}
use Rattle.smt.specs.Builder.{cell, curr_net, curr_value, output_nets, overwritten}
use Rattle.bound.proofs.CostsLaws.{CostsOnly, costs_ret, costs_more}
use Rattle.bound.specs.Costs.{sum_by}
use Rattle.bound.proofs.Builder.{tv_not_costs, tv_and_costs, tv_mux_costs, net_of_costs, net_costs, value_of_costs}
use Rattle.bound.proofs.Cells.{then, match_cost, value_costs, control_net_costs, tv_binary_costs, shifted_costs}
use Rattle.bound.proofs.Cells.{match_cell_costs, dff_cell_costs, adc_cell_costs}
use Rattle.bound.specs.Words.{record_words, pattern_words}

-- 64 alternates of no constants are the dearest that a word can ask for.
patterns_cost : (patterns : List (List (List Trit))) →
    Each (λ (alternates : List (List Trit)). length alternates ≤ 64) patterns
    → sum_by match_cost patterns + length patterns * 138 ≤ 5014 * sum_by pattern_words patterns
unfolding sum_by
patterns_cost [] h = omega arith
patterns_cost (p ∷ patterns) h = let rest = patterns_cost patterns h.1 in let here = h.0 in omega arith

-- The outputs of a cell, as nets.
pub out_costs : (s w : ℕ) → CostsOnly (w * 16) (curr_value (output_nets s w))
out_costs s w =
    subst (λ (k : ℕ). CostsOnly (k * 16) (curr_value (output_nets s w))) (length-tab w (λ (i : ℕ). slot (s + i)))
    (value_of_costs curr_net (net_of_costs curr) (output_nets s w))

length-overwritten : (value : List Net) (offset : ℕ) (update : List Net) →
    length (overwritten value offset update) ≤ length value + length update
length-overwritten value offset update =
    rw (
      length-append (take offset value) (update ++ drop (offset + length update) value),
      length-append update (drop (offset + length update) value),
      length-take offset value,
      length-drop (offset + length update) value,
    ) (omega arith)

module _ (reads_past : ℕ → Bool) where
  pub cell_costs : (s : ℕ) (a : Cell) → Shaped a → Bounded a →
      CostsOnly (5100 * record_words a) (cell reads_past s (output_len a) a)
  unfolding cell
  cell_costs s c.void h b = costs_ret _ _ _ tt
  cell_costs s c.note h b = costs_ret _ _ _ tt
  cell_costs s (c.input n) h b = costs_ret _ _ _ tt
  cell_costs s (c.io_buf n) h b =
      costs_more (n * 16) 10200 _ _ (omega arith)
      (subst (λ (k : ℕ). CostsOnly (k * 16) (cell reads_past s n (c.io_buf n))) (length-tab n (λ (i : ℕ). slot (s + i)))
      (value_costs reads_past (output_nets s n)))
  cell_costs s (c.unary c.buf a) h b =
      costs_more (length a * 16) (5100 * (2 + length a)) _ _ (omega arith) (value_costs reads_past a)
  cell_costs s (c.unary c.inverter a) h b =
      costs_more (length a * 16 + 2) (5100 * (2 + length a)) _ _ (omega arith)
      (then (length a * 16) 2 _ _ (value_costs reads_past a) λ x. tv_not_costs x)
  cell_costs s (c.binary o a d) h b =
      costs_more (length a * 16 + (length d * 16 + 68)) (5100 * (2 + (length a + length d))) _ _ (omega arith)
      (then (length a * 16) _ _ _ (value_costs reads_past a) λ x.
      then (length d * 16) 68 _ _ (value_costs reads_past d) λ y. tv_binary_costs o x y (length a) _ (omega arith))
  cell_costs s (c.mux sel a d) h b =
      costs_more (10 + (length a * 16 + (length d * 16 + 112))) (5100 * (3 + (length a + length d))) _ _ (omega arith)
      (then 10 _ _ _ (net_costs reads_past sel) λ t.
      then (length a * 16) _ _ _ (value_costs reads_past a) λ x.
      then (length d * 16) 112 _ _ (value_costs reads_past d) λ y. tv_mux_costs t x y _)
  cell_costs s (c.adc a d carry) h b =
      costs_more (length a * 43 + length d * 16 + 80) (5100 * (3 + (length a + length d))) _ _ (omega arith)
      (adc_cell_costs reads_past a d carry b)
  cell_costs s (c.aig a d) h b =
      costs_more (16 + (16 + 68)) 15300 _ _ (omega arith)
      (then 16 _ _ _ (control_net_costs reads_past a) λ x. then 16 68 _ _ (control_net_costs reads_past d) λ y. tv_and_costs
      x y 1)
  cell_costs s (c.shift o value amount stride) h b =
      costs_more 2090 (5100 * (4 + (length value + length amount))) _ _ (omega arith)
      (shifted_costs reads_past o value amount stride b.0 b.1 b.2)
  cell_costs s (c.match value enable patterns) h b =
      costs_more (sum_by match_cost patterns + length patterns * 138 + 154)
      (5100 * (4 + (length value + sum_by pattern_words patterns))) _ _
      (let sum = patterns_cost patterns b.2 in omega arith)
      (match_cell_costs reads_past value enable patterns b.1)
  cell_costs s (c.assign value enable update offset) h b =
      costs_more (10 + (length (overwritten value offset update) * 16 + (length value * 16 + 112)))
      (5100 * (5 + (length value + length update))) _ _
      (let l = length-overwritten value offset update in omega arith)
      (then 10 _ _ _ (net_costs reads_past enable) λ t.
      then (length (overwritten value offset update) * 16) _ _ _
      (value_costs reads_past (overwritten value offset update)) λ x.
      then (length value * 16) 112 _ _ (value_costs reads_past value) λ y. tv_mux_costs t x y _)
  cell_costs s (c.dff f) h b =
      let lc = h.0 in
      let lr = h.1 in
      costs_more (length f.dat * 16 + length f.dat * 32 + 622)
      (5100 * (7 + (length f.dat + (length f.clear_value + length f.reset_value)))) _ _
      (omega arith)
      (dff_cell_costs reads_past f s (length f.dat) (omega arith) (omega arith))
